use Rattle.std.proofs.Common.{◌≡◌, map}
use Rattle.cp_core.specs.Leaves.{numbers_below}
use Rattle.cp_store.specs.Shards.{blank_shard}
use Rattle.cp_store.proofs.sharded.blank_shards.Given as goal

abbrev pub invariant-loop-index : goal.invariant-loop-index
invariant-loop-index l = l.shards.items ≡ map (blank_shard l.store l.pages l.closings l.first) (numbers_below l.index)
