use Rattle.std.proofs.Common.{◌≡◌, ◌-◌, length, drop, flat_map}
use Rattle.cp_core.specs.Life.{rows_in}
use Rattle.cp_core.specs.Frozen.{blocks_in}
use Rattle.cp_store.proofs.log.blocks_at.Given as goal

abbrev pub invariant-loop-i : goal.invariant-loop-i
invariant-loop-i l = l.blocks.keys ≡ blocks_in (flat_map rows_in (drop (length l.shards - l.i) l.shards)) l.epoch
