use Rattle.std.proofs.Common.{◌≡◌, ℕ, length}
use Rattle.cp_core.specs.Machine.{State}
use Rattle.cp_core.specs.Store.{Store, StoreFits}
use Rattle.cp_store.specs.Freezes.{AreFrozenTo, IsFrozenTo}
use Rattle.cp_store.specs.Running.{HasFewLeaves}
use Rattle.cp_store.proofs.closing.freeze_all.Given as goal

abbrev pub invariant-loop-shard : goal.invariant-loop-shard
invariant-loop-shard l = (length l.shards.items ≡ 16) × AreFrozenTo l.shards.items l.closer l.epoch l.shard
    × ((s : Store) (st : State) (n : ℕ) → StoreFits s → HasFewLeaves s → IsFrozenTo s st l.initial.shards.items l.initial.closer n l.epoch 0 → IsFrozenTo s st l.shards.items l.closer n l.epoch l.shard)
