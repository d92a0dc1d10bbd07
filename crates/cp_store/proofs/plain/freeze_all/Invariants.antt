use Rattle.std.proofs.Common.{◌≡◌}
use Rattle.cp_core.specs.Machine.{run_from}
use Rattle.cp_store.specs.Closes.{freezes_below}
use Rattle.cp_store.proofs.plain.freeze_all.Given as goal

abbrev pub invariant-loop-shard : goal.invariant-loop-shard
invariant-loop-shard l = (l.core.store ≡ l.initial.core.store) × (l.core.state ≡ run_from l.initial.core.store l.initial.core.state (freezes_below l.shard))
