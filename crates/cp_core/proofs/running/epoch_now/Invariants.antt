use Rattle.std.proofs.Common.{◌≡◌, take}
use Rattle.cp_core.specs.Calls.{epoch_now}
use Rattle.cp_core.proofs.running.epoch_now.Given as goal

abbrev pub invariant-loop-item : goal.invariant-loop-item
invariant-loop-item l = l.epoch ≡ epoch_now (take l.item-index l.items)
