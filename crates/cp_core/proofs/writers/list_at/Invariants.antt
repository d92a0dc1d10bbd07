use Rattle.std.proofs.Common.{◌≡◌, ◌+◌, take}
use Rattle.cp_core.specs.Life.{freezes, list_text}
use Rattle.cp_core.proofs.writers.list_at.Given as goal

abbrev pub invariant-loop-item : goal.invariant-loop-item
invariant-loop-item l = (l.through ≡ freezes (take l.item-index l.items) + 1) × (l.list ≡ list_text l.first (take l.item-index l.items) l.epoch)
