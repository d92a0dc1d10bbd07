use Rattle.std.proofs.Common.{◌≡◌, take}
use Rattle.cp_tips.specs.View.{tip_view}
use Rattle.cp_core.specs.Life.{cut}
use Rattle.cp_core.proofs.running.tip_at.Given as goal

abbrev pub invariant-loop-item : goal.invariant-loop-item
invariant-loop-item l = tip_view l.tip ≡ cut (take l.item-index l.items) l.block l.through
