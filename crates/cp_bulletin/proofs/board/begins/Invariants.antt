use Rattle.std.proofs.Common.{◌≤◌}
use Rattle.cp_bulletin.specs.Texts.{arc_contents}
use Rattle.cp_bulletin.proofs.Steps.{Agree}
use Rattle.cp_bulletin.proofs.board.begins.Given as goal

abbrev pub invariant-loop-i : goal.invariant-loop-i
invariant-loop-i l = (l.met ≤ l.i) × Agree arc_contents l.i l.list l.texts
