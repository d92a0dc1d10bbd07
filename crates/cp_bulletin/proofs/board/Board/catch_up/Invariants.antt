use Rattle.std.proofs.Common.{◌≡◌}
use Rattle.cp_bulletin.specs.Texts.{StartsWith}
use Rattle.cp_bulletin.proofs.board.Board.catch_up.Given as goal

abbrev pub invariant-loop : goal.invariant-loop
invariant-loop g l = StartsWith l.reader.texts l.initial.reader.texts × (l.reader.met ≡ l.initial.reader.met)
