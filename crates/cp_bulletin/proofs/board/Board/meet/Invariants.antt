use Rattle.std.proofs.Common.{◌≡◌}
use Rattle.cp_bulletin.proofs.board.Board.meet.Given as goal

abbrev pub invariant-loop : goal.invariant-loop
invariant-loop g l = l.reader ≡ l.initial.reader
