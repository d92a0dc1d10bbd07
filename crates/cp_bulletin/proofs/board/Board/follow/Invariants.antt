use Rattle.std.proofs.Common.{◌≡◌, ◌<◌, ◌∷◌, [], ◌++◌, length}
use Rattle.cp_bulletin.specs.Texts.{arc_contents}
use Rattle.cp_bulletin.proofs.board.Board.follow.Given as goal

abbrev pub invariant-loop : goal.invariant-loop
invariant-loop g l = (l.self.texts ≡ l.reader.texts ++ arc_contents l.text ∷ []) × (length l.reader.texts < l.reader.room)
