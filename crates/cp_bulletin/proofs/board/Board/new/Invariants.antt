use Rattle.std.proofs.Common.{◌≡◌, [], length, All, vec_capacity}
use Rattle.cp_bulletin.proofs.board.Board.new.Given as goal

abbrev pub invariant-loop : goal.invariant-loop
invariant-loop g l = (l.writer ≡ l.initial.writer) × (length l.all.items ≡ l.counter) × All (λ s. (s.texts ≡ []) × (s.met ≡ [])) l.all.items × (vec_capacity l.all ≡ vec_capacity l.initial.all)
