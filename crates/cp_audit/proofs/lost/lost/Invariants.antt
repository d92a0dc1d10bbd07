use Rattle.std.proofs.Common.{◌≡◌, drop}
use Rattle.std.specs.Prelude.{map}
use Rattle.std.specs.List.{find}
use Rattle.cp_statements.specs.View.{envelope_view}
use Rattle.cp_evidence.specs.Verdict.{is_lost}
use Rattle.cp_audit.specs.Given.{given_view}
use Rattle.cp_audit.proofs.lost.lost.Given as goal

-- none so far
abbrev pub invariant-loop-x : goal.invariant-loop-x
invariant-loop-x l = find (is_lost (given_view l.o)) (map envelope_view l.xs) ≡ find (is_lost (given_view l.o)) (map envelope_view (drop l.x-index l.xs))
