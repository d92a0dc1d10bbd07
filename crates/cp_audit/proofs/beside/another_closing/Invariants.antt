use Rattle.std.proofs.Common.{◌≡◌, drop}
use Rattle.std.specs.Prelude.{map}
use Rattle.cp_statements.specs.View.{envelope_view}
use Rattle.cp_chain.specs.Rules.{first_of}
use Rattle.cp_evidence.specs.Verdict.{other_closing}
use Rattle.cp_audit.specs.Given.{given_view}
use Rattle.cp_audit.proofs.beside.another_closing.Given as goal

-- none so far
abbrev pub invariant-loop-x : goal.invariant-loop-x
invariant-loop-x l = first_of (map (λ x. other_closing (given_view l.o) (envelope_view x)) l.xs) ≡ first_of (map (λ x. other_closing (given_view l.o) (envelope_view x)) (drop l.x-index l.xs))
