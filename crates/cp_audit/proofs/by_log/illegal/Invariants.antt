use Rattle.std.proofs.Common.{◌≡◌, drop}
use Rattle.std.specs.Prelude.{map}
use Rattle.cp_chain.specs.Rules.{first_of}
use Rattle.cp_evidence.specs.Verdict.{fault_in}
use Rattle.cp_audit.specs.Given.{given_view}
use Rattle.cp_audit.specs.Parts.{part_view}
use Rattle.cp_audit.proofs.by_log.illegal.Given as goal

-- none so far
abbrev pub invariant-loop-part : goal.invariant-loop-part
invariant-loop-part l = first_of (map (λ p. fault_in (given_view l.o) (part_view p)) l.parts) ≡ first_of (map (λ p. fault_in (given_view l.o) (part_view p)) (drop l.part-index l.parts))
