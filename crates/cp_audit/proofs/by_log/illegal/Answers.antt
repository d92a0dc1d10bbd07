use Rattle.std.proofs.Common.{◌≡◌, ◌<◌, ◌≤◌, ◌+◌, List, Option, Some, length, drop, get_or, ap, sym, subst, ◌∙◌, arith}
use Rattle.std.specs.Prelude.{map, option_map}
use Rattle.std.proofs.lemmas.List.{drop_all}
use Rattle.cp_chain.specs.Frame.{Frame}
use Rattle.cp_chain.specs.Rules.{Found, first_fault, first_of, or_else}
use Rattle.cp_chain.specs.View.{fault_view, frame_view}
use Rattle.cp_evidence.specs.Evidence.{Evidence}
use Rattle.cp_evidence.specs.Material.{frame_for}
use Rattle.cp_evidence.specs.Verdict.{fault_in}
use Rattle.cp_audit.specs.declared.part.Part.{Part}
use Rattle.cp_audit.specs.Given.{given_view}
use Rattle.cp_audit.specs.Parts.{part_view}
use Rattle.cp_audit.specs.Rows.{broken_rule}
use Rattle.cp_audit.proofs.PartLemmas.{all_at}
use Rattle.cp_audit.proofs.RowLemmas.{first_here, map_map}
use Rattle.cp_audit.proofs.by_log.illegal.Goals as goal

pub returns-in-Some : goal.returns-in-Some
returns-in-Some c =
    let o = given_view c.args.o.now in
    let row : Part → Option Evidence = λ p. fault_in o (part_view p) in
    let parts = c.args.parts.now in
    let part : Part = c.part-item.result in
    let i = c.loop-part.part-index in
    let lt : c.loop-part.part-index < length parts = omega (arith, c.loop-part-test.true) in
    let framed : frame_view part.frame ≡ frame_for o part.frame.block = subst (λ (p : Part). frame_view p.frame ≡ frame_for o p.frame.block) (sym c.part-item.is) (all_at (λ (p : Part). frame_view p.frame ≡ frame_for o p.frame.block) parts i part c.requires lt) in
    let found : first_fault (frame_for o part.frame.block) part.segment ≡ Some (fault_view c.in-Some.fault) = ap (λ (f : Frame). first_fault f part.segment) (sym framed) ∙ sym c.in_ok-fault.ensures.fault ∙ ap (option_map fault_view) c.in-Some.is in
    let here : row part ≡ Some (broken_rule o (part_view part) (fault_view c.in-Some.fault)) = ap (option_map (λ (x : Found). broken_rule o (part_view part) x)) found in
    let there : row (get_or parts i part) ≡ Some (broken_rule o (part_view part) (fault_view c.in-Some.fault)) = ap row (sym c.part-item.is) ∙ here in (
      broken_rule o (part_view part) (fault_view c.in-Some.fault),
      ap first_of (map_map (fault_in o) part_view parts) ∙ c.loop-part.invariant ∙ first_here row parts i part lt ∙ ap (λ (r : Option Evidence). or_else r (first_of (map row (drop (i + 1) parts)))) there,
      c.in_ok-written.ensures.0,
      c.in_ok-written.ensures.1,
    )

pub returns : goal.returns
returns c =
    let o = given_view c.args.o.now in
    let row : Part → Option Evidence = λ p. fault_in o (part_view p) in
    let parts = c.args.parts.now in
    let past : length parts ≤ c.loop-part.part-index = omega (arith, c.loop-part-test.false) in
    ap first_of (map_map (fault_in o) part_view parts) ∙ c.loop-part.invariant ∙ ap (λ (l : List Part). first_of (map row l)) (drop_all c.loop-part.part-index parts past)
