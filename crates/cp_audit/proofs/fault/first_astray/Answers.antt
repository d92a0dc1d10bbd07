use Rattle.std.proofs.Common.{◌≡◌, ◌<◌, true, false, length, subst, sym, ◌∙◌, arith, below_more}
use Rattle.std.specs.Prelude.{ℕ, Some, map}
use Rattle.std.proofs.lemmas.List.{length-map}
use Rattle.cp_chain.specs.View.{frame_view}
use Rattle.cp_chain.specs.Standing.{reaches}
use Rattle.cp_audit.specs.Faults.{IsLeast, astray}
use Rattle.cp_audit.specs.Parts.{part_view, frame_in}
use Rattle.cp_audit.proofs.FaultLemmas.{Reaching, none_astray, astray_found}
use Rattle.cp_audit.proofs.PartLemmas.{seen_at}
use Rattle.cp_audit.proofs.fault.first_astray.Goals as goal

pub returns-then-not-reaches : goal.returns-then-not-reaches
returns-then-not-reaches c =
    let parts = c.args.parts.now in
    let lt : c.loop-part.part-index < length parts = omega (arith, c.loop-part-test.true) in
    let size : length (map part_view parts) ≡ length parts = length-map parts part_view in
    let seen = seen_at c.args.frames.now parts c.loop-part.part-index c.part-item.result lt c.part-item.is c.requires.framed in
    let falls : reaches (frame_view c.part-item.result.frame) c.part-item.result.segment ≡ false = sym c.reaches.ensures ∙ c.if-not-reaches.true in
    let found = astray_found (frame_in c.args.frames.now) (map part_view parts) c.loop-part.part-index c.requires.ascend (omega (arith, lt, size)) (seen.1 ∙ falls) c.loop-part.invariant in
    subst (λ (b : ℕ). IsLeast (astray (frame_in c.args.frames.now) (map part_view parts)) (Some b)) seen.0 found

pub loop-part-preserved : goal.loop-part-preserved
loop-part-preserved c =
    let parts = c.args.parts.now in
    let lt : c.loop-part.part-index < length parts = omega (arith, c.loop-part-test.true) in
    let seen = seen_at c.args.frames.now parts c.loop-part.part-index c.part-item.result lt c.part-item.is c.requires.framed in
    let stands : reaches (frame_view c.part-item.result.frame) c.part-item.result.segment ≡ true = sym c.reaches.ensures ∙ c.if-not-reaches.false in
    below_more (Reaching (frame_in c.args.frames.now) (map part_view parts)) c.loop-part.part-index c.loop-part.invariant (seen.1 ∙ stands)

pub returns : goal.returns
returns c =
    let parts = c.args.parts.now in
    let size : length (map part_view parts) ≡ length parts = length-map parts part_view in
    none_astray (frame_in c.args.frames.now) (map part_view parts) (λ k lt. c.loop-part.invariant k (omega (arith, lt, size, c.loop-part-test.false)))
