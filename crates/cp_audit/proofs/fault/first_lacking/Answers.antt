use Rattle.std.proofs.Common.{◌≡◌, ℕ, ◌+◌, ◌<◌, false, length, get_or, sym, ap, subst, ◌∙◌, arith, below_more}
use Rattle.std.specs.Prelude.{map}
use Rattle.std.proofs.lemmas.List.{length-map}
use Rattle.cp_evidence.specs.Material.{blocks_in}
use Rattle.cp_audit.specs.Faults.{lacks}
use Rattle.cp_audit.specs.Parts.{part_view}
use Rattle.cp_audit.specs.Walks.{AreBelow}
use Rattle.cp_audit.proofs.FaultLemmas.{lacks_is, lacking_found, none_lacking}
use Rattle.cp_audit.proofs.WalkLemmas.{below_next}
use Rattle.cp_audit.proofs.fault.first_lacking.Goals as goal

pub returns-then-lacks : goal.returns-then-lacks
returns-then-lacks c =
    let before = c.args.frames.now.before in
    let after = c.args.frames.now.after in
    let parts = map part_view c.args.parts.now in
    let block = c.block-block.result in
    let up = c.args.frames.now.after_ascends in
    let lt : c.loop-i.i < length after = omega (arith, c.loop-i-test.true, c.count-i-end.ensures) in
    let size : length (blocks_in after) ≡ length after = length-map after (λ r. r.block) in
    let test = lacks_is before after parts c.loop-i.i block c.count_at_place.result c.count_at.result up lt c.block-block.ensures c.count_at_place.ensures c.count_at.ensures in
    lacking_found before after parts c.loop-i.i block up (omega (arith, lt, size)) c.block-block.ensures (test ∙ sym c.lacks.ensures ∙ c.if-lacks.true) c.loop-i.invariant.0

pub loop-i-preserved : goal.loop-i-preserved
loop-i-preserved c =
    let before = c.args.frames.now.before in
    let after = c.args.frames.now.after in
    let parts = map part_view c.args.parts.now in
    let block = c.block-block.result in
    let place = c.place_from-place.result in
    let up = c.args.frames.now.after_ascends in
    let lt : c.loop-i.i < length after = omega (arith, c.loop-i-test.true, c.count-i-end.ensures) in
    let test = lacks_is before after parts c.loop-i.i block c.count_at_place.result c.count_at.result up lt c.block-block.ensures c.count_at_place.ensures c.count_at.ensures in
    let none : lacks before after parts (get_or (blocks_in after) c.loop-i.i 0) ≡ false = ap (lacks before after parts) (sym c.block-block.ensures) ∙ test ∙ sym c.lacks.ensures ∙ c.if-lacks.false in
    let below = subst (λ (b : ℕ). AreBelow before b place) c.block-block.ensures c.place_from-place.ensures.below in (
      below_more (λ (k : ℕ). lacks before after parts (get_or (blocks_in after) k 0) ≡ false) c.loop-i.i c.loop-i.invariant.0 none,
      c.place_from-place.ensures.within,
      λ next. below_next after before c.loop-i.i (c.loop-i.i + 1) place (omega arith) up below next,
    )

pub returns : goal.returns
returns c =
    let after = c.args.frames.now.after in
    let size : length (blocks_in after) ≡ length after = length-map after (λ r. r.block) in
    none_lacking c.args.frames.now.before after (map part_view c.args.parts.now) (λ k lt. c.loop-i.invariant.0 k (omega (arith, lt, size, c.loop-i-test.false, c.count-i-end.ensures)))
