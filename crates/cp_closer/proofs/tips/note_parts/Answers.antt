use Rattle.std.proofs.Common.{rules, ◌≡◌, ℕ, List, map, take, flat_map, sym, ap, subst, ◌∙◌}
use Rattle.cp_core.specs.Frozen.{part_view}
use Rattle.cp_core.specs.declared.frozen_part.FrozenPart.{FrozenPart}
use Rattle.cp_closer.specs.Taken.{put_all, tips_of}
use Rattle.cp_closer.specs.View.{IsPartly}
use Rattle.cp_tips.specs.declared.tip.Tip.{Tip}
use Rattle.cp_closer.proofs.Puts.{put_step_parts, flat_twice, partly_more}
use Rattle.cp_closer.proofs.tips.note_parts.Goals as goal

pub returns-in_err-note_part-clause-partly : goal.returns-in_err-note_part-clause-partly
returns-in_err-note_part-clause-partly c =
    let f : FrozenPart → List (ℕ × Tip) = λ p. tips_of (part_view p) in
    let before : c.loop-part.tips.entries ≡ put_all c.args.tips.now.entries (flat_map f (take c.loop-part.part-index c.args.parts.now)) = c.loop-part.invariant ∙ ap (put_all c.args.tips.now.entries) (flat_twice tips_of part_view (take c.loop-part.part-index c.args.parts.now)) in
    let all : flat_map f c.args.parts.now ≡ flat_map tips_of (map part_view c.args.parts.now) = sym (flat_twice tips_of part_view c.args.parts.now) in
    let partly : IsPartly c.args.tips.now.entries (flat_map tips_of (map part_view c.args.parts.now)) c.note_part.new.tips.entries =
    subst (λ (xs : List (ℕ × Tip)). IsPartly c.args.tips.now.entries xs c.note_part.new.tips.entries) all (partly_more f c.args.tips.now.entries c.loop-part.tips.entries c.note_part.new.tips.entries c.args.parts.now c.loop-part.part-index c.part-item.result c.loop-part-test.true c.part-item.is before c.in_err-note_part.ensures.partly) in
    search (rules, partly)

pub loop-part-preserved : goal.loop-part-preserved
loop-part-preserved c = put_step_parts tips_of part_view _ _ _ c.args.parts.now c.loop-part.part-index c.part-item.result c.loop-part-test.true c.part-item.is c.loop-part.invariant c.in_ok-note_part.ensures.noted
