use Rattle.std.proofs.Common.{sym, ap, ◌∙◌, arith, take}
use Rattle.std.proofs.lemmas.List.{length-take-le}
use Rattle.cp_tips.specs.Tip.{Tip}
use Rattle.cp_core.specs.Running.{tip_with_item}
use Rattle.cp_core.proofs.RunningLemmas.{cut_more, cut_none, count_few}
use Rattle.cp_core.proofs.running.tip_at.Goals as goal

pub loop-item-init : goal.loop-item-init
loop-item-init c = c.fresh-tip.ensures ∙ cut_none c.args.block c.args.through

pub tip_with_item-tip-requires : goal.tip_with_item-tip-requires
tip_with_item-tip-requires c = omega (arith, ap (λ (t : Tip). t.count) c.loop-item.invariant, count_few (take c.loop-item.item-index c.args.items.now) c.args.block c.args.through, length-take-le c.loop-item.item-index c.args.items.now (omega arith))

pub loop-item-preserved : goal.loop-item-preserved
loop-item-preserved c =
    c.tip_with_item-tip.ensures ∙ ap (λ (t : Tip). tip_with_item c.args.block c.args.through t c.item-item.result) c.loop-item.invariant
    ∙ sym (cut_more c.args.items.now c.loop-item.item-index c.args.block c.args.through c.item-item.result c.loop-item-test.true ∙ ap (tip_with_item c.args.block c.args.through _) (sym c.item-item.is))
