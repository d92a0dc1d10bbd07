use Rattle.std.proofs.Common.{◌≡◌, [], ◌∷◌, arith, take, refl, sym, ap, ◌∙◌}
use Rattle.std.specs.Prelude.{get_or}
use Rattle.std.proofs.lemmas.List.{length-take-le}
use Rattle.cp_core.specs.Life.{freezes}
use Rattle.cp_core.specs.declared.item.Item.{Item}
use Rattle.cp_core.proofs.ListLemmas.{more_freeze, more_other, more_row, text_nil}
use Rattle.cp_core.proofs.RunningLemmas.{epoch_more, epoch_few}
use Rattle.cp_core.proofs.writers.list_at.Goals as goal
use Rattle.cp_core.proofs.writers.list_at.Goals.{in-Frozen+then-through-epoch, in-Frozen+else-through-epoch, in_default}

pub loop-item-init : goal.loop-item-init
loop-item-init c = (refl, sym (text_nil c.args.first.now c.args.epoch))

pub overflow_add-through : goal.overflow_add-through
overflow_add-through c = omega (arith, c.loop-item.invariant.0, epoch_few (take c.loop-item.item-index c.args.items.now), length-take-le c.loop-item.item-index c.args.items.now (omega arith))

pub loop-item-preserved : goal.loop-item-preserved
loop-item-preserved c =
    let more = epoch_more c.args.items.now c.loop-item.item-index c.item-item.result c.loop-item-test.true in
    let one : freezes (c.item-item.result ∷ []) ≡ freezes (get_or c.args.items.now c.loop-item.item-index c.item-item.result ∷ []) = ap (λ (x : Item). freezes (x ∷ [])) c.item-item.is in
    elim c.match-item.branch [
      | in-Frozen+then-through-epoch w ↦ (
        omega (arith, more, one, ap (λ (x : Item). freezes (x ∷ [])) w.in-Frozen.is, w.through-is, c.loop-item.invariant.0),
        ap (λ x. x.now) w.list-is ∙ more_freeze c.args.first.now c.args.items.now c.loop-item.item-index c.item-item.result w.in-Frozen.epoch w.in-Frozen.next c.args.epoch c.item-item.is c.loop-item-test.true w.in-Frozen.is (omega (arith, w.if-through-epoch.true, c.loop-item.invariant.0)),
      )
      | in-Frozen+else-through-epoch w ↦ (
        omega (arith, more, one, ap (λ (x : Item). freezes (x ∷ [])) w.in-Frozen.is, w.through-is, c.loop-item.invariant.0),
        ap (λ x. x.now) w.list-is ∙ c.loop-item.invariant.1 ∙ more_other c.args.first.now c.args.items.now c.loop-item.item-index c.item-item.result w.in-Frozen.epoch w.in-Frozen.next c.args.epoch c.item-item.is c.loop-item-test.true w.in-Frozen.is (λ at. w.if-through-epoch.false (omega (arith, at, c.loop-item.invariant.0))),
      )
      | in_default w ↦ (
        omega (arith, more, one, ap (λ (x : Item). freezes (x ∷ [])) w.in_default.is, w.through-is, c.loop-item.invariant.0),
        ap (λ x. x.now) w.list-is ∙ c.loop-item.invariant.1 ∙ more_row c.args.first.now c.args.items.now c.loop-item.item-index c.item-item.result c.args.epoch c.item-item.is c.loop-item-test.true w.in_default.not-Frozen,
      )
    ]
