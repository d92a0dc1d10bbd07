use Rattle.std.proofs.Common.{[], ◌∷◌, ap, arith, take}
use Rattle.std.proofs.lemmas.List.{length-take-le}
use Rattle.cp_core.specs.Life.{freezes}
use Rattle.cp_core.specs.declared.item.Item.{Item}
use Rattle.cp_core.proofs.RunningLemmas.{epoch_more, epoch_few, freezes_one}
use Rattle.cp_core.proofs.running.epoch_now.Goals as goal

pub overflow_add-epoch : goal.overflow_add-epoch
overflow_add-epoch c = omega (arith, c.loop-item.invariant, c.freezes_in-epoch.ensures, freezes_one c.item-item.result, epoch_few (take c.loop-item.item-index c.args.items.now), length-take-le c.loop-item.item-index c.args.items.now (omega arith))

pub loop-item-preserved : goal.loop-item-preserved
loop-item-preserved c = omega (arith, c.loop-item.invariant, c.freezes_in-epoch.ensures, epoch_more c.args.items.now c.loop-item.item-index c.item-item.result c.loop-item-test.true, ap (λ (x : Item). freezes (x ∷ [])) c.item-item.is)
