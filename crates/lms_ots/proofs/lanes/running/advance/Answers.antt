use Rattle.std.proofs.Common.{◌<◌, length, slice_index, arith}
use Rattle.lms_ots.proofs.SideBySide.{advanced_set, chain-on}
use Rattle.lms_ots.proofs.lanes.running.advance.Goals as goal

pub lanes-preserved : goal.lanes-preserved
lanes-preserved c = λ from to starts held room.
    let j = c.lanes.j in
    let lane : j < 4 = omega arith in
    let i = slice_index c.args.four.now j in
    let within : i < length c.args.values.now = c.requires.chains j lane in
    let place = c.steps_after-places.ensures j lane in
    let further = room j lane in
    let forward = held.forward i within in
    advanced_set _ _ _ _ _ _ _ _ _ _ (c.lanes.invariant from to starts held room) (omega (arith, c.lanes.auto.at)) (omega (arith, c.lanes.auto.values))
    (omega arith) (omega arith)
    (rw place (chain-on _ _ _ _ _ _ _ _ _ forward (held.reached i within) (c.values_after-ends.ensures j lane)))
