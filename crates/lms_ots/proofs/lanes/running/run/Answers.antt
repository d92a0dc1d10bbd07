use Rattle.std.proofs.Common.{◌<◌, length, arith}
use Rattle.lms_ots.proofs.SideBySide.{chain-to}
use Rattle.lms_ots.proofs.lanes.running.run.Goals as goal

pub returns : goal.returns
returns c = λ i lt.
    let within : i < length c.advance_all.new.values = omega (arith, c.advance_all.auto.values) in
    let on_way = c.advance_all.ensures in
    chain-to _ _ _ _ _ _ _ _ _ (on_way.forward i within) (on_way.within i within) (on_way.reached i within) (c.finish.ensures i within)
