use Rattle.cp_core.specs.Frozen.{part_view}
use Rattle.cp_closer.specs.Taken.{texts_of}
use Rattle.cp_closer.proofs.Puts.{put_step_parts}
use Rattle.cp_closer.proofs.log.in_order.Goals as goal

pub loop-part-preserved : goal.loop-part-preserved
loop-part-preserved c = put_step_parts texts_of part_view _ _ _ c.args.parts.now c.loop-part.part-index c.part-item.result c.loop-part-test.true c.part-item.is c.loop-part.invariant c.in_ok-add_part.ensures
