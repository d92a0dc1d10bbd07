use Rattle.cp_core.specs.Frozen.{Gained, gained_view}
use Rattle.cp_closer.proofs.Puts.{put_step_seen}
use Rattle.cp_closer.proofs.tips.note_part.Goals as goal

pub loop-x-preserved : goal.loop-x-preserved
loop-x-preserved c = put_step_seen (λ (x : Gained). (x.block, x.after)) gained_view _ _ _ c.deref-x-items.result.now c.args.part.now.blocks.items c.loop-x.x-index c.x-item.result c.deref-x-items.ensures.value c.loop-x-test.true c.x-item.is c.loop-x.invariant c.in_ok-insert.ensures.entries
