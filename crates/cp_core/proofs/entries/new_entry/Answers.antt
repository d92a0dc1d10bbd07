use Rattle.cp_tips.specs.View.{tip_view}
use Rattle.cp_core.proofs.EntryLemmas.{put_entry, get_entry}
use Rattle.cp_core.proofs.RunningLemmas.{moved_block}
use Rattle.cp_core.proofs.entries.new_entry.Goals as goal

pub returns-in-Put : goal.returns-in-Put
returns-in-Put c = put_entry c.args.items.now c.args.request.now c.in-Put.request c.in-Put.signature c.in-Put.content c.as_slice.result.now (tip_view c.tip_of-tip.result) c.in-Put.is c.as_slice.ensures (moved_block c.args.items.now c.block.result _ _ c.block.ensures c.tip_of-tip.ensures)

pub returns-in-Get : goal.returns-in-Get
returns-in-Get c = get_entry c.args.items.now c.args.request.now c.in-Get.request (tip_view c.tip_of-tip.result) c.in-Get.is (moved_block c.args.items.now c.block.result _ _ c.block.ensures c.tip_of-tip.ensures)
