use Rattle.std.proofs.Common.{ap, sym, arith, length}
use Rattle.cp_store.proofs.Rows.{short_item, texts_none, count_more}
use Rattle.cp_store.proofs.segment.count_in.Goals as goal

pub loop-item-init : goal.loop-item-init
loop-item-init c = (ap length (sym (texts_none c.args.block c.args.epoch)), omega arith)

pub count_of-count-requires : goal.count_of-count-requires
count_of-count-requires c = short_item c.args.items.now c.loop-item.item-index c.item-item.result c.requires c.loop-item-test.true c.item-item.is

pub loop-item-preserved : goal.loop-item-preserved
loop-item-preserved c = (
  omega (arith, c.loop-item.invariant.0, c.count_of-count.ensures.count, count_more c.args.items.now c.loop-item.item-index c.item-item.result c.args.block c.args.epoch c.loop-item-test.true c.item-item.is),
  omega (arith, c.loop-item.invariant.1, c.count_of-count.ensures.one),
)
