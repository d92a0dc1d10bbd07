use Rattle.cp_store.proofs.Rows.{short_item, spelled_none, spelled_more}
use Rattle.cp_store.proofs.segment.add_texts.Goals as goal

pub loop-item-init : goal.loop-item-init
loop-item-init c = spelled_none c.args.block c.args.epoch c.args.out.now.items

pub add_item-requires : goal.add_item-requires
add_item-requires c = short_item c.args.items.now c.loop-item.item-index c.item-item.result c.requires c.loop-item-test.true c.item-item.is

pub loop-item-preserved : goal.loop-item-preserved
loop-item-preserved c = spelled_more c.args.items.now c.loop-item.item-index c.item-item.result c.args.block c.args.epoch c.args.out.now.items c.loop-item.out.items c.add_item.new.out.items c.loop-item-test.true c.item-item.is c.loop-item.invariant c.in_ok-add_item.ensures
