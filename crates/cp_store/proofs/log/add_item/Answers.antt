use Rattle.cp_statements.specs.View.{entry_view}
use Rattle.cp_store.proofs.Logs.{block_more}
use Rattle.cp_store.proofs.log.add_item.Goals as goal

pub returns : goal.returns
returns c rest holds =
    block_more c.args.epoch c.args.item.now c.in-Row.pass c.in-Row.leaf c.in-Row.pages c.in-Row.entry c.as_slice.result.now (entry_view c.in-Ok.entry) rest c.args.blocks.now.keys c.insert.new.self.keys
    c.in-Row.is c.as_slice.ensures c.in-Ok.ensures c.if-entry-epoch.false c.in_ok-insert.ensures.keys holds
