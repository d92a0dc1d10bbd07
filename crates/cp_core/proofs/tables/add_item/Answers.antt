use Rattle.cp_statements.specs.View.{entry_view}
use Rattle.cp_core.proofs.TipLemmas.{holds_more}
use Rattle.cp_core.proofs.tables.add_item.Goals as goal

pub returns : goal.returns
returns c rest holds =
    holds_more c.args.shards.now c.args.through c.args.item.now c.in-Row.pass c.in-Row.leaf c.in-Row.pages c.in-Row.entry c.as_slice.result.now (entry_view c.in-Ok.entry) c.tip_in.result rest c.args.tips.now.entries c.insert.new.self.entries
    c.in-Row.is c.as_slice.ensures c.in-Ok.ensures c.if-entry-through.false c.tip_in.ensures c.in_ok-insert.ensures.entries holds
