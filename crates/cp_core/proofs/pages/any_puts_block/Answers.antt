use Rattle.std.proofs.Common.{sym, ◌∙◌}
use Rattle.cp_core.proofs.PageLemmas.{any_more}
use Rattle.cp_core.proofs.pages.any_puts_block.Goals as goal

pub loop-item-preserved : goal.loop-item-preserved
loop-item-preserved c = any_more c.args.block c.loop-item.item-index c.args.items.now c.item-item.result c.item-item.is c.loop-item-test.true (sym c.puts_block.ensures ∙ c.if-puts_block.false) ∙ c.loop-item.invariant
