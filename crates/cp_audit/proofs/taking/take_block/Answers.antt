use Rattle.std.proofs.Common.{sym, ◌∙◌}
use Rattle.cp_audit.proofs.TakingLemmas.{no_block, not_behind}
use Rattle.cp_audit.proofs.taking.take_block.Goals as goal

pub returns-in_default : goal.returns-in_default
returns-in_default c n = no_block n c.args.last c.args.cut.now.rest _ c.in_default.ensures.0

pub returns-else-comes_behind : goal.returns-else-comes_behind
returns-else-comes_behind c n = not_behind n c.args.last c.args.cut.now.rest c.be_u64.new.self.rest c.in-Ok.block c.in-Ok.ensures.0 (sym c.comes_behind.ensures ∙ c.if-comes_behind.false)
