use Rattle.cp_audit.proofs.LogLemmas.{header_of, no_tag, no_epoch, other_epoch, no_count}
use Rattle.cp_audit.proofs.log.take_count.Goals as goal

pub returns-in_default : goal.returns-in_default
returns-in_default c h is same = no_tag c.args.cut.now.rest _ c.in_default.ensures.0 h is

pub returns-in_default-take_epoch : goal.returns-in_default-take_epoch
returns-in_default-take_epoch c h is same = no_epoch c.args.cut.now.rest c.take_tag.new.cut.rest _ c.in-Ok.ensures.0 c.in_default-take_epoch.ensures.0 h is

pub returns-then-of-epoch : goal.returns-then-of-epoch
returns-then-of-epoch c h is same = other_epoch c.args.cut.now.rest c.take_tag.new.cut.rest c.take_epoch.new.cut.rest c.in-Ok-take_epoch.of c.args.epoch c.in-Ok.ensures.0 c.in-Ok-take_epoch.ensures.0 c.if-of-epoch.true h is same

pub returns-in_default-be_u32 : goal.returns-in_default-be_u32
returns-in_default-be_u32 c h is same = no_count c.args.cut.now.rest c.take_tag.new.cut.rest c.take_epoch.new.cut.rest c.in-Ok-take_epoch.of _ c.in-Ok.ensures.0 c.in-Ok-take_epoch.ensures.0 c.in_default-be_u32.ensures.0 h is

pub returns : goal.returns
returns c = rw (← c.if-of-epoch.false) (header_of c.args.cut.now.rest c.take_tag.new.cut.rest c.take_epoch.new.cut.rest c.be_u32.new.self.rest c.in-Ok-take_epoch.of c.in-Ok-be_u32.count c.in-Ok.ensures.0 c.in-Ok-take_epoch.ensures.0 c.in-Ok-be_u32.ensures.0)
