use Rattle.std.proofs.Common.{refl}
use Rattle.cp_core.specs.View.{state_view, store_view}
use Rattle.cp_core.proofs.StepLemmas.{freeze_early, freeze_made, freeze_other}
use Rattle.cp_core.proofs.machine.Machine.freeze.Goals as goal

pub returns-in_default : goal.returns-in_default
returns-in_default c = record { stepped = freeze_other (store_view c.args.self.now) (state_view c.args.self.now) c.args.shard (λ e j h. c.in_default.not-Half e j h); unchanged = tt; store = refl }

pub returns-then-shard-taken-clause-stepped : goal.returns-then-shard-taken-clause-stepped
returns-then-shard-taken-clause-stepped c = freeze_early (store_view c.args.self.now) (state_view c.args.self.now) c.args.shard c.in-Half.epoch c.in-Half.taken c.in-Half.is c.if-shard-taken.true

pub returns-clause-stepped : goal.returns-clause-stepped
returns-clause-stepped c = freeze_made (store_view c.args.self.now) (state_view c.args.self.now) c.args.shard c.in-Half.epoch c.in-Half.taken c.in_ok-next.next c.push.new.self c.after_freeze-self.result c.in-Half.is c.if-shard-taken.false c.in_ok-next.ensures c.in_ok-push.ensures.pushed c.after_freeze-self.ensures
