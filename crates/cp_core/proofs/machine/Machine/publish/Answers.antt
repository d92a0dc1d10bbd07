use Rattle.std.proofs.Common.{refl}
use Rattle.cp_core.specs.View.{state_view, store_view}
use Rattle.cp_core.proofs.StepLemmas.{publish_now, publish_other}
use Rattle.cp_core.proofs.machine.Machine.publish.Goals as goal

pub returns-in_default : goal.returns-in_default
returns-in_default c = record { stepped = publish_other (store_view c.args.self.now) (state_view c.args.self.now) c.in_default.not-Sealed; store = refl }

pub returns-clause-stepped : goal.returns-clause-stepped
returns-clause-stepped c = publish_now (store_view c.args.self.now) (state_view c.args.self.now) c.in-Sealed.epoch c.in-Sealed.is
