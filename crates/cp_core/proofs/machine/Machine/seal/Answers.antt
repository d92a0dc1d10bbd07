use Rattle.std.proofs.Common.{refl}
use Rattle.cp_core.specs.View.{state_view, store_view}
use Rattle.cp_core.proofs.StepLemmas.{seal_made, seal_other}
use Rattle.cp_core.proofs.machine.Machine.seal.Goals as goal

pub returns-in_default : goal.returns-in_default
returns-in_default c = record { stepped = seal_other (store_view c.args.self.now) (state_view c.args.self.now) c.in_default.not-Full; unchanged = tt; store = refl }

pub returns-clause-stepped : goal.returns-clause-stepped
returns-clause-stepped c = seal_made (store_view c.args.self.now) (state_view c.args.self.now) c.in-Full.epoch c.in_ok-seal.seal c.push.new.self c.in-Full.is c.in_ok-seal.ensures c.in_ok-push.ensures.pushed
