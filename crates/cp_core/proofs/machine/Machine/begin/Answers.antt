use Rattle.std.proofs.Common.{refl}
use Rattle.cp_core.specs.View.{state_view, store_view}
use Rattle.cp_core.proofs.StepLemmas.{begin_made, begin_other, begin_over}
use Rattle.cp_core.proofs.machine.Machine.begin.Goals as goal

pub returns-in_default : goal.returns-in_default
returns-in_default c = record { stepped = begin_other (store_view c.args.self.now) (state_view c.args.self.now) c.args.next c.in_default.not-Running; unchanged = tt; store = refl }

pub returns-then-sealed-self-clause-stepped : goal.returns-then-sealed-self-clause-stepped
returns-then-sealed-self-clause-stepped c = begin_over (store_view c.args.self.now) (state_view c.args.self.now) c.args.next c.in-Running.epoch c.in-Running.is c.if-sealed-self.true

pub returns-clause-stepped : goal.returns-clause-stepped
returns-clause-stepped c = begin_made (store_view c.args.self.now) (state_view c.args.self.now) c.args.next c.in-Running.epoch _ c.requires.keeps c.in-Running.is c.if-sealed-self.false c.in_ok-self.ensures
