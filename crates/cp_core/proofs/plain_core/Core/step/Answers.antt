use Rattle.std.proofs.Common.{sym, subst}
use Rattle.cp_core.specs.Machine.{Admissible}
use Rattle.cp_core.specs.View.{Standing, state_view, store_view}
use Rattle.cp_core.proofs.StepLemmas.{core_keeps}
use Rattle.cp_core.proofs.plain_core.Core.step.Goals as goal

pub invariant_of-self : goal.invariant_of-self
invariant_of-self c =
    core_keeps (store_view c.self.inside.machine) (store_view c.step.new.self) (state_view c.self.inside.machine) (state_view c.step.new.self) c.args.event c.step.result c.self.invariant.0 c.self.invariant.1
    (subst (λ (x : Standing). Admissible x.store c.args.event) (sym c.self.view_is) c.requires) c.step.ensures.store c.step.ensures.stepped c.step.ensures.unchanged
