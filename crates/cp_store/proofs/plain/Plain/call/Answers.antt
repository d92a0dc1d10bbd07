use Rattle.cp_store.proofs.Closings.{call_open}
use Rattle.cp_store.proofs.plain.Plain.call.Goals as goal

pub invariant_of-self : goal.invariant_of-self
invariant_of-self c = call_open c.self.inside.core c.step.new.self c.args.pass c.args.request c.step.result c.self.invariant c.step.ensures.stepped c.step.ensures.unchanged c.step.ensures.store
