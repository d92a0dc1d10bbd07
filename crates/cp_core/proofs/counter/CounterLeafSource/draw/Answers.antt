use Rattle.std.proofs.Common.{arith}
use Rattle.cp_core.proofs.CounterLemmas.{none_below}
use Rattle.cp_core.proofs.counter.CounterLeafSource.draw.Goals as goal

pub returns-clause-once : goal.returns-clause-once
returns-clause-once c = none_below c.args.self.now _ (omega (arith, c.self.view_is))
