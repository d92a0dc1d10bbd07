use Rattle.cp_core.specs.View.{state_view, store_view}
use Rattle.cp_core.proofs.StepLemmas.{read_none, read_text}
use Rattle.cp_core.proofs.machine.Machine.read.Goals as goal

pub returns-then-epoch-self : goal.returns-then-epoch-self
returns-then-epoch-self c = read_text (store_view c.args.self.now) (state_view c.args.self.now) c.args.epoch c.if-epoch-self.true

pub returns-else-epoch-self : goal.returns-else-epoch-self
returns-else-epoch-self c = read_none (store_view c.args.self.now) (state_view c.args.self.now) c.args.epoch c.if-epoch-self.false
