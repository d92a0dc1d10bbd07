use Rattle.cp_core.specs.View.{state_view, store_view}
use Rattle.cp_core.proofs.StepLemmas.{keeps_stand}
use Rattle.cp_core.proofs.machine.Machine.settle.Goals as goal

pub settled-requires-clause-stands : goal.settled-requires-clause-stands
settled-requires-clause-stands c = keeps_stand (store_view c.args.self.now) (state_view c.args.self.now) c.items_of-items.result.now c.block.result _ c.requires.keeps c.items_of-items.ensures c.block.ensures
