use Rattle.cp_core.specs.View.{state_view, store_view}
use Rattle.cp_core.proofs.StepLemmas.{keeps_stand}
use Rattle.cp_core.proofs.machine.Machine.book.Goals as goal

pub new_call-requires-clause-stands : goal.new_call-requires-clause-stands
new_call-requires-clause-stands c = keeps_stand (store_view c.args.self.now) (state_view c.args.self.now) c.items_of-items.result.now c.block.result _ c.requires.keeps c.items_of-items.ensures c.block.ensures
