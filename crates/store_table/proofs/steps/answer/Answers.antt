use Rattle.store_table.proofs.steps.answer.Goals as goal

-- src/steps.rt:43:18
pub step-requires : goal.step-requires
step-requires c = c.in-Some.ensures c.args.core.now.store
