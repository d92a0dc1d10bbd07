use Rattle.cp_chain.proofs.Firsts.{no_fault_legal, legal_no_fault, first_fault_least}
use Rattle.cp_chain.proofs.laws.first_fault_is_least.Goals as goal

pub returns-clause-none : goal.returns-clause-none
returns-clause-none c f texts = (no_fault_legal f texts, legal_no_fault f texts)

pub returns-clause-least : goal.returns-clause-least
returns-clause-least c = first_fault_least
