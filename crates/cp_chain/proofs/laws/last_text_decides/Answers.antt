use Rattle.std.proofs.Common.{refl}
use Rattle.cp_chain.proofs.Chain.{latest_nil, head_by_last, latest_at_put, latest_at_other}
use Rattle.cp_chain.proofs.laws.last_text_decides.Goals as goal

pub returns-clause-none : goal.returns-clause-none
returns-clause-none c h p = (refl, latest_nil p)

pub returns-clause-head : goal.returns-clause-head
returns-clause-head c = head_by_last

pub returns-clause-put : goal.returns-clause-put
returns-clause-put c = latest_at_put

pub returns-clause-other : goal.returns-clause-other
returns-clause-other c = latest_at_other
