use Rattle.cp_chain.proofs.Chain.{legal_push, legal_only}
use Rattle.cp_chain.proofs.laws.grows_by_one.Goals as goal

pub returns : goal.returns
returns c s texts text = (legal_only s texts text, λ w. legal_push s texts text w.0 w.1)
