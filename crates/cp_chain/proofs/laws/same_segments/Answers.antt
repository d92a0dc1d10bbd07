use Rattle.cp_chain.proofs.Chain.{one_way, one_reaches}
use Rattle.cp_chain.proofs.laws.same_segments.Goals as goal

pub returns-clause-heads : goal.returns-clause-heads
returns-clause-heads c = one_way

pub returns-clause-reaching : goal.returns-clause-reaching
returns-clause-reaching c = one_reaches
