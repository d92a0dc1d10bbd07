use Rattle.cp_session.proofs.GetsLemmas.{replies_fixed}
use Rattle.cp_session.proofs.laws.replies_are_fixed.Goals as goal

pub returns : goal.returns
returns c held got xs ys s t = replies_fixed held got xs ys s t
