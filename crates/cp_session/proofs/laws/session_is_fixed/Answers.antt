use Rattle.cp_session.proofs.FixedLemmas.{session_same}
use Rattle.cp_session.proofs.laws.session_is_fixed.Goals as goal

pub returns : goal.returns
returns c n bytes xs ys out other end stop s t = session_same n bytes xs ys out other end stop s t
