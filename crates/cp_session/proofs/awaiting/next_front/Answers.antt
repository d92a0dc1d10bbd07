use Rattle.cp_session.proofs.TrafficLemmas.{grows_more}
use Rattle.cp_session.proofs.awaiting.next_front.Goals as goal

pub returns-in-Ok-clause-grows : goal.returns-in-Ok-clause-grows
returns-in-Ok-clause-grows g c = grows_more _ _ _ _ _ _ c.in_ok-await_head.ensures.grows c.await_request.ensures.grows
