use Rattle.cp_pages.proofs.Held.{live_runs_stay, new_runs_are_apart}
use Rattle.cp_pages.proofs.pool.Pool.live_runs_stay.Goals as goal

pub returns-clause-stay : goal.returns-clause-stay
returns-clause-stay c = live_runs_stay

pub returns-clause-apart : goal.returns-clause-apart
returns-clause-apart c = new_runs_are_apart
