use Rattle.cp_pages.proofs.Layouts.{free-seen, total-seen}
use Rattle.cp_pages.proofs.pool.Pool.free.Goals as goal

pub returns-clause-free : goal.returns-clause-free
returns-clause-free c = rw (← c.self.view_is) (free-seen _ _ _ _ _ c.self.invariant)

pub returns-clause-total : goal.returns-clause-total
returns-clause-total c = rw (← c.self.view_is) (total-seen _ _ _ _ _ c.self.invariant)
