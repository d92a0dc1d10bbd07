use Rattle.cp_pages.proofs.Layouts.{is-paged}
use Rattle.cp_pages.proofs.pool.Pool.pages_are_apart.Goals as goal

pub returns : goal.returns
returns c = rw (← c.self.view_is) (is-paged _ _ _ _ _ c.self.invariant)
