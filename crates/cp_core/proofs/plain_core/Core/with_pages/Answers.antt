use Rattle.cp_core.proofs.StepLemmas.{opens_at}
use Rattle.cp_core.proofs.plain_core.Core.with_pages.Goals as goal

pub invariant_of-result : goal.invariant_of-result
invariant_of-result c = (c.in_ok-machine.ensures.fits, opens_at _ _ c.in_ok-machine.ensures.fits c.in_ok-machine.ensures.state)
