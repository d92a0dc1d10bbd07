use Rattle.cp_core.proofs.FrozenLemmas.{frozen_stays}
use Rattle.cp_core.proofs.laws.frozen_stays.Goals as goal

pub returns : goal.returns
returns c = frozen_stays
