use Rattle.cp_closer.proofs.LifeSeals as life
use Rattle.cp_closer.proofs.laws.seals_the_life.Goals as goal

pub returns : goal.returns
returns c = life.seals_any_life
