use Rattle.cp_more.proofs.GuiltWitness.{guilt_witnessed}
use Rattle.cp_more.proofs.laws.guilt_has_witness.Goals as goal

pub returns : goal.returns
returns c = guilt_witnessed
