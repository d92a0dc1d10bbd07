use Rattle.cp_core.proofs.SealLemmas.{right_seal}
use Rattle.cp_core.proofs.laws.seals_are_right.Goals as goal

pub returns : goal.returns
returns c = right_seal
