use Rattle.cp_statements.proofs.Apart.{kinds_apart}
use Rattle.cp_statements.proofs.laws.kinds_are_apart.Goals as goal

pub returns : goal.returns
returns c = kinds_apart
