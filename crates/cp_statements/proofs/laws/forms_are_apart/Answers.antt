use Rattle.cp_statements.proofs.Apart.{forms_apart}
use Rattle.cp_statements.proofs.laws.forms_are_apart.Goals as goal

pub returns : goal.returns
returns c = forms_apart
