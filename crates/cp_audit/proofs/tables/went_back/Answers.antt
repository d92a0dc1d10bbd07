use Rattle.cp_audit.proofs.RegressLemmas.{first_is_least}
use Rattle.cp_audit.proofs.tables.went_back.Goals as goal

pub returns : goal.returns
returns c = first_is_least c.args.before.now c.args.after.now c.first_regress.result c.first_regress.ensures
