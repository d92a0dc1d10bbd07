use Rattle.cp_guilt.proofs.OwnLemmas.{own_clean}
use Rattle.cp_guilt.proofs.audit_laws.own_is_clean.Goals as goal

pub returns : goal.returns
returns c = own_clean
