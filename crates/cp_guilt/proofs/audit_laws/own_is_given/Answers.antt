use Rattle.cp_guilt.proofs.OwnMaterial.{own_given}
use Rattle.cp_guilt.proofs.audit_laws.own_is_given.Goals as goal

pub returns : goal.returns
returns c = own_given
