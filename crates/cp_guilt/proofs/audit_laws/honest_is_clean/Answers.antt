use Rattle.cp_guilt.proofs.HonestLemmas.{honest_clean}
use Rattle.cp_guilt.proofs.audit_laws.honest_is_clean.Goals as goal

pub returns : goal.returns
returns c = honest_clean
