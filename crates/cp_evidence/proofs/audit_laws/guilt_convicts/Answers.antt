use Rattle.cp_evidence.proofs.AuditLemmas.{convicts, is_given, is_hashed}
use Rattle.cp_evidence.proofs.audit_laws.guilt_convicts.Goals as goal

pub returns : goal.returns
returns c = record { convicts = convicts; is_given = is_given; is_hashed = is_hashed }
