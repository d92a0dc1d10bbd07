use Rattle.cp_evidence.proofs.AuditLemmas.{clean_exact}
use Rattle.cp_evidence.proofs.audit_laws.clean_exactly.Goals as goal

pub returns : goal.returns
returns c = clean_exact
