use Rattle.cp_evidence.proofs.AuditLemmas.{latest_gets}
use Rattle.cp_evidence.proofs.audit_laws.gets_are_latest.Goals as goal

pub returns : goal.returns
returns c = latest_gets
