use Rattle.cp_evidence.proofs.AuditLemmas.{written}
use Rattle.cp_evidence.proofs.Lengths.{guilt_fits, guilt_short}
use Rattle.cp_evidence.proofs.audit_laws.written_convicts.Goals as goal

pub returns : goal.returns
returns c = record { convicts = written; fits = guilt_fits; is_short = guilt_short }
