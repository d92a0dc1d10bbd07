use Rattle.cp_endings.proofs.audit_printing.put_audit_ending.Goals as goal

pub returns-in-Malformed : goal.returns-in-Malformed
returns-in-Malformed g c = rw c.in-Malformed.is c.put_number.ensures
