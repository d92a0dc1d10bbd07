use Rattle.cp_endings.proofs.audit_printing.put_not_given.Goals as goal

pub returns-in-Log : goal.returns-in-Log
returns-in-Log g c = rw c.in-Log.is c.put_number.ensures
