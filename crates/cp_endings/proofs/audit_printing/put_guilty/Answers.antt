use Rattle.cp_endings.proofs.audit_printing.put_guilty.Goals as goal

pub returns-in-WentBack : goal.returns-in-WentBack
returns-in-WentBack g c = rw c.in-WentBack.is c.put_number-in-WentBack.ensures
