use Rattle.cp_endings.proofs.client_printing.put_refusal.Goals as goal

pub returns-in-Malformed : goal.returns-in-Malformed
returns-in-Malformed g c = rw c.in-Malformed.is c.put_number.ensures

pub returns-in-BadSignature : goal.returns-in-BadSignature
returns-in-BadSignature g c = rw c.in-BadSignature.is c.put_line.ensures

pub returns-in-ContentMismatch : goal.returns-in-ContentMismatch
returns-in-ContentMismatch g c = rw c.in-ContentMismatch.is c.put_line-in-ContentMismatch.ensures
