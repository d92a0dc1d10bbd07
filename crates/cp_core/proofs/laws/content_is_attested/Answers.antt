use Rattle.cp_core.proofs.AttestedLemmas.{booked_attests, booked_signed}
use Rattle.cp_core.proofs.SignedLemmas.{step_booked}
use Rattle.cp_core.proofs.laws.content_is_attested.Goals as goal

pub returns-clause-signed : goal.returns-clause-signed
returns-clause-signed c s st pass request b fits keeps ok e = booked_signed s st pass request b _ fits keeps ok.1 (step_booked s st pass request b e)

pub returns-clause-content : goal.returns-clause-content
returns-clause-content c s st pass request b fits keeps ok e = booked_attests s st pass request b _ fits keeps ok.1 (step_booked s st pass request b e)
