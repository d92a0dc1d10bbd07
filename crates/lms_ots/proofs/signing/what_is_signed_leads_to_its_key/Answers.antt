use Rattle.lms_ots.proofs.Signed.{form}
use Rattle.lms_ots.proofs.signing.what_is_signed_leads_to_its_key.Goals as goal

pub returns-clause-form : goal.returns-clause-form
returns-clause-form c = form
