use Rattle.cp_bytes.specs.Fields.{spell}
use Rattle.cp_statements.specs.GetRequest.{get_request_text}
use Rattle.cp_statements.proofs.get_request.GetRequest.text.Goals as goal

-- the pieces that were joined are the fields
pub returns : goal.returns
unfolding get_request_text spell
returns c = rw (c.to_be_bytes.ensures, c.to_be_bytes-2.ensures, c.to_be_bytes-3.ensures, c.to_be_bytes-4.ensures) at c.joined.ensures
