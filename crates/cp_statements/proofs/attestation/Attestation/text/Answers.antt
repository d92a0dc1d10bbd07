use Rattle.cp_bytes.specs.Fields.{spell}
use Rattle.cp_statements.specs.Attestation.{attestation_text}
use Rattle.cp_statements.proofs.attestation.Attestation.text.Goals as goal

-- the pieces that were joined are the fields
pub returns : goal.returns
unfolding attestation_text spell
returns c = rw (c.byte.ensures, c.to_be_bytes.ensures, c.to_be_bytes-2.ensures, c.to_be_bytes-3.ensures, c.to_be_bytes-4.ensures, c.to_be_bytes-5.ensures, c.to_be_bytes-6.ensures) at c.joined.ensures
