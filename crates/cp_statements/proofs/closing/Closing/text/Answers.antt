use Rattle.cp_bytes.specs.Fields.{spell}
use Rattle.cp_statements.specs.Closing.{closing_text}
use Rattle.cp_statements.proofs.closing.Closing.text.Goals as goal

-- the pieces that were joined are the fields
pub returns : goal.returns
unfolding closing_text spell
returns c = rw (c.to_be_bytes.ensures, c.to_be_bytes-2.ensures, c.to_be_bytes-3.ensures) at c.joined.ensures
