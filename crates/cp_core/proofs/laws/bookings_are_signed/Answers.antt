use Rattle.cp_core.proofs.AttestedLemmas.{shard_signed}
use Rattle.cp_core.proofs.laws.bookings_are_signed.Goals as goal

pub returns : goal.returns
returns c = shard_signed
