use Rattle.cp_shard.proofs.Attesting.{bookings_attest}
use Rattle.cp_shard.proofs.laws.bookings_attest.Goals as goal

pub returns : goal.returns
returns c = bookings_attest
