use Rattle.cp_shard.proofs.ShortRows.{shard_short}
use Rattle.cp_shard.proofs.laws.rows_are_short.Goals as goal

pub returns : goal.returns
returns c = shard_short
