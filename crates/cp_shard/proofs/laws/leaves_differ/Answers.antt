use Rattle.cp_shard.proofs.Leaves.{leaves_differ}
use Rattle.cp_shard.proofs.laws.leaves_differ.Goals as goal

pub returns : goal.returns
returns c = leaves_differ
