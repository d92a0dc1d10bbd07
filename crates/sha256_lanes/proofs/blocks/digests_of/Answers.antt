use Rattle.std.proofs.Common.{rules}
use Rattle.sha256_lanes.proofs.LaneLemmas.{below_four}
use Rattle.sha256_lanes.proofs.blocks.digests_of.Goals as goal

pub returns : goal.returns
returns c = below_four _ (search rules) (search rules) (search rules) (search rules)
