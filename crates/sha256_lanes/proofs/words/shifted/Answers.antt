use Rattle.sha256_lanes.proofs.LaneLemmas.{shifts}
use Rattle.sha256_lanes.proofs.words.shifted.Goals as goal

pub returns : goal.returns
returns c = shifts 4 c.args.k c.args.a c.fits-a.0
