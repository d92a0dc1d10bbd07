use Rattle.sha256_lanes.proofs.LaneLemmas.{shifts_rotate}
use Rattle.sha256_lanes.proofs.words.rotated.Goals as goal

pub returns : goal.returns
returns c = shifts_rotate 4 c.args.k c.requires.0 c.requires.1 c.args.a c.fits-a.0
