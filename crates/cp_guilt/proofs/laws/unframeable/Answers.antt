use Rattle.cp_guilt.proofs.NoFraming.{never_framed}
use Rattle.cp_guilt.proofs.laws.unframeable.Goals as goal

pub returns : goal.returns
returns c = never_framed
