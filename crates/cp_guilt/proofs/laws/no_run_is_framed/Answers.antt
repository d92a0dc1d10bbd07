use Rattle.cp_guilt.proofs.NoFraming.{no_run_framed}
use Rattle.cp_guilt.proofs.laws.no_run_is_framed.Goals as goal

pub returns : goal.returns
returns c = no_run_framed
