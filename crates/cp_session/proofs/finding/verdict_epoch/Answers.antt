use Rattle.std.proofs.Common.{decimal}
use Rattle.cp_session.proofs.finding.verdict_epoch.Goals as goal

pub returns-in_default : goal.returns-in_default
returns-in_default c e is = c.in_default.ensures (decimal e) is.1
