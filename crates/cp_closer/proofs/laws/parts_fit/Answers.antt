use Rattle.cp_closer.proofs.Fitting as fitting
use Rattle.cp_closer.proofs.laws.parts_fit.Goals as goal

pub returns : goal.returns
returns c = fitting.any_parts_fit
