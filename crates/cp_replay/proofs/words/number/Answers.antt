use Rattle.std.proofs.Common.{sym}
use Rattle.cp_replay.proofs.Numbers.{number_in_none}
use Rattle.cp_replay.proofs.words.number.Goals as goal

pub returns-in-Err-clause-read : goal.returns-in-Err-clause-read
returns-in-Err-clause-read c = sym (number_in_none c.args.least c.args.most c.args.word.now c.ranges.most.fits c.in-Err.ensures.cases.0)
