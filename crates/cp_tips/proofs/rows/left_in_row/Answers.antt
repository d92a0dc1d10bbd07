use Rattle.std.proofs.Common.{arith}
use Rattle.cp_tips.proofs.Reading.{short_first, short_second, short_third, short_fourth, short_fifth}
use Rattle.cp_tips.proofs.rows.left_in_row.Goals as goal

pub returns-in-0-to-7-clause-begins : goal.returns-in-0-to-7-clause-begins
returns-in-0-to-7-clause-begins c bytes e = rw (← e) (short_first bytes (omega arith))

pub returns-in-8-to-15-clause-begins : goal.returns-in-8-to-15-clause-begins
returns-in-8-to-15-clause-begins c bytes e = rw (← e) (short_second bytes (omega arith) (omega arith))

pub returns-in-16-to-23-clause-begins : goal.returns-in-16-to-23-clause-begins
returns-in-16-to-23-clause-begins c bytes e = rw (← e) (short_third bytes (omega arith) (omega arith))

pub returns-in-24-to-55-clause-begins : goal.returns-in-24-to-55-clause-begins
returns-in-24-to-55-clause-begins c bytes e = rw (← e) (short_fourth bytes (omega arith) (omega arith))

pub returns-in_default-clause-begins : goal.returns-in_default-clause-begins
returns-in_default-clause-begins c bytes e = rw (← e) (short_fifth bytes (omega arith) (omega arith))
