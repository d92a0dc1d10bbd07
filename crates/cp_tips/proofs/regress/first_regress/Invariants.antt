use Rattle.std.proofs.Common.{◌+◌, length}
use Rattle.std.specs.Prelude.{map}
use Rattle.cp_tips.specs.Rows.{row_of}
use Rattle.cp_tips.proofs.Merging.{Standing}
use Rattle.cp_tips.proofs.regress.first_regress.Given as goal

abbrev pub invariant-loop-row : goal.invariant-loop-row
invariant-loop-row l = Standing l.before l.after (map row_of l.old) (map row_of l.new)

abbrev pub decreases-loop-row : goal.decreases-loop-row
decreases-loop-row l = length l.old + length l.new
