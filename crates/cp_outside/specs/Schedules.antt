-- Which calls of a form in memory fail (this project's own).
use Rattle.std.specs.Prelude.{ℕ, List, Contains}
use Rattle.cp_outside.specs.Causes.{one_more}

-- Which calls are to fail, and how far the calls have come.
pub record CallPlan : Type 0 where
  -- the numbers of the calls that are to fail
  pub failing : List ℕ
  -- how many calls there were: the number of the next one, as the first has the number 0
  pub calls : ℕ

-- The next call is to fail.
abbrev pub IsDue : CallPlan → Type 0
IsDue plan = Contains plan.failing plan.calls

-- After one more call.
abbrev pub after_call : CallPlan → CallPlan
after_call plan = record plan { calls = one_more plan.calls }
