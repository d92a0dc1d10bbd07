-- What the judge's frame of an epoch stands for.
use Rattle.std.specs.Prelude.{ℕ, ◌≡◌, [], Result, Ok, Err, unwrap_or}
use Rattle.cp_statements.specs.View.{closing_view}
use Rattle.cp_evidence.specs.Conditions as conditions
use Rattle.cp_judge.specs.declared.framed.Framed.{Framed}

abbrev pub framed_view : Framed → conditions.Framed
framed_view w = record { closing = closing_view w.closing; rows = w.rows; rows_before = unwrap_or w.rows_before [] }

-- it is what the parts give, or the number of the first condition that fails
abbrev pub GivesFrame : Result conditions.Framed ℕ → Result Framed ℕ → Type 0
GivesFrame given (Ok w) = given ≡ Ok (framed_view w)
GivesFrame given (Err n) = given ≡ Err n
