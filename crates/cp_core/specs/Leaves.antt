-- The numbers that a counter gives (this project's own).
use Rattle.std.specs.Prelude.{ℕ, zero, suc, List, [], ◌∷◌, ◌++◌, Result, Ok, Err, nat_lt, if◌then◌else◌}
use Rattle.cp_core.specs.declared.leaves_over.LeavesOver.{LeavesOver}

-- the numbers below n, in order
abbrev pub numbers_below : ℕ → List ℕ
numbers_below zero = []
numbers_below (suc n) = numbers_below n ++ n ∷ []

-- what a counter answers: the next number, exactly as long as it is below the limit
abbrev pub counted : ℕ → ℕ → Result ℕ LeavesOver
counted next limit = if nat_lt next limit then Ok next else Err (record { drawn = next; limit = limit })
