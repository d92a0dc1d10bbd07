-- What a desk replied.
use Rattle.std.specs.Prelude.{ℕ, ◌<◌, ◌^◌, List, length, Result, Ok, Err}
use Rattle.std.specs.List.{AllByRecursion}
use Rattle.cp_session.specs.declared.refusals.Refusal.{Refusal}
use Rattle.cp_session.specs.Refusals.{numbers_of}

-- a reply whose bytes stand apart from its result
abbrev pub reply_of : {T : Type 0} → Result T Refusal → List ℕ → Result (List ℕ) Refusal
reply_of (Ok u) body = Ok body
reply_of (Err refusal) body = Err refusal

-- a reply of values that the machine has: its body's length or its refusal's numbers are below 2 ^ 64
abbrev pub IsSized : Result (List ℕ) Refusal → Type 0
IsSized (Ok body) = length body < 2 ^ 64
IsSized (Err refusal) = AllByRecursion (λ n. n < 2 ^ 64) (numbers_of refusal)
