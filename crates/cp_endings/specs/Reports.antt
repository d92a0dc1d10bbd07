-- What a command printed, and what it answered. A sink is seen as the bytes that it tells to hold
-- and its count of faults, before and after.
use Rattle.std.specs.Prelude.{ℕ, ◌≡◌, ◌⊎◌, List, Option, Result, MatchResult}
use Rattle.std.specs.Io.KnownBytes.{Appends}
use Rattle.cp_outside.specs.Causes.{Rose, HasCause, AppendsPart}
use Rattle.cp_outside.specs.declared.failures.Failed.{Failed}
use Rattle.cp_outside.specs.declared.endpoints.Endpoint as endpoint
use Rattle.cp_endings.specs.Endings.{Outcome, line_of, unprinted_status}

-- the bytes were written, or a prefix of them that is not the whole, and the count rose
pub record Puts (old new : Option (List ℕ)) (before now : ℕ) (result : Result (Unit {0}) Failed) (bytes : List ℕ) : Type 0 where
  pub written : MatchResult result (λ _. Appends old new bytes) (λ _. AppendsPart old new bytes)
  pub cause : HasCause before now result

-- the whole line was written, and the status is the ending's
pub record Prints (old new : Option (List ℕ)) (ending : Outcome) (status : ℕ) : Type 0 where
  pub line : Appends old new (line_of ending)
  pub answers : status ≡ ending.status

-- the sink failed, and a prefix of the line was written, which is not the whole
pub record FailsToPrint (old new : Option (List ℕ)) (before now : ℕ) (ending : Outcome) (status : ℕ) : Type 0 where
  pub cause : Rose before now
  pub line : AppendsPart old new (line_of ending)
  pub answers : status ≡ unprinted_status ending

-- how an ending is reported
abbrev pub Reports : Option (List ℕ) → Option (List ℕ) → ℕ → ℕ → Outcome → ℕ → Type 0
Reports old new before now ending status = Prints old new ending status ⊎ FailsToPrint old new before now ending status

-- the same of a sink, as its contract sees it before and after
module _ {S : Type 0} (g : endpoint.Ghosts S) where
  abbrev pub PutsTo : S → S → Result (Unit {0}) Failed → List ℕ → Type 0
  PutsTo old new result bytes = Puts (g.held old) (g.held new) (g.write_faults old) (g.write_faults new) result bytes

  abbrev pub ReportsTo : S → S → Outcome → ℕ → Type 0
  ReportsTo old new ending status = Reports (g.held old) (g.held new) (g.write_faults old) (g.write_faults new) ending status
