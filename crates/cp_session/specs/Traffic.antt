-- What reading into the inbox and writing a response do (this project's own).
use Rattle.std.specs.Prelude.{◌≡◌, ℕ, List, length, drop, ◌++◌, Option, Result, MatchResult}
use Rattle.std.specs.Io.KnownBytes.{Appends, Consumes, IsAtEnd}
use Rattle.cp_outside.specs.Causes.{AppendsPart}
use Rattle.cp_http.specs.Heads.{EndsAfter, window, IsTooLong, IsPartial}
use Rattle.cp_session.specs.declared.awaiting.Awaited.{Awaited}
use Rattle.cp_session.specs.declared.awaiting.Awaited.TheVariants.{Head, TooLong, Cut}

-- bytes were read and kept behind the others
pub record Grows (old new : List ℕ) (before after : Option (List ℕ)) : Type 0 where
  pub kept : new ≡ old ++ drop (length old) new
  pub consumed : Consumes before after (drop (length old) new)

-- the bytes were written, or after a fault a prefix of them that is not the whole
abbrev pub Sends : {T E : Type 0} → Option (List ℕ) → Option (List ℕ) → Result T E → List ℕ → Type 0
Sends old new result bytes = MatchResult result (λ _. Appends old new bytes) (λ _. AppendsPart old new bytes)

-- what waiting for a head came to
abbrev pub IsAwaited : List ℕ → Option (List ℕ) → Awaited → Type 0
IsAwaited bytes left (Head end) = EndsAfter (window bytes) end
IsAwaited bytes left TooLong = IsTooLong bytes
IsAwaited bytes left Cut = IsPartial bytes × IsAtEnd left
