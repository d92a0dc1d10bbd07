-- When a call of the outside may answer a fault, and what it has done by then (this project's own).
use Rattle.std.specs.Prelude.{ℕ, ◌+◌, ◌-◌, ◌^◌, ◌<◌, ◌≤◌, min, List, length, take, Option, Result, OnErr}
use Rattle.std.specs.Io.KnownBytes.{Appends}

-- One more, up to `u64::MAX`, where a counter stays.
abbrev pub one_more : ℕ → ℕ
one_more n = min (n + 1) (2 ^ 64 - 1)

-- The count of faults rose, or stands at its end.
abbrev pub Rose : ℕ → ℕ → Type 0
Rose before after = one_more before ≤ after

-- The count of faults never falls, and a fault is answered only where it rose.
pub record HasCause {T E : Type 0} (before after : ℕ) (result : Result T E) : Type 0 where
  pub never_falls : before ≤ after
  pub failed : OnErr result (Rose before after)

-- Known bytes grow by a prefix of these that is not the whole.
abbrev pub AppendsPart : Option (List ℕ) → Option (List ℕ) → List ℕ → Type 0
AppendsPart old new bytes = (n : ℕ) × (n < length bytes) × Appends old new (take n bytes)
