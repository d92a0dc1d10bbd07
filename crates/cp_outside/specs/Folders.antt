-- What a folder's reads answer (this project's own).
use Rattle.std.specs.Prelude.{◌≡◌, ℕ, ◌-◌, ◌≤◌, ◌<◌, List, length, take, drop, Option, None, Result, Ok, Err, IsSomeAnd}
use Rattle.cp_outside.specs.Causes.{Rose}
use Rattle.cp_outside.specs.declared.folders.FolderFault.{FolderFault}
use Rattle.cp_outside.specs.declared.folders.FolderFault.TheVariants.{Missing, Failed}

-- The fact for the answer `Failed`.
abbrev pub OnFailed : {T : Type 0} → Result T FolderFault → Type 0 → Type 0
OnFailed (Ok value) P = Unit {0}
OnFailed (Err Missing) P = Unit {0}
OnFailed (Err Failed) P = P

-- The fact for every other answer.
abbrev pub UnlessFailed : {T : Type 0} → Result T FolderFault → Type 0 → Type 0
UnlessFailed (Ok value) P = P
UnlessFailed (Err Missing) P = P
UnlessFailed (Err Failed) P = Unit {0}

-- The count of failed reads never falls, and `Failed` is answered only where it rose; with every other
-- answer it stays.
pub record HasFolderCause {T : Type 0} (before after : ℕ) (result : Result T FolderFault) : Type 0 where
  pub never_falls : before ≤ after
  pub failed : OnFailed result (Rose before after)
  pub stays : UnlessFailed result (after ≡ before)

-- The first `n` bytes of `into` are those of the file from `at` on; none are given only at or behind
-- the file's end, or where there is no room.
pub record GivesBytes (file : List ℕ) (at n : ℕ) (into : List ℕ) : Type 0 where
  pub bytes : take n into ≡ take n (drop at file)
  pub within : n ≤ length file - at
  pub end : n ≡ 0 → 0 < length into → length file ≤ at

-- A read answers with bytes of the file, or `Missing` where there is none.
abbrev pub ReadsAt : Option (List ℕ) → ℕ → List ℕ → Result ℕ FolderFault → Type 0
ReadsAt file at into (Ok n) = IsSomeAnd file (λ bytes. GivesBytes bytes at n into)
ReadsAt file at into (Err Missing) = file ≡ None
ReadsAt file at into (Err Failed) = Unit {0}
