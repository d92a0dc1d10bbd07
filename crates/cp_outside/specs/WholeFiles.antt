-- What reading a whole file answers (this project's own).
use Rattle.std.specs.Prelude.{◌≡◌, ℕ, ◌≤◌, ◌<◌, Bool, true, false, List, length, take, Option, Some, None, Result, Ok, Err, IsSomeAnd, IfSome}
use Rattle.std.specs.Global.{Vec}
use Rattle.cp_outside.specs.Causes.{Rose}
use Rattle.cp_outside.specs.declared.whole_files.ReadWhole.{ReadWhole}
use Rattle.cp_outside.specs.declared.whole_files.ReadWhole.TheVariants.{Missing, Failed, TooLong, OutOfMemory}

-- The answer is the file's bytes, which are within the limit; `Missing` where there is no file;
-- `TooLong` where the file has more bytes than the limit.
abbrev pub ReadsWhole : Option (List ℕ) → ℕ → Result (Vec ℕ) ReadWhole → Type 0
ReadsWhole file limit (Ok bytes) = (file ≡ Some bytes.items) × (length bytes.items ≤ limit)
ReadsWhole file limit (Err Missing) = file ≡ None
ReadsWhole file limit (Err Failed) = Unit {0}
ReadsWhole file limit (Err (TooLong named)) = IsSomeAnd file (λ bytes. limit < length bytes)
ReadsWhole file limit (Err OutOfMemory) = Unit {0}

-- `TooLong` names the limit that was set.
abbrev pub NamesLimit : {T : Type 0} → ℕ → Result T ReadWhole → Type 0
NamesLimit limit (Ok value) = Unit {0}
NamesLimit limit (Err Missing) = Unit {0}
NamesLimit limit (Err Failed) = Unit {0}
NamesLimit limit (Err (TooLong named)) = named ≡ limit
NamesLimit limit (Err OutOfMemory) = Unit {0}

-- The fact for the answer `Failed`.
abbrev pub OnFailed : {T : Type 0} → Result T ReadWhole → Type 0 → Type 0
OnFailed (Ok value) P = Unit {0}
OnFailed (Err Missing) P = Unit {0}
OnFailed (Err Failed) P = P
OnFailed (Err (TooLong named)) P = Unit {0}
OnFailed (Err OutOfMemory) P = Unit {0}

-- The fact for every other answer.
abbrev pub UnlessFailed : {T : Type 0} → Result T ReadWhole → Type 0 → Type 0
UnlessFailed (Ok value) P = P
UnlessFailed (Err Missing) P = P
UnlessFailed (Err Failed) P = Unit {0}
UnlessFailed (Err (TooLong named)) P = P
UnlessFailed (Err OutOfMemory) P = P

-- The count of failed reads never falls, and `Failed` is answered only where it rose; with every other
-- answer it stays.
pub record HasWholeCause {T : Type 0} (before after : ℕ) (result : Result T ReadWhole) : Type 0 where
  pub never_falls : before ≤ after
  pub failed : OnFailed result (Rose before after)
  pub stays : UnlessFailed result (after ≡ before)

-- These are the file's first bytes, where there is a file.
abbrev pub IsFrontOf : Option (List ℕ) → List ℕ → Type 0
IsFrontOf file front = IfSome file (λ bytes. (front ≡ take (length front) bytes) × (length front ≤ length bytes))

-- What a further read makes of the bytes so far: the file's first bytes, or all of them where there
-- were no more.
abbrev pub ReadsMore : Option (List ℕ) → List ℕ → Result Bool ReadWhole → Type 0
ReadsMore file front (Ok true) = IsSomeAnd file (λ bytes. (front ≡ take (length front) bytes) × (length front ≤ length bytes))
ReadsMore file front (Ok false) = file ≡ Some front
ReadsMore file front (Err Missing) = file ≡ None
ReadsMore file front (Err Failed) = Unit {0}
ReadsMore file front (Err (TooLong named)) = ⊥
ReadsMore file front (Err OutOfMemory) = Unit {0}
