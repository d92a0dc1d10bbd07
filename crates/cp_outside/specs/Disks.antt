-- What the calls of a disk do to its bytes, and what a crash may leave of them (this project's own).
use Rattle.std.specs.Prelude.{◌≡◌, ◌⊎◌, ◌<◌, ◌≤◌, ℕ, ◌+◌, ◌-◌, min, List, [], ◌∷◌, ◌++◌, length, take, drop, replicate, Result, Ok, Err, OnOk}

-- What a read gives after these bytes were written at this place: zeros between the old end and a range that begins past it. A write of no bytes changes nothing.
abbrev pub overwritten : List ℕ → ℕ → List ℕ → List ℕ
overwritten old at [] = old
overwritten old at (byte ∷ bytes) = take at old ++ replicate (at - length old) 0 ++ (byte ∷ bytes) ++ drop (at + length (byte ∷ bytes)) old

-- After a write of these bytes at this place that a crash cuts short: anything in the written range and past the old end, the same elsewhere, and the end anywhere between the old and the new one.
pub record IsTorn (at : ℕ) (bytes old new : List ℕ) : Type 0 where
  pub before : take (min at (length old)) new ≡ take at old
  pub after : drop (at + length bytes) new ≡ drop (at + length bytes) old
  pub no_shorter : length old ≤ length new
  pub no_longer : length new ≤ length (overwritten old at bytes)

-- How many bytes a read of so much at this place gives: as much as there is.
abbrev pub there_is : List ℕ → ℕ → ℕ → ℕ
there_is file at wanted = min wanted (length file - at)

-- What a read answers: as much as there is, in front of the buffer.
abbrev pub ReadsThere : {E : Type 0} → List ℕ → ℕ → List ℕ → Result ℕ E → Type 0
ReadsThere file at into (Ok n) = (n ≡ there_is file at (length into)) × (take n into ≡ take n (drop at file))
ReadsThere file at into (Err e) = Unit {0}

-- Each image of the new set is one of the old set after a step.
abbrev pub Follows : (List ℕ → List ℕ → Type 0) → (List ℕ → Type 0) → (List ℕ → Type 0) → Type 0
Follows step old new = (image : List ℕ) → new image → (earlier : List ℕ) × old earlier × step earlier image

-- The images are this one and no other.
abbrev pub Only : List ℕ → (List ℕ → Type 0) → Type 0
Only file images = (image : List ℕ) → images image → image ≡ file

-- The images of the new set are among those of the old one.
abbrev pub Among : (List ℕ → Type 0) → (List ℕ → Type 0) → Type 0
Among old new = (image : List ℕ) → new image → old image

-- Time goes on: a crash since an earlier moment may have left what it might have left before, or what it may leave now, and the clock moves on with each call that succeeds.
pub record Elapses {T E : Type 0} (before after : ℕ) (past since : ℕ → List ℕ → Type 0) (result : Result T E) : Type 0 where
  pub later : before ≤ after
  pub moves_on : OnOk result (before < after)
  pub keeps : (t : ℕ) (image : List ℕ) → t ≤ before → past t image → since t image
  pub adds : (t : ℕ) (image : List ℕ) → t ≤ before → since t image → past t image ⊎ since after image

-- A crash at any moment since `old` leaves an image that P holds of, and a crash since an earlier moment leaves that or what it might have left before.
pub record LeavesOnly {D : Type 0} (moment : D → ℕ) (images : D → ℕ → List ℕ → Type 0) (old new : D) (P : List ℕ → Type 0) : Type 0 where
  pub later : moment old ≤ moment new
  pub each : (image : List ℕ) → images new (moment old) image → P image
  pub before : (t : ℕ) (image : List ℕ) → t ≤ moment old → images new t image → images old t image ⊎ P image
