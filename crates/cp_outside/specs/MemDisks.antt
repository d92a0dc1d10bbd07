-- A disk in memory: what it holds and the images that a crash may leave, replayed from its record of calls (this project's own).
use Rattle.std.specs.Prelude.{◌≡◌, ◌≤◌, ℕ, ◌+◌, ◌-◌, List, [], ◌∷◌, length, take, drop, Option, None, Some}
use Rattle.cp_outside.specs.Disks.{overwritten, IsTorn}
use Rattle.cp_outside.specs.declared.disk_call.DiskCall.{DiskCall}
use Rattle.cp_outside.specs.declared.disk_call.DiskCall.TheVariants.{Read, Write, Sync}

-- a call that was made: a read, a write of these bytes at this place, or a sync
pub data MadeCall : Type 0 where
  Looked : MadeCall
  Wrote : ℕ → List ℕ → MadeCall
  Synced : MadeCall

-- how many bytes a call of a record wrote
abbrev pub size_of : DiskCall → ℕ
size_of Read = 0
size_of (Write at size) = size
size_of Sync = 0

-- a call of a record, with the bytes from its own on
abbrev pub made_one : DiskCall → List ℕ → MadeCall
made_one Read bytes = Looked
made_one (Write at size) bytes = Wrote at (take size bytes)
made_one Sync bytes = Synced

-- the calls of a record, whose written bytes stand one after another
abbrev pub made_calls : List DiskCall → List ℕ → List MadeCall
made_calls [] bytes = []
made_calls (call ∷ calls) bytes = made_one call bytes ∷ made_calls calls (drop (size_of call) bytes)

-- how many bytes the calls of a record wrote
abbrev pub written_by : List DiskCall → ℕ
written_by [] = 0
written_by (call ∷ calls) = size_of call + written_by calls

-- what a read gives after a call
abbrev pub content_step : List ℕ → MadeCall → List ℕ
content_step content (Wrote at bytes) = overwritten content at bytes
content_step content Looked = content
content_step content Synced = content

-- and the images that a crash may leave then
abbrev pub image_step : List ℕ → (List ℕ → Type 0) → MadeCall → List ℕ → Type 0
image_step content images Looked image = images image
image_step content images (Wrote at bytes) image = (earlier : List ℕ) × images earlier × IsTorn at bytes earlier image
image_step content images Synced image = image ≡ content

-- after all calls of a list
abbrev pub content_after : List ℕ → List MadeCall → List ℕ
content_after content [] = content
content_after content (call ∷ calls) = content_after (content_step content call) calls

abbrev pub images_after : List ℕ → (List ℕ → Type 0) → List MadeCall → List ℕ → Type 0
images_after content images [] image = images image
images_after content images (call ∷ calls) image = images_after (content_step content call) (image_step content images call) calls image

-- the images of a disk that held this for good before its calls
abbrev pub images_of : List ℕ → List MadeCall → List ℕ → Type 0
images_of start calls = images_after start (λ image. image ≡ start) calls

-- what a crash since the moment t may have left: the clock counts the calls
abbrev pub left_since : List ℕ → List MadeCall → ℕ → List ℕ → Type 0
left_since start calls t image = (k : ℕ) × (t ≤ k) × (k ≤ length calls) × images_of start (take k calls) image

-- how much of the room a write of these bytes at this place fills
abbrev pub write_cost : List ℕ → ℕ → List ℕ → ℕ
write_cost content at bytes = 64 + length bytes + (length (overwritten content at bytes) - length content)

-- one call fewer until it stops
abbrev pub one_less : Option ℕ → Option ℕ
one_less None = None
one_less (Some n) = Some (n - 1)
