-- What happens to one key's disk, and the leaves that are handed out meanwhile (this project's own).
use Rattle.std.specs.Prelude.{◌≡◌, ◌<◌, ◌≤◌, ℕ, List, [], ◌∷◌, length, Option, None, Some, Result, Ok, IfOk, IsTrue}
use Rattle.std.specs.List.{AllByRecursion}
use Rattle.cp_outside.specs.Disks.{Among}
use Rattle.cp_outside.specs.declared.disk.Disk as disk
use Rattle.key_vault.specs.declared.faults.DiskFault.{DiskFault}
use Rattle.key_vault.specs.declared.faults.LoadFault.{LoadFault}
use Rattle.key_vault.specs.declared.faults.VaultFault.{VaultFault}
use Rattle.key_vault.specs.Ranges.{Range, IsIn}
use Rattle.key_vault.specs.Slots.{reserved_in}
use Rattle.key_vault.specs.Calls.{Loads, Formats, Reserves}

-- a call of the vault, and its answer: a load and a formatting give the reserved number
pub data Call : Type 0 where
  Load : Result ℕ LoadFault → Call
  Format : Result ℕ DiskFault → Call
  Reserve : ℕ → Result Range VaultFault → Call

-- what happens: a call, a call that a crash cuts short, or a crash between two calls
pub data Event : Type 0 where
  Made : Call → Event
  CutShort : Call → Event
  Crashed : Event

-- the number of the vault that is open after a call, if one is
abbrev pub open_after : Call → Option ℕ
open_after (Load (Ok number)) = Some number
open_after (Format (Ok number)) = Some number
open_after (Reserve n (Ok range)) = Some range.to
open_after call = None

-- the ranges that were handed out: those of the reservations that answered
abbrev pub handed_out : List Event → List Range
handed_out [] = []
handed_out (Made (Reserve n (Ok range)) ∷ events) = range ∷ handed_out events
handed_out (event ∷ events) = handed_out events

-- the ranges have no leaf in common, one with another
abbrev pub HaveNoLeafTwice : List Range → Type 0
HaveNoLeafTwice [] = Unit {0}
HaveNoLeafTwice (range ∷ later) = AllByRecursion (λ other. (leaf : ℕ) → IsIn leaf range → IsIn leaf other → ⊥) later × HaveNoLeafTwice later

-- all leaves of the ranges are below this number
abbrev pub HaveLeavesBelow : ℕ → List Range → Type 0
HaveLeavesBelow leaves ranges = AllByRecursion (λ range. (leaf : ℕ) → IsIn leaf range → leaf < leaves) ranges

-- After a crash the disk has an image that a crash since this moment may have left.
pub record Restarts {K : Type 0} (g : disk.Ghosts K) (t : ℕ) (old new : K) : Type 0 where
  pub images : Among (g.images old t) (g.images new (g.moment new))
  pub tells : g.tells new ≡ g.tells old

module _ {K : Type 0} (g : disk.Ghosts K) (id : List ℕ) (leaves : ℕ) where
  -- What a call does to the disk, where a vault with this number is open: a blank disk alone is formatted, and an open vault alone reserves.
  abbrev pub Does : Option ℕ → Call → K → K → Type 0
  Does held (Load answer) old new = Loads g id leaves old new answer
  Does held (Format answer) old new = (IsTrue (g.tells old) → length (g.seen old) < 129) × Formats g id old new answer × IfOk answer (λ number. number ≡ 0)
  Does (Some number) (Reserve n answer) old new = (0 < n) × Reserves g id leaves number n old new answer
  Does None (Reserve n answer) old new = ⊥

  -- The events may happen one after another from this disk on.
  abbrev pub IsRun : Option ℕ → K → List Event → Type 0
  IsRun held d [] = Unit {0}
  IsRun held d (Made call ∷ events) = (new : K) × Does held call d new × IsRun (open_after call) new events
  IsRun held d (CutShort call ∷ events) = (mid : K) × (new : K) × Does held call d mid × Restarts g (g.moment d) mid new × IsRun None new events
  IsRun held d (Crashed ∷ events) = (new : K) × Restarts g (g.moment d) d new × IsRun None new events

  -- the disk after the events
  abbrev pub last_disk : (held : Option ℕ) (d : K) (events : List Event) → IsRun held d events → K
  last_disk held d [] run = d
  last_disk held d (Made call ∷ events) run = last_disk (open_after call) run.0 events run.2
  last_disk held d (CutShort call ∷ events) run = last_disk None run.1 events run.4
  last_disk held d (Crashed ∷ events) run = last_disk None run.0 events run.2

-- Whatever a crash leaves of this disk, at least as many leaves are reserved as each of the ranges ends at.
abbrev pub HasThemReserved : {K : Type 0} → disk.Ghosts K → K → List Range → Type 0
HasThemReserved g d ranges =
    AllByRecursion (λ range. (image : List ℕ) → g.images d (g.moment d) image → (number : ℕ) × (reserved_in image ≡ Some number) × (range.to ≤ number)) ranges

-- Whatever happens, no leaf is handed out twice, and none beyond the key's, and the disk has all of them
-- reserved for good.
abbrev pub RangesAreDisjoint : {K : Type 0} → disk.Ghosts K → Type 0
RangesAreDisjoint {K} g =
    (id : List ℕ) (leaves : ℕ) (start : K) (events : List Event) → IsTrue (g.tells start) → (run : IsRun g id leaves None start events)
    → HaveNoLeafTwice (handed_out events) × HaveLeavesBelow leaves (handed_out events) × HasThemReserved g (last_disk g id leaves None start events run) (handed_out events)
