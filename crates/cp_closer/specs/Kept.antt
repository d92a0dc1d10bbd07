-- What every closer keeps (this project's own): where it stands with its epoch and its seals, and that
-- what it took has a place in a log.
use Rattle.std.specs.Prelude.{ℕ, ◌+◌, ◌<◌, ◌≤◌, ◌^◌, ◌≡◌, List, length}
use Rattle.std.specs.List.{AllByRecursion}
use Rattle.cp_core.specs.declared.phase.Phase.{Phase}
use Rattle.cp_core.specs.declared.phase.Phase.TheVariants.{Running, Half, Full, Sealed}
use Rattle.cp_core.specs.Frozen.{Gained}
use Rattle.cp_core.specs.Frozen.{Part}
use Rattle.cp_closer.specs.Taken.{entries_in, entries_of_shard}
use Rattle.cp_closer.specs.Closer.{CloserState}

-- how many parts were taken
abbrev pub taken_in : Phase → ℕ
taken_in (Running e) = 0
taken_in (Half e k) = k
taken_in (Full e) = 16
taken_in (Sealed e) = 0

-- The epoch is one that can be closed, or the first that can't, fewer than sixteen parts make a half, and
-- there is a seal for each epoch before, and one for the phase's where it is sealed.
abbrev pub SealsFit : ℕ → ℕ → Phase → Type 0
SealsFit closings seals (Running e) = (seals + 1 ≡ e) × (e ≤ closings + 1)
SealsFit closings seals (Half e k) = (seals + 1 ≡ e) × (e ≤ closings) × (k < 16)
SealsFit closings seals (Full e) = (seals + 1 ≡ e) × (e ≤ closings)
SealsFit closings seals (Sealed e) = (seals ≡ e) × (1 ≤ e) × (e ≤ closings)

-- where no closing has begun, the list for the next epoch is this one's
abbrev pub NextFits : List ℕ → List ℕ → Phase → Type 0
NextFits list next (Running e) = next ≡ list
NextFits list next (Half e k) = Unit {0}
NextFits list next (Full e) = Unit {0}
NextFits list next (Sealed e) = Unit {0}

-- each number of the log fits its field
pub record BlockIsSmall (x : Gained) : Type 0 where
  pub filled : 1 ≤ length x.entries
  pub short : AllByRecursion (λ text. length text < 2 ^ 32) x.entries

pub record PartIsSmall (part : Part) : Type 0 where
  pub blocks : AllByRecursion BlockIsSmall part.blocks
  pub few : entries_in part ≤ 2 ^ 27

pub record IsKept (c : CloserState) : Type 0 where
  pub within : c.closings ≤ c.leaves
  pub phase : SealsFit c.closings (length c.seals) c.phase
  pub next : NextFits c.list c.next c.phase
  pub parts : AllByRecursion PartIsSmall c.parts
  pub few : (shard : ℕ) → entries_of_shard c.tips shard ≤ 2 ^ 27
