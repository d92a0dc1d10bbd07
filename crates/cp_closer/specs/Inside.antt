-- How a closer's fields are seen, and what they keep (this project's own). No public clause cites this
-- module.
use Rattle.std.specs.Prelude.{ℕ, ◌≡◌, ◌++◌, take, map, flat_map, Option, Some, None, vec_len, vec_capacity}
use Rattle.std.specs.List.Sorted.{IsStrictlySortedBy}
use Rattle.std.specs.Ordering.{nat_cmp}
use Rattle.std.specs.Map.{keys_of}
use Rattle.cp_core.specs.declared.phase.Phase.{Phase}
use Rattle.cp_core.specs.declared.phase.Phase.TheVariants.{Running, Half, Full, Sealed}
use Rattle.cp_core.specs.Frozen.{part_view}
use Rattle.cp_core.specs.Machine.{next_or}
use Rattle.cp_closer.specs.Taken.{put_all, tips_of}
use Rattle.cp_closer.specs.Closer.{CloserState}
use Rattle.cp_closer.specs.Pendings.{seals_of, sealed_of, HasRoom}
use Rattle.cp_closer.specs.Kept.{taken_in, IsKept}
use Rattle.cp_closer.specs.declared.pending.Pending.{Pending}
use Rattle.cp_closer.specs.declared.closer.Closer.TheInside.{Inside}

-- the tips of the parts since the last seal come over those that are noted
abbrev pub closer_view : Inside → CloserState
closer_view a = record {
  store = a.store;
  leaves = a.leaves;
  closings = a.closings;
  phase = a.phase;
  list = a.list;
  next = next_or a.next a.list;
  tips = put_all a.tips.entries (flat_map tips_of (map part_view (take (taken_in a.phase) a.parts)));
  parts = map part_view (take (taken_in a.phase) a.parts);
  seals = a.seals.items ++ seals_of a.pending;
  sealed = sealed_of a.pending;
}

-- there is a seal that isn't published in just one phase, and room for it among the seals
abbrev pub PendingFits : Option Pending → ℕ → ℕ → Phase → Type 0
PendingFits pending len capacity (Running e) = pending ≡ None
PendingFits pending len capacity (Half e k) = pending ≡ None
PendingFits pending len capacity (Full e) = pending ≡ None
PendingFits pending len capacity (Sealed e) = ((p : Pending) × (pending ≡ Some p)) × HasRoom pending len capacity

pub record IsRight (a : Inside) : Type 0 where
  pub kept : IsKept (closer_view a)
  pub noted : IsStrictlySortedBy nat_cmp (keys_of a.tips.entries)
  pub pending : PendingFits a.pending (vec_len a.seals) (vec_capacity a.seals) a.phase
