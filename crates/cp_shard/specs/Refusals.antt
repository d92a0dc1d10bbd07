-- The refusals that come when a call's entry is to be appended (this project's own).
use Rattle.std.specs.Prelude.{ℕ, ◌≡◌, ◌<◌, ◌≤◌}
use Rattle.cp_core.specs.declared.call_refusal.CallRefusal.{CallRefusal}
use Rattle.cp_core.specs.declared.call_refusal.CallRefusal.TheVariants.{OutOfMemory, PoolFull, LeavesOver}

-- Memory is wanted; or more pages than are free; or, where the pages do, no leaf is left: as many as are
-- found drawn, which are no fewer than there are.
abbrev pub IsLate : ℕ → ℕ → ℕ → ℕ → CallRefusal → Type 0
IsLate free need limit found OutOfMemory = Unit {0}
IsLate free need limit found (PoolFull f n) = (f ≡ free) × (n ≡ need) × (free < need)
IsLate free need limit found (LeavesOver over) = (need ≤ free) × (over.drawn ≡ found) × (over.limit ≡ limit) × (limit ≤ over.drawn)
IsLate free need limit found why = ⊥
