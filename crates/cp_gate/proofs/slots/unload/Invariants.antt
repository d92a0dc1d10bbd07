use Rattle.std.proofs.Common.{◌≡◌, ℕ, ◌<◌, false, get_or, length, vec_len, vec_capacity, Some}
use mathlib.Core.Option.{some}
use lib.ListN.{get_elem?}
use Rattle.std.specs.Slots.{slots_filled, slots_items, slots_len}
use Rattle.std.specs.Slots.Ownership.{Filled}
use Rattle.cp_gate.proofs.slots.unload.Given as goal

abbrev pub invariant-loop-i : goal.invariant-loop-i
invariant-loop-i g l = (slots_items l.closed.slots ≡ slots_items l.initial.closed.slots) × (slots_len l.closed.slots ≡ slots_len l.initial.closed.slots) × Filled (slots_filled l.closed.slots) l.i (slots_len l.closed.slots)
    × ((k : ℕ) → k < l.i → get_or (slots_filled l.closed.slots) k false ≡ false) × (vec_len l.room ≡ l.i) × (length l.room.items ≡ l.i) × (vec_capacity l.room ≡ vec_capacity l.initial.room)
    × ((p : ℕ) (x : _) → p < l.i → get_elem? (slots_items l.closed.slots) p ≡ some (Some x) → get_elem? l.room.items p ≡ some x)
