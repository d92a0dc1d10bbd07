use Rattle.std.proofs.Common.{◌≡◌, ◌+◌, ◌++◌, map, length, reverse, Some, vec_capacity}
use Rattle.cp_gate.proofs.slots.unstow.Given as goal

abbrev pub invariant-loop-slot : goal.invariant-loop-slot
invariant-loop-slot g l = (l.slots.items ++ map (λ x. Some x) (reverse l.room.items) ≡ map (λ x. Some x) l.fn._values.value.items) × (length l.slots.items + length l.room.items ≡ length l.fn._values.value.items) × (vec_capacity l.room ≡ vec_capacity l.fn.room)

abbrev pub decreases-loop-slot : goal.decreases-loop-slot
decreases-loop-slot g l = length l.slots.items
