use Rattle.std.proofs.Common.{◌≡◌, ◌+◌, ◌++◌, map, length, reverse, Some, vec_capacity}
use Rattle.cp_gate.proofs.slots.stow.Given as goal

abbrev pub invariant-loop-value : goal.invariant-loop-value
invariant-loop-value g l = (l.slots.items ++ map (λ x. Some x) (reverse l.values.items) ≡ map (λ x. Some x) l.fn.values.items) × (length l.slots.items + length l.values.items ≡ length l.fn.values.items) × (vec_capacity l.slots ≡ vec_capacity l.fn.slots) × (vec_capacity l.values ≡ vec_capacity l.fn.values)

abbrev pub decreases-loop-value : goal.decreases-loop-value
decreases-loop-value g l = length l.values.items
