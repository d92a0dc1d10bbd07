use Rattle.std.proofs.Common.{◌≡◌, ◌≤◌, ℕ, ◌++◌, length, All, sum_by}
use Rattle.leaf_tickets.specs.Models.{times}
use Rattle.leaf_tickets.proofs.leaves.Leaves.close.Given as goal

abbrev pub invariant-loop-seat : goal.invariant-loop-seat
invariant-loop-seat l = (l.table ≡ l.initial.table) × (l.all.table_id ≡ l.table.shared.table_id) × (l.all.me.0.parts ≡ length l.yielded) × ((x : ℕ) → times x l.all.me.0.drawn ≡ sum_by (λ s. times x s.drawn) l.yielded)
    × All (λ s. s.found ≤ l.all.me.0.found) l.yielded × (l.yielded ++ l.seat-iterator.rest.items ≡ l.fn.seats.items)
