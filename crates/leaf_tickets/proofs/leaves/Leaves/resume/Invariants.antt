use Rattle.std.proofs.Common.{◌≡◌, ◌≤◌, ◌+◌, [], length, All, vec_capacity}
use Rattle.leaf_tickets.proofs.leaves.Leaves.resume.Given as goal

abbrev pub invariant-loop : goal.invariant-loop
invariant-loop l = (l.table ≡ l.initial.table) × (l.first.table_id ≡ l.table.shared.table_id) × (l.first.me.0.parts + l.counter ≡ l.seats) × (l.first.me.0.drawn ≡ []) × (l.first.me.0.found ≡ l.start)
    × (length l.all.items ≡ l.counter) × (l.seats ≤ vec_capacity l.all) × All (λ s. (s.counter ≡ l.table.shared.table_id) × (s.drawn ≡ []) × (s.found ≡ l.start)) l.all.items
