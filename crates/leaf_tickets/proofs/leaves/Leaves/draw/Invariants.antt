use Rattle.std.proofs.Common.{◌≡◌, ◌≤◌}
use Rattle.leaf_tickets.proofs.leaves.Leaves.draw.Given as goal

abbrev pub invariant-loop : goal.invariant-loop
invariant-loop g l = (l.seat ≡ record l.initial.seat { found = l.seat.found }) × (l.initial.seat.found ≤ l.seat.found)
