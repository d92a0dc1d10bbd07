use Rattle.leaf_tickets.specs.Models.{IsSeatOf}
use Rattle.thread_tests.proofs.tickets.draw_some.Given as goal

abbrev pub invariant-loop : goal.invariant-loop
invariant-loop g l = IsSeatOf l.leaves l.seat
