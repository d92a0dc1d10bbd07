use Rattle.std.proofs.Common.{rules}
use Rattle.leaf_tickets.proofs.Steps.{looks}
use Rattle.leaf_tickets.proofs.Rising.{looked}
use Rattle.leaf_tickets.proofs.leaves.Leaves.look.Goals as goal

pub load-requires : goal.load-requires
load-requires c = (search rules, search rules, looks _ _ _ _ _)

pub invariant_of-seat : goal.invariant_of-seat
invariant_of-seat c = (search rules, search rules, looked c.seat.inside.seat.me c.load.new.seat.me c.load.result (search rules) (search rules) c.seat.invariant.2)
