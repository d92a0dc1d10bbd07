use Rattle.std.proofs.Common.{rules, arith}
use Rattle.leaf_tickets.proofs.Steps.{draws}
use Rattle.leaf_tickets.proofs.Rising.{drew}
use Rattle.leaf_tickets.proofs.leaves.Leaves.take.Goals as goal

pub compare_exchange-requires : goal.compare_exchange-requires
compare_exchange-requires c = (search rules, search rules, draws _ _ _ _ _ _ (let p = c.seat.invariant.1 in omega arith))

pub invariant_of-seat : goal.invariant_of-seat
invariant_of-seat c = (search rules, search rules, drew c.seat.inside.seat.me c.compare_exchange.new.seat.me c.compare_exchange.result c.args.number c.compare_exchange.ensures.2.0 c.compare_exchange.ensures.2.1 c.seat.invariant.2)
