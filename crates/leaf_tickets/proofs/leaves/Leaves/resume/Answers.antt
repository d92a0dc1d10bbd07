use Rattle.std.proofs.Common.{rules, arith}
use Rattle.leaf_tickets.proofs.Steps.{deals, begins}
use Rattle.leaf_tickets.proofs.Rising.{idle}
use Rattle.leaf_tickets.proofs.leaves.Leaves.resume.Goals as goal

pub of_words-requires : goal.of_words-requires
of_words-requires c = begins _ _

pub split_seat-requires : goal.split_seat-requires
split_seat-requires c = let i = c.loop.invariant in (search rules, search rules, deals _ _ _ _ (let e = i.2 in let b = c.loop-test.true in omega arith) (search rules))

pub invariant_of-push_reserved : goal.invariant_of-push_reserved
invariant_of-push_reserved c = (search rules, search rules, idle _ _ (search rules))
