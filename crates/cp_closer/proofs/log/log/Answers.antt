use Rattle.std.proofs.Common.{map, arith}
use Rattle.std.proofs.lemmas.List.{length-map}
use Rattle.cp_core.specs.Frozen.{part_view}
use Rattle.cp_closer.proofs.Bounds.{few_in_order, fit_in_order}
use Rattle.cp_closer.proofs.log.log.Goals as goal

pub written-requires-clause-few : goal.written-requires-clause-few
written-requires-clause-few c = few_in_order c.in_ok-order.order.entries (map part_view c.args.parts.now) c.in_ok-order.ensures c.requires.0 (omega (arith, c.requires.1, length-map c.args.parts.now part_view))

pub written-requires-clause-fit : goal.written-requires-clause-fit
written-requires-clause-fit c = fit_in_order c.in_ok-order.order.entries (map part_view c.args.parts.now) c.in_ok-order.ensures c.requires.0
