use Rattle.std.proofs.Common.{◌≡◌, ◌≤◌, take, count_by}
use Rattle.cp_statements.specs.View.{envelope_view}
use Rattle.cp_audit.specs.Counts.{is_of_epoch}
use Rattle.cp_audit.specs.Given.{given_view}
use Rattle.cp_audit.proofs.counts.handed.Given as goal

-- those so far
abbrev pub invariant-loop-x : goal.invariant-loop-x
invariant-loop-x l = record {
  so_far : l.count ≡ count_by (λ x. is_of_epoch (given_view l.o) (envelope_view x)) (take l.x-index l.xs);
  low : l.count ≤ l.x-index;
}
