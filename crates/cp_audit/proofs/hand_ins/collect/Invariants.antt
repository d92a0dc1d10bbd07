use Rattle.std.proofs.Common.{◌≡◌, length}
use Rattle.std.specs.Prelude.{map}
use Rattle.cp_statements.specs.View.{envelope_view}
use Rattle.cp_audit.proofs.HandInLemmas.{SoFar}
use Rattle.cp_audit.proofs.hand_ins.collect.Given as goal

-- those so far are the front of all
abbrev pub invariant-loop-cut : goal.invariant-loop-cut
invariant-loop-cut l = record {
  whole : l.cut.total ≡ length l.bytes;
  so_far : SoFar l.store.key l.bytes l.cut.rest l.count (map envelope_view l.verified.items);
}

abbrev pub decreases-loop-cut : goal.decreases-loop-cut
decreases-loop-cut l = length l.cut.rest
