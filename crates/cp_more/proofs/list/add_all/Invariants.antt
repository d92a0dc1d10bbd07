use Rattle.std.proofs.Common.{◌≡◌, length}
use Rattle.cp_more.proofs.Listed.{SoFar}
use Rattle.cp_more.proofs.list.add_all.Given as goal

-- the pairs so far are the front of all, and were added
abbrev pub invariant-loop-cut : goal.invariant-loop-cut
invariant-loop-cut l = record {
  whole : l.cut.total ≡ length l.bytes;
  so_far : SoFar l.leaves l.bytes l.cut.rest l.fn.signed l.signed l.used;
}

abbrev pub decreases-loop-cut : goal.decreases-loop-cut
decreases-loop-cut l = length l.cut.rest
