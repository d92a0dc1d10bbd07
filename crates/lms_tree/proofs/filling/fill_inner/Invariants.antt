use Rattle.std.proofs.Common.{◌≡◌, ◌*◌, ◌^◌, ◌≤◌, length}
use Rattle.lms_tree.specs.Kept.{IsFilledFrom}
use Rattle.lms_tree.specs.Parameters.{levels_of}
use Rattle.lms_tree.proofs.filling.fill_inner.Given as goal

abbrev pub invariant-loop-r : goal.invariant-loop-r
invariant-loop-r l = record {
  low : 1 ≤ l.r;
  high : l.r ≤ 2 ^ levels_of l.fn.height;
  long : length l.nodes ≡ 2 * 2 ^ levels_of l.fn.height;
  filled : IsFilledFrom (record { height = l.fn.height; ots = l.fn.t; id = l.id; seed = l.seed }) l.r l.nodes;
}

abbrev pub decreases-loop-r : goal.decreases-loop-r
decreases-loop-r l = l.r
