use Rattle.std.proofs.Common.{◌-◌, ◌∙◌, arith, length-set}
use Rattle.lms_tree.proofs.NodeLemmas.{filled_more}
use Rattle.lms_tree.proofs.filling.fill_inner.Goals as goal

pub loop-r-preserved : goal.loop-r-preserved
loop-r-preserved c = record {
  low = omega arith;
  high = omega arith;
  long = length-set _ _ _ ∙ c.loop-r.invariant.long;
  filled = filled_more _ c.loop-r.nodes c.loop-r.r (c.loop-r.r - 1) _ _ _ c.loop-r.invariant.filled (omega arith) c.loop-r.invariant.long (omega arith) (omega arith) c.inner_node-parent.ensures;
}

pub returns : goal.returns
returns c = record {
  long = c.loop-r.invariant.long;
  each = λ r d pos lt. c.loop-r.invariant.filled r d (omega arith) lt;
}
