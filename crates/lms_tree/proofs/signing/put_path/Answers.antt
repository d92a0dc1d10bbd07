use Rattle.std.proofs.Common.{◌≡◌, ◌+◌, ◌*◌, ◌^◌, ◌<◌, ◌≤◌, arith}
use Rattle.lms_tree.specs.Tree.{above}
use Rattle.lms_tree.specs.Parameters.{levels_of}
use Rattle.lms_tree.proofs.Climbing.{above_within}
use Rattle.lms_tree.proofs.signing.put_path.Goals as goal
use Rattle.lms_tree.proofs.signing.put_path.Goals.{then-r-eq1, else-r-eq1}

pub bounds-nodes-other : goal.bounds-nodes-other
bounds-nodes-other c =
    let at : (2 ≤ above (2 ^ levels_of c.args.height + c.args.leaf) c.loop-i.i) × (above (2 ^ levels_of c.args.height + c.args.leaf) c.loop-i.i < 2 * 2 ^ levels_of c.args.height) =
    above_within (levels_of c.args.height) (2 ^ levels_of c.args.height + c.args.leaf) c.loop-i.i (omega arith) (omega arith) (omega arith) in
    let r_is : c.loop-i.r ≡ above (2 ^ levels_of c.args.height + c.args.leaf) c.loop-i.i = c.loop-i.invariant.number in
    elim c.if-r-eq1.branch [ then-r-eq1 w ↦ omega (arith, at.0, at.1) | else-r-eq1 w ↦ omega (arith, at.0, at.1) ]
