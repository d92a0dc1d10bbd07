use Rattle.std.proofs.Common.{◌≡◌, ◌+◌, ◌*◌, ◌^◌, take}
use Rattle.lms_tree.specs.Tree.{above}
use Rattle.lms_tree.specs.Parameters.{levels_of}
use Rattle.lms_tree.specs.Kept.{path_in}
use Rattle.lms_tree.proofs.signing.put_path.Given as goal

abbrev pub invariant-loop-i : goal.invariant-loop-i
invariant-loop-i l = record {
  number : l.r ≡ above (2 ^ levels_of l.fn.height + l.fn.leaf) l.i;
  written : take (32 * l.i) l.out ≡ path_in l.nodes (2 ^ levels_of l.fn.height + l.fn.leaf) l.i;
}
