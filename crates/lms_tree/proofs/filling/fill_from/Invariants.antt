use Rattle.std.proofs.Common.{◌≡◌, ℕ, ◌+◌, ◌*◌, ◌^◌, ◌<◌, List, slice_index_or}
use Rattle.lms_ots.specs.Signing.{one_time_key}
use Rattle.lms_tree.specs.Tree.{leaf_node}
use Rattle.lms_tree.specs.Parameters.{levels_of}
use Rattle.lms_tree.proofs.filling.fill_from.Given as goal

abbrev pub invariant-groups : goal.invariant-groups
invariant-groups l =
    (k : ℕ) (d : List ℕ) → k < 4 * l.group
    → slice_index_or l.nodes k d ≡ leaf_node l.id (2 ^ levels_of l.height + (l.first + k)) (one_time_key l.t l.id (l.first + k) l.seed)
