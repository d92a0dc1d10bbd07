-- The array that keeps a tree: node r stands at r, from 1 on.
use Rattle.std.specs.Prelude.{◌≡◌, ℕ, zero, suc, ◌+◌, ◌*◌, ◌<◌, ◌≤◌, List, [], ◌++◌, length, slice_index_or}
use Rattle.lms_ots.specs.Signing.{one_time_key}
use Rattle.lms_tree.specs.Tree.{leaf_node, above, sibling}
use Rattle.lms_tree.specs.Secret.{Secret, leaves_of, node}

-- all nodes stand in their places
pub record HoldsNodes (key : Secret) (nodes : List (List ℕ)) : Type 0 where
  pub long : length nodes ≡ 2 * leaves_of key
  pub each : (r : ℕ) (d : List ℕ) → 0 < r → r < 2 * leaves_of key → slice_index_or nodes r d ≡ node key r

-- the array is that of the leaves' nodes
abbrev pub HoldsLeaves : Secret → List (List ℕ) → Type 0
HoldsLeaves key nodes = (i : ℕ) (d : List ℕ) → i < leaves_of key
    → slice_index_or nodes i d ≡ leaf_node key.id (leaves_of key + i) (one_time_key key.ots key.id i key.seed)

-- the nodes from r on stand in their places
abbrev pub IsFilledFrom : Secret → ℕ → List (List ℕ) → Type 0
IsFilledFrom key r nodes = (k : ℕ) (d : List ℕ) → r ≤ k → k < 2 * leaves_of key → slice_index_or nodes k d ≡ node key k

-- the siblings of the first n nodes on the way up from the node r, as they stand in the array
unfoldable pub path_in : List (List ℕ) → ℕ → ℕ → List ℕ
path_in nodes r zero = []
path_in nodes r (suc n) = path_in nodes r n ++ slice_index_or nodes (sibling (above r n)) []
