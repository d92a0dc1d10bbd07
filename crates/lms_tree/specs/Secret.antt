-- Private keys: the tree over the one-time keys of a secret seed, the public key and signatures
-- (RFC 8554, 5.2 to 5.4 and Appendix A).
use Rattle.std.specs.Prelude.{ℕ, zero, suc, ◌+◌, ◌-◌, ◌*◌, ◌^◌, List, [], ◌++◌, nat_lt, if◌then◌else◌}
use Rattle.std.specs.Int.{w32, to_be_bytes}
use Rattle.lms_ots.specs.declared.ots_type.OtsType.{OtsType}
use Rattle.lms_ots.specs.Parameters.{code_of, sig_len_of}
use Rattle.lms_ots.specs.Signing.{one_time_key, ots_signature}
use Rattle.lms_tree.specs.declared.height.Height.{Height}
use Rattle.lms_tree.specs.Parameters.{levels_of, height_code}
use Rattle.lms_tree.specs.Tree.{leaf_node, inner_node, above, sibling}

-- what a private key is made of: the two types, the identifier I and the seed
pub record Secret : Type 0 where
  pub height : Height
  pub ots : OtsType
  pub id : List ℕ
  pub seed : List ℕ

-- 2^h, the number of leaves
abbrev pub leaves_of : Secret → ℕ
leaves_of key = 2 ^ levels_of key.height

-- ---- the tree (5.3)

-- T[r] of a leaf
abbrev pub leaf_at : Secret → ℕ → List ℕ
leaf_at key r = leaf_node key.id r (one_time_key key.ots key.id (r - leaves_of key) key.seed)

-- T[r] with at most n levels below r: a leaf from 2^h on, otherwise the hash of the two children
unfoldable pub node_within : Secret → ℕ → ℕ → List ℕ
node_within key zero r = leaf_at key r
node_within key (suc n) r =
    if nat_lt r (leaves_of key) then inner_node key.id r (node_within key n (2 * r)) (node_within key n (2 * r + 1)) else leaf_at key r

-- T[r]: no node from 1 on has more than h levels below it
unfoldable pub node : Secret → ℕ → List ℕ
node key r = node_within key (levels_of key.height) r

-- the public key's bytes: both codes, I and T[1]
unfoldable pub public_of : Secret → List ℕ
public_of key = to_be_bytes w32 (height_code key.height) ++ to_be_bytes w32 (code_of key.ots) ++ key.id ++ node key 1

-- ---- a signature (5.4)

-- path[0] to path[n-1]: the siblings of the first n nodes on the way up from the node r
unfoldable pub path_from : Secret → ℕ → ℕ → List ℕ
path_from key r zero = []
path_from key r (suc n) = path_from key r n ++ node key (sibling (above r n))

-- its length in bytes
abbrev pub signature_len : Secret → ℕ
signature_len key = 8 + sig_len_of key.ots + 32 * levels_of key.height

-- the leaf's number, the one-time signature and the LMS code
unfoldable pub signature_head : Secret → ℕ → List ℕ → List ℕ
signature_head key leaf text = to_be_bytes w32 leaf ++ ots_signature key.ots key.id leaf key.seed text ++ to_be_bytes w32 (height_code key.height)

-- the signature of a text by a leaf: the path begins at the node 2^h + leaf
unfoldable pub signature : Secret → ℕ → List ℕ → List ℕ
signature key leaf text = signature_head key leaf text ++ path_from key (leaves_of key + leaf) (levels_of key.height)
