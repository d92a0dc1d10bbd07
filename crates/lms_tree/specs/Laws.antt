-- What holds of the definitions alone.
use Rattle.std.specs.Prelude.{◌≡◌, ℕ, ◌+◌, ◌-◌, ◌*◌, ◌<◌, ◌≤◌, ◌↔◌, List, length, false, IsTrue}
use Rattle.lms_ots.specs.Signing.{one_time_key}
use Rattle.lms_tree.specs.PublicKey.{key_reads}
use Rattle.lms_tree.specs.Tree.{leaf_node, inner_node}
use Rattle.lms_tree.specs.Verifying.{Verifies, verifies, leaf_of}
use Rattle.lms_tree.specs.Secret.{Secret, leaves_of, node, public_of, signature}

-- the test answers exactly the statement
abbrev pub TestIsTheStatement : Type 0
TestIsTheStatement = (key text sig : List ℕ) → IsTrue (verifies key text sig) ↔ Verifies key text sig

-- no signature of fewer than four bytes verifies
abbrev pub ShortNeverVerifies : Type 0
ShortNeverVerifies = (key text sig : List ℕ) → length sig < 4 → verifies key text sig ≡ false

-- from 2^h on the nodes are those over the one-time keys (RFC 8554, 5.3)
abbrev pub LeavesAreNodes : Type 0
LeavesAreNodes = (key : Secret) (r : ℕ) → leaves_of key ≤ r
    → node key r ≡ leaf_node key.id r (one_time_key key.ots key.id (r - leaves_of key) key.seed)

-- the other nodes are those over their two children (RFC 8554, 5.3)
abbrev pub InnerNodesHashTheirChildren : Type 0
InnerNodesHashTheirChildren = (key : Secret) (r : ℕ) → 0 < r → r < leaves_of key
    → node key r ≡ inner_node key.id r (node key (2 * r)) (node key (2 * r + 1))

-- the public key of an identifier of 16 bytes reads
abbrev pub PublicReads : Type 0
PublicReads = (key : Secret) → length key.id ≡ 16 → IsTrue (key_reads (public_of key))

-- what a leaf of the tree signs names the leaf, and verifies under the public key
abbrev pub SignedNamesItsLeaf : Type 0
SignedNamesItsLeaf = (key : Secret) (leaf : ℕ) (text : List ℕ) → leaf < leaves_of key → leaf_of (signature key leaf text) ≡ leaf

abbrev pub SignedVerifies : Type 0
SignedVerifies = (key : Secret) (leaf : ℕ) (text : List ℕ)
    → length key.id ≡ 16 → leaf < leaves_of key → IsTrue (verifies (public_of key) text (signature key leaf text))
