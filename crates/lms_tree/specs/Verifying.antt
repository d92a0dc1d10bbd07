-- Whether a signature verifies (RFC 8554, 5.4.2, algorithms 6 and 6a). A signature is the leaf's
-- number q, the one-time signature, the LMS code and the path (5.4).
use Rattle.std.specs.Prelude.{◌≡◌, ℕ, ◌+◌, ◌*◌, ◌^◌, ◌<◌, List, length, take, drop, Bool, ◌&&◌, ◌==◌, nat_lt, nat_le, bytes_eq, IsTrue}
use Rattle.lms_ots.specs.declared.ots_type.OtsType.{OtsType}
use Rattle.lms_ots.specs.Parameters.{sig_len_of}
use Rattle.lms_ots.specs.Ots.{candidate}
use Rattle.lms_tree.specs.PublicKey.{number_at, key_lms, key_ots, key_id, key_root, key_reads, key_type, key_height}
use Rattle.lms_tree.specs.Tree.{leaf_node, climb}

-- q
abbrev pub leaf_of : List ℕ → ℕ
leaf_of sig = number_at sig 0

abbrev pub ots_sig : OtsType → List ℕ → List ℕ
ots_sig t sig = take (sig_len_of t) (drop 4 sig)

abbrev pub path_of : OtsType → List ℕ → List ℕ
path_of t sig = drop (8 + sig_len_of t) sig

-- Tc, the candidate for the root, for the one-time type t and the height h (algorithm 6a, steps 3
-- and 4): from the leaf's node over the candidate Kc upwards
unfoldable pub root_candidate : OtsType → ℕ → List ℕ → List ℕ → List ℕ → List ℕ
root_candidate t h id text sig =
    let r = 2 ^ h + leaf_of sig in
    climb id (path_of t sig) r (leaf_node id r (candidate t id (leaf_of sig) text (ots_sig t sig))) h

-- The test, in the standard's order of steps.
unfoldable pub verifies : List ℕ → List ℕ → List ℕ → Bool
verifies key text sig =
    let t = key_type key in
    let h = key_height key in
    -- algorithm 6, steps 1 and 2: the key is one
    key_reads key
    -- algorithm 6a, steps 1 and 2c: the one-time code is the key's
    && nat_le 8 (length sig)
    && (number_at sig 4 == key_ots key)
    -- steps 2d and 2g: the LMS code is the key's
    && nat_le (8 + sig_len_of t) (length sig)
    && (number_at sig (4 + sig_len_of t) == key_lms key)
    -- step 2i: the leaf is one of the tree's, and the length is exact
    && nat_lt (leaf_of sig) (2 ^ h)
    && (length sig == 8 + sig_len_of t + 32 * h)
    -- algorithm 6, steps 3 and 4: the candidate is the root
    && bytes_eq (root_candidate t h (key_id key) text sig) (key_root key)

-- The signature of the text verifies under the key, as one statement.
pub record Verifies (key text sig : List ℕ) : Type 0 where
  pub key_reads : IsTrue (key_reads key)
  pub ots_code : number_at sig 4 ≡ key_ots key
  pub lms_code : number_at sig (4 + sig_len_of (key_type key)) ≡ key_lms key
  pub leaf : leaf_of sig < 2 ^ key_height key
  pub long : length sig ≡ 8 + sig_len_of (key_type key) + 32 * key_height key
  pub root : root_candidate (key_type key) (key_height key) (key_id key) text sig ≡ key_root key
