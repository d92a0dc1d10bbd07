-- What is signed verifies: the climb meets the nodes of the tree.
use Rattle.std.proofs.Common.{◌≡◌, ◌⊎◌, inl, inr, ℕ, zero, suc, ◌+◌, ◌-◌, ◌*◌, ◌/◌, ◌%◌, ◌^◌, ◌<◌, ◌≤◌, ◌++◌, List, [], length, take, drop, get_or, append_assoc, refl, ap, sym, ◌∙◌, subst, arith, length-append, length-drop, below_more}
use Rattle.std.proofs.lemmas.Bool.{cases_lt}
use Rattle.std.proofs.lemmas.List.{take_at, drop_at, take_all, take-append-le, drop-append-le}
use Rattle.std.proofs.lemmas.Nat.{from_be_bytes-to_be_bytes_4}
use Rattle.std.proofs.Math.Nat.{pow-suc}
use Rattle.std.specs.Int.{w32, to_be_bytes, from_be_bytes}
use Rattle.sha2.proofs.Facts256.{length-sha256}
use Rattle.lms_ots.specs.declared.ots_type.OtsType.{OtsType}
use Rattle.lms_ots.specs.Parameters.{code_of, ots_of, sig_len_of}
use Rattle.lms_ots.specs.Ots.{candidate}
use Rattle.lms_ots.specs.Signing.{one_time_key, ots_signature}
use Rattle.lms_tree.specs.PublicKey.{number_at, key_lms, key_ots, key_id, key_root, key_reads, key_type, key_height}
use Rattle.lms_tree.specs.Parameters.{height_of_code, levels_of, height_code, lms_code_of}
use Rattle.lms_tree.specs.Tree.{above, parent, inner_node, leaf_node, path_at, climb, sibling}
use Rattle.lms_tree.specs.Verifying.{leaf_of, ots_sig, path_of, root_candidate}
use Rattle.lms_tree.specs.Secret.{Secret, leaves_of, node_within, node, public_of, path_from, signature_len, signature_head, signature}
use Rattle.lms_tree.specs.Kept.{path_in, HoldsNodes}
use Rattle.lms_ots.proofs.Signed.{leads, signature-long, signature-code}
use Rattle.lms_tree.specs.declared.height.Height.{Height}
use Rattle.lms_tree.specs.declared.height.Height.TheVariants.{H5, H10, H15}
use Rattle.lms_tree.proofs.Heights.{few_leaves, levels_by_code, height_code_fits}
use Rattle.std.specs.Prelude.{IsTrue}
use Rattle.lms_tree.specs.declared.lms_type.LmsType.{LmsType}
use Rattle.lms_tree.specs.declared.lms_type.LmsType.TheVariants as lms
use Rattle.lms_tree.specs.Laws.{PublicReads, SignedNamesItsLeaf, SignedVerifies}
use Rattle.lms_tree.specs.Codes.{ots_of-code_of, code_fits}
use Rattle.lms_tree.proofs.KeyBytes.{spelled_reads}
use Rattle.lms_tree.proofs.Testing.{verified, take_less}
use Rattle.lms_tree.proofs.NodeLemmas.{zero_leaf, within_leaf, within_inner, node_leaf, node_inner}

-- ---- numbers of nodes on the way up

pub above_bounds : (r n m k : ℕ) → k ≡ n + m → 2 ^ k ≤ r → r < 2 * 2 ^ k → (2 ^ m ≤ above r n) × (above r n < 2 * 2 ^ m)
unfolding above
above_bounds r zero m k k_is le lt =
    let same : m ≡ k = omega arith in
    rw same (le, lt)
above_bounds r (suc n) m k k_is le lt =
    let before : (2 ^ suc m ≤ above r n) × (above r n < 2 * 2 ^ suc m) = above_bounds r n (suc m) k (omega arith) le lt in
    let twice : 2 ^ suc m ≡ 2 ^ m * 2 = pow-suc 2 m in
    (omega (arith, before.0, before.1), omega (arith, before.0, before.1))

pow_pos : (n : ℕ) → 1 ≤ 2 ^ n
pow_pos zero = omega arith
pow_pos (suc n) = rw (pow-suc 2 n) (omega (arith, pow_pos n))

above_le : (r n : ℕ) → above r n ≤ r
unfolding above
above_le r zero = omega arith
above_le r (suc n) = omega (arith, above_le r n)

-- below the top a node has a sibling
pub above_within : (h r i : ℕ) → 2 ^ h ≤ r → r < 2 * 2 ^ h → i < h → (2 ≤ above r i) × (above r i < 2 * 2 ^ h)
above_within h r i le lt i_lt =
    let some : (2 ^ suc (h - i - 1) ≤ above r i) × (above r i < 2 * 2 ^ suc (h - i - 1)) = above_bounds r i (suc (h - i - 1)) h (omega arith) le lt in
    let twice : 2 ^ suc (h - i - 1) ≡ 2 ^ (h - i - 1) * 2 = pow-suc 2 (h - i - 1) in
    (omega (arith, some.0, pow_pos (h - i - 1)), omega (arith, above_le r i))

-- the top is the node 1
pub above_top : (h r : ℕ) → 2 ^ h ≤ r → r < 2 * 2 ^ h → above r h ≡ 1
above_top h r le lt =
    let at : (2 ^ 0 ≤ above r h) × (above r h < 2 * 2 ^ 0) = above_bounds r h 0 h (omega arith) le lt in
    omega (arith, at.0, at.1)

pub parity : (v : ℕ) → (v % 2 ≡ 1) ⊎ (v % 2 ≡ 0)
parity v = elim (cases_lt 0 (v % 2)) [ inl p ↦ inl (omega arith) | inr q ↦ inr (omega arith) ]

-- ---- the climb

pub parent_is : (key : Secret) (v : ℕ) → 2 ≤ v → v < 2 * leaves_of key → parent key.id v (node key v) (node key (sibling v)) ≡ node key (v / 2)
parent_is key v low lt =
    let up : node key (v / 2) ≡ inner_node key.id (v / 2) (node key (2 * (v / 2))) (node key (2 * (v / 2) + 1)) = node_inner key (v / 2) (omega arith) (omega arith) in
    elim (parity v) [
      | inl odd ↦
          let left : 2 * (v / 2) ≡ v - 1 = omega arith in
          let right : 2 * (v / 2) + 1 ≡ v = omega arith in
          rw odd (sym (up ∙ ap (λ k. inner_node key.id (v / 2) (node key k) (node key (2 * (v / 2) + 1))) left ∙ ap (λ k. inner_node key.id (v / 2) (node key (v - 1)) (node key k)) right))
      | inr even ↦
          let left : 2 * (v / 2) ≡ v = omega arith in
          let right : 2 * (v / 2) + 1 ≡ v + 1 = omega arith in
          rw even (sym (up ∙ ap (λ k. inner_node key.id (v / 2) (node key k) (node key (2 * (v / 2) + 1))) left ∙ ap (λ k. inner_node key.id (v / 2) (node key v) (node key k)) right))
    ]

pub climb_nodes : (key : Secret) (path : List ℕ) (r n : ℕ) → n ≤ levels_of key.height → leaves_of key ≤ r → r < 2 * leaves_of key
    → ((i : ℕ) → i < n → path_at path i ≡ node key (sibling (above r i)))
    → climb key.id path r (node key r) n ≡ node key (above r n)
unfolding climb above
climb_nodes key path r zero le low lt parts = refl
climb_nodes key path r (suc n) le low lt parts =
    let below : climb key.id path r (node key r) n ≡ node key (above r n) =
    climb_nodes key path r n (omega arith) low lt (λ i i_lt. parts i (omega arith)) in
    let here : path_at path n ≡ node key (sibling (above r n)) = parts n (omega arith) in
    let bounds : (2 ≤ above r n) × (above r n < 2 * leaves_of key) = above_within (levels_of key.height) r n low lt (omega arith) in
    ap (λ x. parent key.id (above r n) x (path_at path n)) below
    ∙ ap (λ x. parent key.id (above r n) (node key (above r n)) x) here
    ∙ parent_is key (above r n) bounds.0 bounds.1

-- ---- the path

pub node_within_long : (key : Secret) (n r : ℕ) → length (node_within key n r) ≡ 32
node_within_long key zero r = ap length (zero_leaf key r) ∙ length-sha256 _
node_within_long key (suc n) r =
    elim (cases_lt r (leaves_of key)) [
      | inl lt ↦ ap length (within_inner key n r lt) ∙ length-sha256 _
      | inr ge ↦ ap length (within_leaf key (suc n) r ge) ∙ length-sha256 _
    ]

pub node_long : (key : Secret) (r : ℕ) → length (node key r) ≡ 32
unfolding node
node_long key r = node_within_long key (levels_of key.height) r

pub path_long : (key : Secret) (r n : ℕ) → length (path_from key r n) ≡ 32 * n
unfolding path_from
path_long key r zero = refl
path_long key r (suc n) = rw length-append (omega (arith, path_long key r n, node_long key (sibling (above r n))))

path_before : (key : Secret) (r n i : ℕ) → i < n → path_at (path_from key r (suc n)) i ≡ path_at (path_from key r n) i
unfolding path_from
path_before key r n i lt =
    let long : length (path_from key r n) ≡ 32 * n = path_long key r n in
    let here : 32 * i ≤ length (path_from key r n) = omega arith in
    let enough : 32 ≤ length (drop (32 * i) (path_from key r n)) = rw length-drop (omega arith) in
    rw (drop-append-le (32 * i) (path_from key r n) _ here, take-append-le 32 (drop (32 * i) (path_from key r n)) _ enough) refl

path_last : (key : Secret) (r n : ℕ) → path_at (path_from key r (suc n)) n ≡ node key (sibling (above r n))
unfolding path_from
path_last key r n =
    rw (drop_at (path_from key r n) _ (32 * n) (path_long key r n)) (take_all 32 _ (omega (arith, node_long key (sibling (above r n)))))

pub path_of_nodes : (key : Secret) (r n i : ℕ) → i < n → path_at (path_from key r n) i ≡ node key (sibling (above r i))
path_of_nodes key r zero i lt = absurd (omega arith)
path_of_nodes key r (suc n) i lt =
    below_more (λ k. path_at (path_from key r (suc n)) k ≡ node key (sibling (above r k))) n
    (λ k k_lt. path_before key r n k k_lt ∙ path_of_nodes key r n k k_lt) (path_last key r n) i (omega arith)

-- the path of an array that holds the nodes
pub sibling_within : (v l : ℕ) → 2 ≤ v → v < 2 * l → (0 < sibling v) × (sibling v < 2 * l)
sibling_within v l low lt =
    elim (parity v) [
      | inl odd ↦ rw odd (omega arith, omega arith)
      | inr even ↦ rw even (omega arith, omega arith)
    ]

pub path_stands : (key : Secret) (nodes : List (List ℕ)) (r n : ℕ) → HoldsNodes key nodes → n ≤ levels_of key.height → leaves_of key ≤ r → r < 2 * leaves_of key
    → path_in nodes r n ≡ path_from key r n
unfolding path_in path_from
path_stands key nodes r zero holds le low lt = refl
path_stands key nodes r (suc n) holds le low lt =
    let bounds : (2 ≤ above r n) × (above r n < 2 * leaves_of key) = above_within (levels_of key.height) r n low lt (omega arith) in
    let within : (0 < sibling (above r n)) × (sibling (above r n) < 2 * leaves_of key) = sibling_within (above r n) (leaves_of key) bounds.0 bounds.1 in
    ap (λ x. x ++ get_or nodes (sibling (above r n)) []) (path_stands key nodes r n holds (omega arith) low lt)
    ∙ ap (λ x. path_from key r n ++ x) (holds.each (sibling (above r n)) [] within.0 within.1)

-- ---- the public key's fields

pub public_lms : (key : Secret) → key_lms (public_of key) ≡ height_code key.height
unfolding public_of
public_lms key = from_be_bytes-to_be_bytes_4 (height_code key.height) (height_code_fits key.height)

pub public_ots : (key : Secret) → key_ots (public_of key) ≡ code_of key.ots
unfolding public_of
public_ots key = from_be_bytes-to_be_bytes_4 (code_of key.ots) (code_fits key.ots)

pub public_id : (key : Secret) → length key.id ≡ 16 → key_id (public_of key) ≡ key.id
unfolding public_of
public_id key long = take_at key.id (node key 1) 16 long

pub public_root : (key : Secret) → length key.id ≡ 16 → key_root (public_of key) ≡ node key 1
unfolding public_of
public_root key long = drop_at key.id (node key 1) 16 long

-- ---- a signature's parts

pub head_long : (key : Secret) (leaf : ℕ) (text : List ℕ) → length (signature_head key leaf text) ≡ 8 + sig_len_of key.ots
unfolding signature_head
head_long key leaf text =
    let long : length (ots_signature key.ots key.id leaf key.seed text) ≡ sig_len_of key.ots = signature-long key.ots key.id leaf key.seed text in
    simp length-append (omega arith)

pub sig_long : (key : Secret) (leaf : ℕ) (text : List ℕ) → length (signature key leaf text) ≡ signature_len key
unfolding signature
sig_long key leaf text =
    rw length-append (omega (arith, head_long key leaf text, path_long key (leaves_of key + leaf) (levels_of key.height)))

pub sig_leaf : (key : Secret) (leaf : ℕ) (text : List ℕ) → leaf < 2 ^ 32 → leaf_of (signature key leaf text) ≡ leaf
unfolding signature signature_head
sig_leaf key leaf text fits = from_be_bytes-to_be_bytes_4 leaf fits

pub sig_path : (key : Secret) (leaf : ℕ) (text : List ℕ) → path_of key.ots (signature key leaf text) ≡ path_from key (leaves_of key + leaf) (levels_of key.height)
unfolding signature
sig_path key leaf text = drop_at (signature_head key leaf text) _ (8 + sig_len_of key.ots) (head_long key leaf text)

pub sig_one_time : (key : Secret) (leaf : ℕ) (text : List ℕ) → ots_sig key.ots (signature key leaf text) ≡ ots_signature key.ots key.id leaf key.seed text
unfolding signature signature_head
sig_one_time key leaf text =
    simp append_assoc (take_at (ots_signature key.ots key.id leaf key.seed text) _ (sig_len_of key.ots) (signature-long key.ots key.id leaf key.seed text))

code_at : (a o c p : List ℕ) (n : ℕ) → length a ≡ 4 → length o ≡ n → length c ≡ 4 → take 4 (drop (4 + n) (((a ++ o) ++ c) ++ p)) ≡ c
code_at a o c p n a_long o_long c_long =
    let front : length (a ++ o) ≡ 4 + n = rw length-append (omega arith) in
    ap (λ x. take 4 (drop (4 + n) x)) (append_assoc (a ++ o) c p)
    ∙ ap (take 4) (drop_at (a ++ o) (c ++ p) (4 + n) front)
    ∙ take_at c p 4 c_long

pub sig_code : (key : Secret) (leaf : ℕ) (text : List ℕ) → number_at (signature key leaf text) (4 + sig_len_of key.ots) ≡ height_code key.height
unfolding signature signature_head
sig_code key leaf text =
    ap (from_be_bytes w32) (code_at (to_be_bytes w32 leaf) (ots_signature key.ots key.id leaf key.seed text) (to_be_bytes w32 (height_code key.height))
    (path_from key (leaves_of key + leaf) (levels_of key.height)) (sig_len_of key.ots) refl (signature-long key.ots key.id leaf key.seed text) refl)
    ∙ from_be_bytes-to_be_bytes_4 (height_code key.height) (height_code_fits key.height)

-- ---- the law

root_reached : (key : Secret) (leaf : ℕ) (text sig : List ℕ) → leaf < leaves_of key → leaf_of sig ≡ leaf
    → ots_sig key.ots sig ≡ ots_signature key.ots key.id leaf key.seed text
    → path_of key.ots sig ≡ path_from key (leaves_of key + leaf) (levels_of key.height)
    → root_candidate key.ots (levels_of key.height) key.id text sig ≡ node key 1
unfolding root_candidate
root_reached key leaf text sig lt leaf_is one_time_is path_is =
    let r : ℕ = leaves_of key + leaf in
    let at_leaf : leaves_of key + leaf - leaves_of key ≡ leaf = omega arith in
    let start : leaf_node key.id (leaves_of key + leaf) (one_time_key key.ots key.id leaf key.seed) ≡ node key (leaves_of key + leaf) =
    ap (λ i. leaf_node key.id (leaves_of key + leaf) (one_time_key key.ots key.id i key.seed)) (sym at_leaf) ∙ sym (node_leaf key (leaves_of key + leaf) (omega arith)) in
    ap (λ i. climb key.id (path_of key.ots sig) (leaves_of key + i) (leaf_node key.id (leaves_of key + i) (candidate key.ots key.id i text (ots_sig key.ots sig))) (levels_of key.height)) leaf_is
    ∙ ap (λ o. climb key.id (path_of key.ots sig) (leaves_of key + leaf) (leaf_node key.id (leaves_of key + leaf) (candidate key.ots key.id leaf text o)) (levels_of key.height)) one_time_is
    ∙ ap (λ p. climb key.id p (leaves_of key + leaf) (leaf_node key.id (leaves_of key + leaf) (candidate key.ots key.id leaf text (ots_signature key.ots key.id leaf key.seed text))) (levels_of key.height)) path_is
    ∙ ap (λ k. climb key.id (path_from key (leaves_of key + leaf) (levels_of key.height)) (leaves_of key + leaf) (leaf_node key.id (leaves_of key + leaf) k) (levels_of key.height)) (leads key.ots key.id leaf key.seed text)
    ∙ ap (λ x. climb key.id (path_from key (leaves_of key + leaf) (levels_of key.height)) (leaves_of key + leaf) x (levels_of key.height)) start
    ∙ climb_nodes key (path_from key (leaves_of key + leaf) (levels_of key.height)) (leaves_of key + leaf) (levels_of key.height) (omega arith) (omega arith) (omega arith)
    (path_of_nodes key (leaves_of key + leaf) (levels_of key.height))
    ∙ ap (node key) (above_top (levels_of key.height) (leaves_of key + leaf) (omega arith) (omega arith))

-- the LMS type of a height
lms_type : Height → LmsType
lms_type H5 = lms.H5
lms_type H10 = lms.H10
lms_type H15 = lms.H15

lms_type_code : (h : Height) → lms_code_of (lms_type h) ≡ height_code h
unfolding lms_type
lms_type_code H5 = refl
lms_type_code H10 = refl
lms_type_code H15 = refl

pub public_is_key : PublicReads
unfolding public_of
public_is_key key long =
    subst (λ n. IsTrue (key_reads (to_be_bytes w32 n ++ to_be_bytes w32 (code_of key.ots) ++ key.id ++ node key 1))) (lms_type_code key.height)
    (spelled_reads (lms_type key.height) key.ots key.id (node key 1) long (node_long key 1))

-- the one-time type and the height of the public key
pub public_type : (key : Secret) → key_type (public_of key) ≡ key.ots
public_type key = ap ots_of (public_ots key) ∙ ots_of-code_of key.ots

pub public_height : (key : Secret) → key_height (public_of key) ≡ levels_of key.height
public_height key = ap height_of_code (public_lms key) ∙ levels_by_code key.height

-- the conditions, for the one-time type t and the height h of the public key
abbrev Conditions : OtsType → ℕ → Secret → ℕ → List ℕ → Type 0
Conditions t h key leaf text =
    (number_at (signature key leaf text) 4 ≡ code_of key.ots)
    × (number_at (signature key leaf text) (4 + sig_len_of t) ≡ height_code key.height)
    × (leaf_of (signature key leaf text) < 2 ^ h)
    × (length (signature key leaf text) ≡ 8 + sig_len_of t + 32 * h)
    × (root_candidate t h (key_id (public_of key)) text (signature key leaf text) ≡ key_root (public_of key))

sig_ots_code : (key : Secret) (leaf : ℕ) (text : List ℕ) → number_at (signature key leaf text) 4 ≡ code_of key.ots
sig_ots_code key leaf text =
    ap (from_be_bytes w32) (sym (take_less 4 (sig_len_of key.ots) (drop 4 (signature key leaf text)) (omega arith)) ∙ ap (take 4) (sig_one_time key leaf text))
    ∙ signature-code key.ots key.id leaf key.seed text

accepted : (key : Secret) (leaf : ℕ) (text : List ℕ) → length key.id ≡ 16 → leaf < leaves_of key → Conditions key.ots (levels_of key.height) key leaf text
accepted key leaf text long lt =
    let fits : leaf < 2 ^ 32 = omega (arith, few_leaves key.height) in (
      sig_ots_code key leaf text,
      sig_code key leaf text,
      subst (λ n. n < leaves_of key) (sym (sig_leaf key leaf text fits)) lt,
      sig_long key leaf text,
      ap (λ id. root_candidate key.ots (levels_of key.height) id text (signature key leaf text)) (public_id key long)
          ∙ root_reached key leaf text (signature key leaf text) lt (sig_leaf key leaf text fits) (sig_one_time key leaf text) (sig_path key leaf text)
          ∙ sym (public_root key long),
    )

pub leaf_named : SignedNamesItsLeaf
leaf_named key leaf text lt = sig_leaf key leaf text (omega (arith, few_leaves key.height))

pub signature_verifies : SignedVerifies
signature_verifies key leaf text long lt =
    let parts : Conditions (key_type (public_of key)) (key_height (public_of key)) key leaf text =
    subst (λ t. Conditions t (key_height (public_of key)) key leaf text) (sym (public_type key))
    (subst (λ h. Conditions key.ots h key leaf text) (sym (public_height key)) (accepted key leaf text long lt)) in
    verified (public_of key) text (signature key leaf text) (record {
      key_reads = public_is_key key long;
      ots_code = parts.0 ∙ sym (public_ots key);
      lms_code = parts.1 ∙ sym (public_lms key);
      leaf = parts.2;
      long = parts.3;
      root = parts.4;
    })

pub ruleset signed = (public_is_key, leaf_named, signature_verifies)
