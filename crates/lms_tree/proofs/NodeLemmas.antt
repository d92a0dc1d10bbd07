-- The nodes by their recursion upwards.
use Rattle.std.proofs.Common.{◌≡◌, ◌≢◌, inl, inr, get_or, set, get_or-set_other, get_or-set_same, ℕ, zero, suc, ◌+◌, ◌-◌, ◌*◌, ◌^◌, ◌<◌, ◌≤◌, ◌++◌, List, [], length, take, refl, ap, sym, ◌∙◌, arith, rules, nat_lt, true, false}
use Rattle.std.proofs.lemmas.Bool.Decides.{nat_tests}
use Rattle.std.proofs.lemmas.Bool.{cases_lt}
use Rattle.std.proofs.lemmas.List.{get_or-append_right, get_or_append_left, places}
use borrow.Rule.Slice.PartMut.{put_mid, post_of}
use Rattle.std.proofs.Math.Nat.{mul_comm, mul_assoc, mul-le-mul_right, pow-suc}
use Rattle.lms_ots.specs.Signing.{one_time_key}
use Rattle.lms_tree.specs.Laws.{LeavesAreNodes, InnerNodesHashTheirChildren}
use Rattle.lms_tree.specs.Tree.{leaf_node, inner_node}
use Rattle.lms_tree.specs.Secret.{Secret, leaves_of, leaf_at, node_within, node}
use Rattle.lms_tree.specs.Parameters.{levels_of}
use Rattle.lms_tree.specs.Kept.{IsFilledFrom}
use Rattle.lms_tree.specs.declared.height.Height.{Height}
use Rattle.lms_tree.specs.declared.height.Height.TheVariants.{H5, H10, H15}

not_below : (a b : ℕ) → b ≤ a → nat_lt a b ≡ false
not_below a b le = grind (arith, nat_tests)

is_below : (a b : ℕ) → a < b → nat_lt a b ≡ true
is_below a b lt = grind (arith, nat_tests)

pub zero_leaf : (key : Secret) (r : ℕ) → node_within key zero r ≡ leaf_at key r
unfolding node_within
zero_leaf key r = refl

pub within_leaf : (key : Secret) (n r : ℕ) → leaves_of key ≤ r → node_within key n r ≡ leaf_at key r
unfolding node_within
within_leaf key zero r le = refl
within_leaf key (suc n) r le = rw (not_below r (leaves_of key) le) refl

pub within_inner : (key : Secret) (n r : ℕ) → r < leaves_of key
    → node_within key (suc n) r ≡ inner_node key.id r (node_within key n (2 * r)) (node_within key n (2 * r + 1))
unfolding node_within
within_inner key n r lt = rw (is_below r (leaves_of key) lt) refl

twice : (r p : ℕ) → r * (p * 2) ≡ 2 * r * p
twice r p = ap (λ x. r * x) (mul_comm p 2) ∙ sym (mul_assoc r 2 p) ∙ ap (λ x. x * p) (mul_comm r 2)

-- one level more changes nothing where n levels reach the leaves
pub within_more : (key : Secret) (n r : ℕ) → leaves_of key ≤ r * 2 ^ n → node_within key n r ≡ node_within key (suc n) r
within_more key zero r le =
    let reach : leaves_of key ≤ r = omega arith in
    within_leaf key zero r reach ∙ sym (within_leaf key 1 r reach)
within_more key (suc n) r le =
    let here : leaves_of key ≤ 2 * r * 2 ^ n = rw (← twice r (2 ^ n), ← pow-suc 2 n) le in
    let next : 2 * r * 2 ^ n ≤ (2 * r + 1) * 2 ^ n = mul-le-mul_right (2 ^ n) (omega arith) in
    elim (cases_lt r (leaves_of key)) [
      | inl lt ↦ within_inner key n r lt
          ∙ ap (λ x. inner_node key.id r x (node_within key n (2 * r + 1))) (within_more key n (2 * r) here)
          ∙ ap (λ x. inner_node key.id r (node_within key (suc n) (2 * r)) x) (within_more key n (2 * r + 1) (omega arith))
          ∙ sym (within_inner key (suc n) r lt)
      | inr ge ↦ within_leaf key (suc n) r ge ∙ sym (within_leaf key (suc (suc n)) r ge)
    ]

pub node_leaf : (key : Secret) (r : ℕ) → leaves_of key ≤ r → node key r ≡ leaf_at key r
unfolding node
node_leaf key r le = within_leaf key (levels_of key.height) r le

inner_at : (key : Secret) (n r : ℕ) → leaves_of key ≡ 2 ^ suc n → 0 < r → r < leaves_of key
    → node_within key (suc n) r ≡ inner_node key.id r (node_within key (suc n) (2 * r)) (node_within key (suc n) (2 * r + 1))
inner_at key n r all pos lt =
    let half : leaves_of key ≡ 2 ^ n * 2 = all ∙ pow-suc 2 n in
    let one : 1 * (2 ^ n * 2) ≤ r * (2 ^ n * 2) = mul-le-mul_right (2 ^ n * 2) (omega arith) in
    let here : leaves_of key ≤ 2 * r * 2 ^ n = rw (← twice r (2 ^ n)) (omega arith) in
    let next : 2 * r * 2 ^ n ≤ (2 * r + 1) * 2 ^ n = mul-le-mul_right (2 ^ n) (omega arith) in
    within_inner key n r lt
    ∙ ap (λ x. inner_node key.id r x (node_within key n (2 * r + 1))) (within_more key n (2 * r) here)
    ∙ ap (λ x. inner_node key.id r (node_within key (suc n) (2 * r)) x) (within_more key n (2 * r + 1) (omega arith))

inner_for : (h : Height) (key : Secret) (r : ℕ) → key.height ≡ h → 0 < r → r < leaves_of key
    → node_within key (levels_of h) r ≡ inner_node key.id r (node_within key (levels_of h) (2 * r)) (node_within key (levels_of h) (2 * r + 1))
inner_for H5 key r is pos lt = inner_at key 4 r (ap (λ h. 2 ^ levels_of h) is) pos lt
inner_for H10 key r is pos lt = inner_at key 9 r (ap (λ h. 2 ^ levels_of h) is) pos lt
inner_for H15 key r is pos lt = inner_at key 14 r (ap (λ h. 2 ^ levels_of h) is) pos lt

pub node_inner : (key : Secret) (r : ℕ) → 0 < r → r < leaves_of key → node key r ≡ inner_node key.id r (node key (2 * r)) (node key (2 * r + 1))
unfolding node
node_inner key r pos lt = inner_for key.height key r refl pos lt

-- ---- the array

pub filled_leaves : (key : Secret) (n m : ℕ) (before nodes : List (List ℕ)) → n ≡ leaves_of key → n ≤ length before → length nodes ≡ n
    → ((i : ℕ) (d : List ℕ) → i < leaves_of key → get_or nodes i d ≡ leaf_node key.id (leaves_of key + i) (one_time_key key.ots key.id i key.seed))
    → IsFilledFrom key n (put_mid n m before nodes)
filled_leaves key n m before nodes n_is room long each k d le lt =
    let front_long : length (take n before) ≡ n = search (rules, places) in
    let there : leaves_of key + (k - n) ≡ k = omega arith in
    let below : k - n < leaves_of key = omega arith in
    let within : k - n < length nodes = omega arith in
    let at : k - n ≡ k - leaves_of key = omega arith in
    get_or-append_right (take n before) (nodes ++ post_of n m before) n k d front_long le
    ∙ get_or_append_left nodes (post_of n m before) d (k - n) within
    ∙ each (k - n) d below
    ∙ ap (λ i. leaf_node key.id i (one_time_key key.ots key.id (k - n) key.seed)) there
    ∙ ap (λ i. leaf_node key.id k (one_time_key key.ots key.id i key.seed)) at
    ∙ sym (node_leaf key k (omega arith))

pub filled_more : (key : Secret) (nodes : List (List ℕ)) (s r : ℕ) (a b x : List ℕ)
    → IsFilledFrom key s nodes → s ≡ r + 1 → length nodes ≡ 2 * leaves_of key → 0 < r → r < leaves_of key
    → x ≡ inner_node key.id r (get_or nodes (2 * r) a) (get_or nodes (2 * r + 1) b)
    → IsFilledFrom key r (set nodes r x)
filled_more key nodes s r a b x filled s_is long pos lt x_is k d le k_lt =
    elim (cases_lt r k) [
      | inl more ↦ let ne : k ≢ r = omega arith in rw get_or-set_other (filled k d (omega arith) k_lt)
      | inr here ↦
          let k_is : k ≡ r = omega arith in
          let within : r < length nodes = omega arith in
          rw (k_is, get_or-set_same)
          (x_is
          ∙ ap (λ y. inner_node key.id r y (get_or nodes (2 * r + 1) b)) (filled (2 * r) a (omega arith) (omega arith))
          ∙ ap (λ y. inner_node key.id r (node key (2 * r)) y) (filled (2 * r + 1) b (omega arith) (omega arith))
          ∙ sym (node_inner key r pos lt))
    ]

-- four leaves more
pub fours_more : (want : ℕ → List ℕ) (first g i : ℕ) (old new four : List (List ℕ)) → i ≡ first + 4 * g
    → ((k : ℕ) (d : List ℕ) → k < 4 * g → get_or old k d ≡ want (first + k))
    → ((j : ℕ) → j < 4 → get_or four j [] ≡ want (i + j))
    → ((j : ℕ) (d : List ℕ) → j < 4 → get_or new (4 * g + j) d ≡ get_or four j [])
    → ((k : ℕ) (d : List ℕ) → k < 4 * g → get_or new k d ≡ get_or old k d)
    → (k : ℕ) (d : List ℕ) → k < 4 * (g + 1) → get_or new k d ≡ want (first + k)
fours_more want first g i old new four i_is before wanted written others k d lt =
    elim (cases_lt k (4 * g)) [
      | inl front ↦ others k d front ∙ before k d front
      | inr ge ↦
          let lane : k - 4 * g < 4 = omega arith in
          let back : 4 * g + (k - 4 * g) ≡ k = omega arith in
          let there : i + (k - 4 * g) ≡ first + k = omega arith in
          ap (λ n. get_or new n d) (sym back) ∙ written (k - 4 * g) d lane ∙ wanted (k - 4 * g) lane ∙ ap want there
    ]

-- ---- the laws

pub leaves : LeavesAreNodes
leaves key r le = node_leaf key r le

pub inner : InnerNodesHashTheirChildren
inner key r pos lt = node_inner key r pos lt

pub ruleset tree = (leaves, inner)
