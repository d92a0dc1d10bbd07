-- Steps of chains that go on side by side.
use Rattle.std.proofs.Common.{◌≡◌, ◌≢◌, ◌⊎◌, ℕ, zero, suc, ◌+◌, ◌-◌, ◌*◌, ◌<◌, ◌≤◌, min, List, [], ◌∷◌, ◌++◌, add-one, append_assoc, length, take, slice_index, slice_index_or, slice_set, refl, ap, sym, subst, ◌∙◌, inl, inr, arith, below_more}
use Rattle.std.proofs.lemmas.Bool.{cases_eq, cases_lt}
use Rattle.std.proofs.lemmas.List.{append-nil, get_or-set_same, get_or-set_other}
use Rattle.std.proofs.Math.ListN.{length-set}
use Rattle.sha2.specs.Sha256.{sha256}
use Rattle.lms_ots.specs.declared.ots_type.OtsType.{OtsType}
use Rattle.lms_ots.specs.Parameters.{chains_of, max_digit, width_of}
use Rattle.lms_ots.specs.Ots.{steps, d_pblc, tagged, chain, coef, y_at, candidate_ends}
use Rattle.lms_ots.specs.Signing.{one_time_key, secret_start, public_ends, signed_chains}
use Rattle.lms_ots.specs.Lanes.{Advanced, joined_to}
use Rattle.lms_ots.proofs.Signed.{part-long, public_ends-more, steps-add}

-- one step more
pub steps-next : (id : List ℕ) (q i first k : ℕ) (x v m d : List ℕ) → m ≡ tagged id q i ++ ((first + k) ∷ v)
    → v ≡ steps id q i first k x → d ≡ sha256 m → d ≡ steps id q i first (k + 1) x
unfolding steps
steps-next id q i first k x v m d m_is v_is d_is =
    rw add-one (d_is ∙ ap sha256 (m_is ∙ ap (λ y. tagged id q i ++ ((first + k) ∷ y)) v_is))

-- a chain goes on for `count` steps
pub chain-on : (id : List ℕ) (q i from at count : ℕ) (x v d : List ℕ) → from ≤ at → v ≡ chain id q i from at x → d ≡ steps id q i at count v
    → d ≡ chain id q i from (at + count) x
chain-on id q i from at count x v d le v_is d_is =
    let all : at + count - from ≡ at - from + count = omega arith in
    let here : from + (at - from) ≡ at = omega arith in
    d_is
    ∙ ap (steps id q i at count) v_is
    ∙ sym (ap (λ n. steps id q i from n x) all ∙ steps-add id q i from (at - from) count x
    ∙ ap (λ f. steps id q i f count (chain id q i from at x)) here)

-- a chain goes on to the step `to`
pub chain-to : (id : List ℕ) (q i from at to : ℕ) (x v d : List ℕ) → from ≤ at → at ≤ to → v ≡ chain id q i from at x → d ≡ chain id q i at to v
    → d ≡ chain id q i from to x
chain-to id q i from at to x v d le below v_is d_is =
    let all : at + (to - at) ≡ to = omega arith in
    chain-on id q i from at (to - at) x v d le v_is d_is ∙ ap (λ n. chain id q i from n x) all

-- a chain that is at its end stays there
pub chain_done : (id : List ℕ) (q i from to : ℕ) (x : List ℕ) → to ≤ from → x ≡ chain id q i from to x
unfolding steps
chain_done id q i from to x le =
    let none : to - from ≡ 0 = omega arith in
    rw none refl

-- from a secret start
pub chain-secret : (id : List ℕ) (q i k count : ℕ) (secret x d : List ℕ) → k ≡ i → x ≡ steps id q i 255 1 secret → d ≡ steps id q i 0 count x
    → d ≡ chain id q k 0 count (secret_start id q k secret)
unfolding steps
chain-secret id q i k count secret x d k_is x_is d_is =
    let all : count - 0 ≡ count = omega arith in
    rw (k_is, all) (d_is ∙ ap (steps id q i 0 count) x_is)

-- one chain that went on
pub advanced_set : (id : List ℕ) (q : ℕ) (from : List ℕ) (starts : List (List ℕ)) (to at : List ℕ) (values : List (List ℕ)) (i place : ℕ) (value : List ℕ)
    → Advanced id q from starts to at values → i < length at → i < length values
    → slice_index from i ≤ place → place ≤ slice_index to i → value ≡ chain id q i (slice_index from i) place (slice_index_or starts i [])
    → Advanced id q from starts to (slice_set at i place) (slice_set values i value)
advanced_set id q from starts to at values i place value held in_at in_values forward within reached =
    let P : ℕ → Type 0 = λ k. (slice_index from k ≤ slice_index (slice_set at i place) k)
    × (slice_index (slice_set at i place) k ≤ slice_index to k)
    × (slice_index_or (slice_set values i value) k [] ≡ chain id q k (slice_index from k) (slice_index (slice_set at i place) k) (slice_index_or starts k [])) in
    let here : P i = rw (get_or-set_same at i place 0 in_at, get_or-set_same values i value [] in_values) (forward, within, reached) in
    let same : length (slice_set values i value) ≡ length values = length-set values i value in
    let each : (k : ℕ) → k < length (slice_set values i value) → P k = λ k below.
    let lt : k < length values = omega arith in
    elim (cases_eq k i) [
      | inl e ↦ subst P (sym e) here
      | inr ne ↦ rw (get_or-set_other at i k place 0 ne, get_or-set_other values i k value [] ne) (held.forward k lt, held.within k lt, held.reached k lt)
    ] in
    record { forward = λ k lt. (each k lt).0; within = λ k lt. (each k lt).1; reached = λ k lt. (each k lt).2 }

-- four more of the values, which may overlap those before them
pub four_more : (want : ℕ → List ℕ) (n g i : ℕ) (old new four : List (List ℕ)) → 4 ≤ n → i ≡ min (4 * g) (n - 4)
    → ((k : ℕ) → k < 4 * g → k < n → slice_index_or old k [] ≡ want k)
    → ((j : ℕ) → j < 4 → slice_index_or four j [] ≡ want (i + j))
    → ((j : ℕ) → j < 4 → slice_index_or new (i + j) [] ≡ slice_index_or four j [])
    → ((k : ℕ) → (k < i) ⊎ (i + 4 ≤ k) → slice_index_or new k [] ≡ slice_index_or old k [])
    → (k : ℕ) → k < 4 * (g + 1) → k < n → slice_index_or new k [] ≡ want k
four_more want n g i old new four some i_is before wanted written others k lt in_n =
    elim (cases_lt k i) [
      | inl front ↦ others k (inl front) ∙ before k (omega arith) in_n
      | inr ge ↦
          let lane : k - i < 4 = omega arith in
          let back : i + (k - i) ≡ k = omega arith in
          let P : ℕ → Type 0 = λ m. slice_index_or new m [] ≡ want m in
          subst P back (written (k - i) lane ∙ wanted (k - i) lane)
    ]

-- one more value of a list
pub set_more : (want : ℕ → List ℕ) (now : List (List ℕ)) (j : ℕ) (x : List ℕ) → j < length now → x ≡ want j
    → ((i : ℕ) → i < j → slice_index_or now i [] ≡ want i) → (i : ℕ) → i < j + 1 → slice_index_or (slice_set now j x) i [] ≡ want i
set_more want now j x within x_is before =
    below_more (λ i. slice_index_or (slice_set now j x) i [] ≡ want i) j
    (λ i lt. let ne : i ≢ j = omega arith in get_or-set_other now j i x [] ne ∙ before i lt)
    (get_or-set_same now j x [] within ∙ x_is)

-- and those behind it
pub set_rest : (before now : List (List ℕ)) (j : ℕ) (x : List ℕ) → ((i : ℕ) → j ≤ i → slice_index_or now i [] ≡ slice_index_or before i [])
    → (i : ℕ) → j + 1 ≤ i → slice_index_or (slice_set now j x) i [] ≡ slice_index_or before i []
set_rest before now j x rest i le =
    let ne : i ≢ j = omega arith in
    get_or-set_other now j i x [] ne ∙ rest i (omega arith)

-- what holds of all four chains still holds where one lane goes to another
pub lane_replaced : (four : List ℕ) (lane x n : ℕ) → length four ≡ 4 → lane < 4 → x < n → ((j : ℕ) → j < 4 → slice_index four j < n)
    → (j : ℕ) → j < 4 → slice_index (slice_set four lane x) j < n
lane_replaced four lane x n long within below all j lt =
    let here : lane < length four = omega arith in
    let P : ℕ → Type 0 = λ y. y < n in
    elim (cases_eq j lane) [
      | inl e ↦ subst P (sym (ap (slice_index (slice_set four lane x)) e ∙ get_or-set_same four lane x 0 here)) below
      | inr ne ↦ subst P (sym (get_or-set_other four lane j x 0 ne)) (all j lt)
    ]

-- chains that stand where they began
pub advanced_none : (id : List ℕ) (q : ℕ) (at to : List ℕ) (values : List (List ℕ)) → ((i : ℕ) → i < length values → slice_index at i ≤ slice_index to i)
    → Advanced id q at values to at values
advanced_none id q at to values within = record {
  forward = λ i lt. omega arith;
  within = within;
  reached = λ i lt. chain_done id q i (slice_index at i) (slice_index at i) _ (omega arith);
}

-- ---- values that are joined

pub joined-none : (values : List (List ℕ)) (front : List ℕ) → front ++ joined_to values 0 ≡ front
unfolding joined_to
joined-none values front = append-nil front

pub joined-more : (values : List (List ℕ)) (front : List ℕ) (i : ℕ) (d : List ℕ) → d ≡ slice_index_or values i []
    → front ++ joined_to values (i + 1) ≡ front ++ joined_to values i ++ d
unfolding joined_to
joined-more values front i d d_is = rw (add-one, d_is) (sym (append_assoc front (joined_to values i) _))

-- the ends of all chains from their secret starts
pub joined-public : (id : List ℕ) (q w : ℕ) (secret : List ℕ) (values : List (List ℕ)) (n : ℕ)
    → ((i : ℕ) → i < n → slice_index_or values i [] ≡ chain id q i 0 (max_digit w) (secret_start id q i secret))
    → joined_to values n ≡ public_ends id q w secret n
unfolding joined_to public_ends
joined-public id q w secret values zero each = refl
joined-public id q w secret values (suc n) each =
    let before : joined_to values n ≡ public_ends id q w secret n = joined-public id q w secret values n (λ i lt. each i (omega arith)) in
    rw (before, each n (omega arith)) refl

-- the values of all chains at their digits
pub joined-signed : (id : List ℕ) (q w : ℕ) (s secret : List ℕ) (values : List (List ℕ)) (n : ℕ)
    → ((i : ℕ) → i < n → slice_index_or values i [] ≡ chain id q i 0 (coef s i w) (secret_start id q i secret))
    → joined_to values n ≡ signed_chains id q w s secret n
unfolding joined_to signed_chains
joined-signed id q w s secret values zero each = refl
joined-signed id q w s secret values (suc n) each =
    let before : joined_to values n ≡ signed_chains id q w s secret n = joined-signed id q w s secret values n (λ i lt. each i (omega arith)) in
    rw (before, each n (omega arith)) refl

-- the ends of all chains from a signature's values
pub joined-candidate : (id : List ℕ) (q w : ℕ) (s sig : List ℕ) (values : List (List ℕ)) (n : ℕ)
    → ((i : ℕ) → i < n → slice_index_or values i [] ≡ chain id q i (coef s i w) (max_digit w) (y_at sig i))
    → joined_to values n ≡ candidate_ends id q w s sig n
unfolding joined_to candidate_ends
joined-candidate id q w s sig values zero each = refl
joined-candidate id q w s sig values (suc n) each =
    let before : joined_to values n ≡ candidate_ends id q w s sig n = joined-candidate id q w s sig values n (λ i lt. each i (omega arith)) in
    rw (before, each n (omega arith)) refl

-- one more end in the text whose hash is a key
pub end-more : (id : List ℕ) (q w i at : ℕ) (secret old new d : List ℕ) → at ≡ 22 + 32 * i
    → take at old ≡ tagged id q d_pblc ++ public_ends id q w secret i → take (at + length d) new ≡ take at old ++ d
    → d ≡ chain id q i 0 (max_digit w) (secret_start id q i secret)
    → take (22 + 32 * (i + 1)) new ≡ tagged id q d_pblc ++ public_ends id q w secret (i + 1)
end-more id q w i at secret old new d at_is held put_is d_is =
    let long : length d ≡ 32 = ap length d_is ∙ part-long id q i (max_digit w) secret in
    let all : 22 + 32 * (i + 1) ≡ at + length d = omega arith in
    ap (λ n. take n new) all
    ∙ put_is
    ∙ ap (λ y. y ++ d) held
    ∙ sym (public_ends-more id q w secret (tagged id q d_pblc) i d d_is)

-- the key of a leaf, as the hash of its text
pub key-of_text : (t : OtsType) (id : List ℕ) (q k : ℕ) (secret text d : List ℕ) → k ≡ q
    → text ≡ tagged id q d_pblc ++ public_ends id q (width_of t) secret (chains_of t)
    → d ≡ sha256 text → d ≡ one_time_key t id k secret
unfolding one_time_key
key-of_text t id q k secret text d k_is text_is d_is = rw k_is (d_is ∙ ap sha256 text_is)
