-- What a bisection finds among rows that ascend by family and client.
use Rattle.std.proofs.Common.{◌≡◌, ℕ, zero, suc, ◌<◌, ◌≤◌, ◌⊎◌, inl, inr, Bool, true, false, cond, eqb, ltb, ◌&&◌, ◌||◌, List, [], ◌∷◌, length, get_or, drop, Option, Some, None, refl, sym, ap, ap₂, subst, ◌∙◌, arith}
use Rattle.std.specs.Prelude.{map}
use Rattle.std.specs.List.{AllByRecursion}
use Rattle.std.specs.List.Sorted.{IsNonDecreasingBy, IsPartitionPoint}
use Rattle.std.specs.declared.cmp.Ordering.{Ordering}
use Rattle.std.specs.declared.cmp.Ordering.TheVariants.{Less, Equal, Greater}
use Rattle.std.specs.Ordering.{nat_cmp, ordering_then, ordering_index}
use Rattle.std.proofs.lemmas.Bool.{and_parts, cases_lt}
use Rattle.std.proofs.lemmas.Bool.Decides.{nat_tests}
use Rattle.std.proofs.lemmas.List.{length-map}
use Rattle.lms_tree.specs.PublicKey.{key_reads}
use Rattle.cp_families.specs.Families.{FamilyRow, family_ascends, key_of}
use Rattle.cp_families.specs.Rows.{row_of, IsListed}

-- ---- pairs of numbers

-- the first pair comes before the second
pub data Before (a b c d : ℕ) : Type 0 where
  By_first : a < c → Before a b c d
  By_second : a ≡ c → b < d → Before a b c d

Before-trans : (a b c d e f : ℕ) → Before a b c d → Before c d e f → Before a b e f
Before-trans a b c d e f (By_first p) (By_first q) = By_first (omega arith)
Before-trans a b c d e f (By_first p) (By_second q r) = By_first (omega arith)
Before-trans a b c d e f (By_second p r) (By_first q) = By_first (omega arith)
Before-trans a b c d e f (By_second p r) (By_second q s) = By_second (p ∙ q) (omega arith)

Before-other : (a b c d : ℕ) → Before a b c d → ((eqb a c && eqb b d) ≡ false) × ((eqb c a && eqb d b) ≡ false)
Before-other a b c d (By_first p) = (first_apart a c b d (omega arith), first_apart c a d b (omega arith))
  where
    first_apart : (a c b d : ℕ) → (a ≡ c → ⊥) → (eqb a c && eqb b d) ≡ false
    first_apart a c b d h = grind (arith, nat_tests)
Before-other a b c d (By_second p q) = (second_apart a c b d (omega arith), second_apart c a d b (omega arith))
  where
    second_apart : (a c b d : ℕ) → (b ≡ d → ⊥) → (eqb a c && eqb b d) ≡ false
    second_apart a c b d h = grind (arith, nat_tests)

before_from : (a b c d : ℕ) → (ltb a c || (eqb a c && ltb b d)) ≡ true → Before a b c d
before_from a b c d h = go (cases_lt a c)
  where
    equal : (a b c d : ℕ) → c ≤ a → (ltb a c || (eqb a c && ltb b d)) ≡ true → (a ≡ c) × (b < d)
    equal a b c d le h = (grind (arith, nat_tests), grind (arith, nat_tests))

    go : ((a < c) ⊎ (c ≤ a)) → Before a b c d
    go (inl lt) = By_first lt
    go (inr le) = let e = equal a b c d le h in By_second e.0 e.1

-- how one pair stands to another
abbrev pub order_of : ℕ → ℕ → ℕ → ℕ → Ordering
order_of a b c d = ordering_then (nat_cmp a c) (nat_cmp b d)

order_less : (a b c d : ℕ) → Before a b c d → order_of a b c d ≡ Less
order_less a b c d (By_first p) = grind (arith, nat_tests)
order_less a b c d (By_second p q) = grind (arith, nat_tests)

order_equal : (a b c d : ℕ) → order_of a b c d ≡ Equal → (a ≡ c) × (b ≡ d)
order_equal a b c d h = (grind (arith, nat_tests), grind (arith, nat_tests))

order_apart : (a b c d : ℕ) → (order_of a b c d ≡ Less) ⊎ (order_of a b c d ≡ Greater) → (eqb a c && eqb b d) ≡ false
order_apart a b c d (inl h) = grind (arith, nat_tests)
order_apart a b c d (inr h) = grind (arith, nat_tests)

order_rises : (a b c d f k : ℕ) → Before a b c d → ordering_index (order_of a b f k) ≤ ordering_index (order_of c d f k)
order_rises a b c d f k (By_first p) = grind (arith, nat_tests)
order_rises a b c d f k (By_second p q) = grind (arith, nat_tests)

-- ---- rows that ascend

abbrev RowBefore : FamilyRow → FamilyRow → Type 0
RowBefore r s = Before r.family r.client s.family s.client

first_before_all : (r : FamilyRow) (rows : List FamilyRow) (i : ℕ) (d : FamilyRow) → family_ascends (Some r) rows ≡ true → i < length rows → RowBefore r (get_or rows i d)
first_before_all r [] i d up lt = absurd (omega (arith, lt))
first_before_all r (x ∷ xs) zero d up lt = before_from r.family r.client x.family x.client (and_parts _ _ up).0
first_before_all r (x ∷ xs) (suc i) d up lt =
    let y = get_or xs i d in
    Before-trans r.family r.client x.family x.client y.family y.client (before_from r.family r.client x.family x.client (and_parts _ _ up).0) (first_before_all x xs i d (and_parts _ _ up).1 (omega (arith, lt)))

all_before : (before : Option FamilyRow) (rows : List FamilyRow) (i j : ℕ) (d : FamilyRow) → family_ascends before rows ≡ true → i < j → j < length rows → RowBefore (get_or rows i d) (get_or rows j d)
all_before before [] i j d up lt in_range = absurd (omega (arith, in_range))
all_before before (x ∷ xs) i zero d up lt in_range = absurd (omega (arith, lt))
all_before before (x ∷ xs) zero (suc j) d up lt in_range = first_before_all x xs j d (and_parts _ _ up).1 (omega (arith, in_range))
all_before before (x ∷ xs) (suc i) (suc j) d up lt in_range = all_before (Some x) xs i j d (and_parts _ _ up).1 (omega (arith, lt)) (omega (arith, in_range))

key_at : (before : Option FamilyRow) (rows : List FamilyRow) (i : ℕ) (d : FamilyRow) → family_ascends before rows ≡ true → i < length rows → key_of rows (get_or rows i d).family (get_or rows i d).client ≡ Some (get_or rows i d).key
key_at before [] i d up lt = absurd (omega (arith, lt))
key_at before (x ∷ xs) zero d up lt = here (eqb x.family x.family && eqb x.client x.client) (same x.family x.client)
  where
    same : (a b : ℕ) → (eqb a a && eqb b b) ≡ true
    same a b = grind (arith, nat_tests)

    here : (t : Bool) → t ≡ true → cond t (Some x.key) (key_of xs x.family x.client) ≡ Some x.key
    here t e = rw e refl
key_at before (x ∷ xs) (suc i) d up lt =
    let y = get_or xs i d in
    let below : i < length xs = omega (arith, lt) in
    let other = (Before-other x.family x.client y.family y.client (first_before_all x xs i d (and_parts _ _ up).1 below)).0 in
    ap (λ (t : Bool). cond t (Some x.key) (key_of xs y.family y.client)) other ∙ key_at (Some x) xs i d (and_parts _ _ up).1 below

no_key : (rows : List FamilyRow) (family client : ℕ) (d : FamilyRow) → ((i : ℕ) → i < length rows → (eqb (get_or rows i d).family family && eqb (get_or rows i d).client client) ≡ false) → key_of rows family client ≡ None
no_key [] family client d h = refl
no_key (x ∷ xs) family client d h = ap (λ (t : Bool). cond t (Some x.key) (key_of xs family client)) (h 0 (omega arith)) ∙ no_key xs family client d (λ i lt. h (suc i) (omega (arith, lt)))

keys_read_at : (rows : List FamilyRow) (i : ℕ) (d : FamilyRow) → AllByRecursion (λ r. key_reads r.key ≡ true) rows → i < length rows → key_reads (get_or rows i d).key ≡ true
keys_read_at [] i d all lt = absurd (omega (arith, lt))
keys_read_at (x ∷ xs) zero d all lt = all.0
keys_read_at (x ∷ xs) (suc i) d all lt = keys_read_at xs i d all.1 (omega (arith, lt))

-- ---- where the rows lie

abbrev pub order_at : ℕ → ℕ → List ℕ → Ordering
order_at family client bytes = order_of (row_of bytes).family (row_of bytes).client family client

get_or-rows : (rows : List (List ℕ)) (i : ℕ) (d : List ℕ) → get_or (map row_of rows) i (row_of d) ≡ row_of (get_or rows i d)
get_or-rows [] i d = refl
get_or-rows (x ∷ xs) zero d = refl
get_or-rows (x ∷ xs) (suc i) d = get_or-rows xs i d

module _ (rows : List (List ℕ)) (listed : IsListed (map row_of rows)) (family client : ℕ) where
  orders_rise : IsNonDecreasingBy (λ y. ordering_index (order_at family client y)) rows
  orders_rise i j d le in_range = go (cases_lt i j)
    where
      go : ((i < j) ⊎ (j ≤ i)) → ordering_index (order_at family client (get_or rows i d)) ≤ ordering_index (order_at family client (get_or rows j d))
      go (inl lt) =
          let up = all_before None (map row_of rows) i j (row_of d) listed.ascends lt (subst (λ (n : ℕ). j < n) (sym (length-map rows row_of)) in_range) in
          let at = subst (λ (r : FamilyRow). RowBefore r (get_or (map row_of rows) j (row_of d))) (get_or-rows rows i d) up in
          let both = subst (λ (r : FamilyRow). RowBefore (row_of (get_or rows i d)) r) (get_or-rows rows j d) at in
          order_rises _ _ _ _ family client both
      go (inr ge) = subst (λ (k : ℕ). ordering_index (order_at family client (get_or rows i d)) ≤ ordering_index (order_at family client (get_or rows k d))) (let e : i ≡ j = omega arith in e) (omega arith)

  -- the row at which the order is equal has the key
  pub key_found : (at : ℕ) (d : List ℕ) → at < length rows → order_at family client (get_or rows at d) ≡ Equal → (key_of (map row_of rows) family client ≡ Some (drop 8 (get_or rows at d))) × (key_reads (drop 8 (get_or rows at d)) ≡ true)
  key_found at d in_range equal =
      let long : at < length (map row_of rows) = subst (λ (n : ℕ). at < n) (sym (length-map rows row_of)) in_range in
      let same = order_equal _ _ family client equal in
      let key = key_at None (map row_of rows) at (row_of d) listed.ascends long in
      let here = subst (λ (r : FamilyRow). key_of (map row_of rows) r.family r.client ≡ Some r.key) (get_or-rows rows at d) key in
      let reads = subst (λ (r : FamilyRow). key_reads r.key ≡ true) (get_or-rows rows at d) (keys_read_at (map row_of rows) at (row_of d) listed.keys_read long) in
      (sym (ap₂ (key_of (map row_of rows)) same.0 same.1) ∙ here, reads)

  -- where no row's order is, the list has no such row
  pub key_absent : (at : ℕ) → at ≤ length rows → (IsNonDecreasingBy (λ y. ordering_index (order_at family client y)) rows → IsPartitionPoint (λ y. order_at family client y ≡ Less) (λ y. order_at family client y ≡ Greater) rows at) → key_of (map row_of rows) family client ≡ None
  key_absent at in_range parted = no_key (map row_of rows) family client (row_of []) (λ i lt. each i (subst (λ (n : ℕ). i < n) (length-map rows row_of) lt))
    where
      each : (i : ℕ) → i < length rows → (eqb (get_or (map row_of rows) i (row_of [])).family family && eqb (get_or (map row_of rows) i (row_of [])).client client) ≡ false
      each i lt = rw (get_or-rows rows i []) (order_apart _ _ family client (go (cases_lt i at)))
        where
          go : ((i < at) ⊎ (at ≤ i)) → (order_at family client (get_or rows i []) ≡ Less) ⊎ (order_at family client (get_or rows i []) ≡ Greater)
          go (inl below) = inl ((parted orders_rise).0 i [] (omega arith) below)
          go (inr above) = inr ((parted orders_rise).1 i [] above lt)
