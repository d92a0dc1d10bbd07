-- What a bisection finds among rows that ascend by block.
use Rattle.std.proofs.Common.{◌≡◌, ℕ, zero, suc, ◌<◌, ◌≤◌, ◌⊎◌, inl, inr, Bool, true, false, cond, eqb, ltb, List, [], ◌∷◌, length, get_or, Some, None, refl, sym, ap, subst, ◌∙◌, arith}
use Rattle.std.specs.Prelude.{map}
use Rattle.std.specs.List.Sorted.{IsNonDecreasingBy, IsPartitionPoint}
use Rattle.std.specs.declared.cmp.Ordering.{Ordering}
use Rattle.std.specs.declared.cmp.Ordering.TheVariants.{Less, Equal, Greater}
use Rattle.std.specs.Ordering.{nat_cmp, ordering_index}
use Rattle.std.proofs.lemmas.Bool.{and_parts, cases_lt}
use Rattle.std.proofs.lemmas.Bool.Decides.{nat_tests}
use Rattle.std.proofs.lemmas.List.{length-map}
use Rattle.cp_tips.specs.Tip.{fresh}
use Rattle.cp_tips.specs.Table.{TableRow, all_above, ascends, row_in, row, tip_or_fresh}
use Rattle.cp_tips.specs.Rows.{row_of}

-- ---- numbers

other : (a b : ℕ) → a < b → eqb a b ≡ false
other a b lt = grind (arith, nat_tests)

same : (a : ℕ) → eqb a a ≡ true
same a = grind (arith, nat_tests)

lt_from : (a b : ℕ) → ltb a b ≡ true → a < b
lt_from a b h = grind (arith, nat_tests)

order_equal : (a b : ℕ) → nat_cmp a b ≡ Equal → a ≡ b
order_equal a b h = grind (arith, nat_tests)

order_apart : (a b : ℕ) → (nat_cmp a b ≡ Less) ⊎ (nat_cmp a b ≡ Greater) → eqb a b ≡ false
order_apart a b (inl h) = grind (arith, nat_tests)
order_apart a b (inr h) = grind (arith, nat_tests)

order_rises : (a b k : ℕ) → a < b → ordering_index (nat_cmp a k) ≤ ordering_index (nat_cmp b k)
order_rises a b k lt = grind (arith, nat_tests)

-- ---- rows that ascend

above_at : (block : ℕ) (rows : List TableRow) (i : ℕ) (d : TableRow) → all_above block rows ≡ true → i < length rows → block < (get_or rows i d).block
above_at block [] i d all lt = absurd (omega (arith, lt))
above_at block (r ∷ rs) zero d all lt = lt_from block r.block (and_parts _ _ all).0
above_at block (r ∷ rs) (suc i) d all lt = above_at block rs i d (and_parts _ _ all).1 (omega (arith, lt))

below_all : (rows : List TableRow) (i j : ℕ) (d : TableRow) → ascends rows ≡ true → i < j → j < length rows → (get_or rows i d).block < (get_or rows j d).block
unfolding ascends
below_all [] i j d up lt in_range = absurd (omega (arith, in_range))
below_all (r ∷ rs) i zero d up lt in_range = absurd (omega (arith, lt))
below_all (r ∷ rs) zero (suc j) d up lt in_range = above_at r.block rs j d (and_parts _ _ up).0 (omega (arith, in_range))
below_all (r ∷ rs) (suc i) (suc j) d up lt in_range = below_all rs i j d (and_parts _ _ up).1 (omega (arith, lt)) (omega (arith, in_range))

-- the row at a place is its block's
pub row_at : (rows : List TableRow) (i : ℕ) (d : TableRow) → ascends rows ≡ true → i < length rows → row_in rows (get_or rows i d).block ≡ Some (get_or rows i d).tip
unfolding ascends
row_at [] i d up lt = absurd (omega (arith, lt))
row_at (r ∷ rs) zero d up lt = rw (same r.block) refl
row_at (r ∷ rs) (suc i) d up lt =
    let below : i < length rs = omega (arith, lt) in
    let apart = other r.block (get_or rs i d).block (above_at r.block rs i d (and_parts _ _ up).0 below) in
    ap (λ (t : Bool). cond t (Some r.tip) (row_in rs (get_or rs i d).block)) apart ∙ row_at rs i d (and_parts _ _ up).1 below

no_row : (rows : List TableRow) (block : ℕ) (d : TableRow) → ((i : ℕ) → i < length rows → eqb (get_or rows i d).block block ≡ false) → row_in rows block ≡ None
no_row [] block d h = refl
no_row (r ∷ rs) block d h = ap (λ (t : Bool). cond t (Some r.tip) (row_in rs block)) (h 0 (omega arith)) ∙ no_row rs block d (λ i lt. h (suc i) (omega (arith, lt)))

-- no row of a block that all rows are above
pub none_below : (rows : List TableRow) (block : ℕ) (d : TableRow) → all_above block rows ≡ true → row_in rows block ≡ None
none_below [] block d all = refl
none_below (r ∷ rs) block d all = ap (λ (t : Bool). cond t (Some r.tip) (row_in rs block)) (apart r.block block (lt_from block r.block (and_parts _ _ all).0)) ∙ none_below rs block d (and_parts _ _ all).1
  where
    apart : (a b : ℕ) → b < a → eqb a b ≡ false
    apart a b lt = grind (arith, nat_tests)

-- ---- where the rows lie

abbrev pub order_at : ℕ → List ℕ → Ordering
order_at block bytes = nat_cmp (row_of bytes).block block

get_or-rows : (rows : List (List ℕ)) (i : ℕ) (d : List ℕ) → get_or (map row_of rows) i (row_of d) ≡ row_of (get_or rows i d)
get_or-rows [] i d = refl
get_or-rows (x ∷ xs) zero d = refl
get_or-rows (x ∷ xs) (suc i) d = get_or-rows xs i d

module _ (rows : List (List ℕ)) (up : ascends (map row_of rows) ≡ true) (block : ℕ) where
  orders_rise : IsNonDecreasingBy (λ y. ordering_index (order_at block y)) rows
  orders_rise i j d le in_range = go (cases_lt i j)
    where
      go : ((i < j) ⊎ (j ≤ i)) → ordering_index (order_at block (get_or rows i d)) ≤ ordering_index (order_at block (get_or rows j d))
      go (inl lt) =
          let below = below_all (map row_of rows) i j (row_of d) up lt (subst (λ (n : ℕ). j < n) (sym (length-map rows row_of)) in_range) in
          let one = subst (λ (r : TableRow). r.block < (get_or (map row_of rows) j (row_of d)).block) (get_or-rows rows i d) below in
          let both = subst (λ (r : TableRow). (row_of (get_or rows i d)).block < r.block) (get_or-rows rows j d) one in
          order_rises _ _ block both
      go (inr ge) = subst (λ (k : ℕ). ordering_index (order_at block (get_or rows i d)) ≤ ordering_index (order_at block (get_or rows k d))) (let e : i ≡ j = omega arith in e) (omega arith)

  -- the row at which the order is equal is the block's
  pub row_found : (at : ℕ) (d : List ℕ) → at < length rows → order_at block (get_or rows at d) ≡ Equal → row (map row_of rows) block ≡ (row_of (get_or rows at d)).tip
  row_found at d in_range equal =
      let long : at < length (map row_of rows) = subst (λ (n : ℕ). at < n) (sym (length-map rows row_of)) in_range in
      let here = subst (λ (r : TableRow). row_in (map row_of rows) r.block ≡ Some r.tip) (get_or-rows rows at d) (row_at (map row_of rows) at (row_of d) up long) in
      ap (tip_or_fresh block) (ap (row_in (map row_of rows)) (sym (order_equal _ block equal)) ∙ here)

  -- where no row's order is, the block has none
  pub row_absent : (at : ℕ) → at ≤ length rows → (IsNonDecreasingBy (λ y. ordering_index (order_at block y)) rows → IsPartitionPoint (λ y. order_at block y ≡ Less) (λ y. order_at block y ≡ Greater) rows at) → row (map row_of rows) block ≡ fresh block
  row_absent at in_range parted = ap (tip_or_fresh block) (no_row (map row_of rows) block (row_of []) (λ i lt. each i (subst (λ (n : ℕ). i < n) (length-map rows row_of) lt)))
    where
      each : (i : ℕ) → i < length rows → eqb (get_or (map row_of rows) i (row_of [])).block block ≡ false
      each i lt = rw (get_or-rows rows i []) (order_apart _ block (go (cases_lt i at)))
        where
          go : ((i < at) ⊎ (at ≤ i)) → (order_at block (get_or rows i []) ≡ Less) ⊎ (order_at block (get_or rows i []) ≡ Greater)
          go (inl below) = inl ((parted orders_rise).0 i [] (omega arith) below)
          go (inr above) = inr ((parted orders_rise).1 i [] above lt)
