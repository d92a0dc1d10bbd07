-- What a bisection finds among parts that ascend by block.
use Rattle.std.proofs.Common.{◌≡◌, ℕ, zero, suc, ◌<◌, ◌≤◌, ◌⊎◌, inl, inr, Bool, true, false, cond, eqb, List, [], ◌∷◌, length, get_or, Option, Some, None, refl, sym, ap, subst, ◌∙◌, arith}
use Rattle.std.specs.Prelude.{map}
use Rattle.std.specs.List.Sorted.{IsNonDecreasingBy, IsPartitionPoint}
use Rattle.std.specs.declared.cmp.Ordering.{Ordering}
use Rattle.std.specs.declared.cmp.Ordering.TheVariants.{Less, Equal, Greater}
use Rattle.std.specs.Ordering.{nat_cmp, ordering_index}
use Rattle.std.proofs.lemmas.Bool.{and_parts, cases_lt, ltb-true}
use Rattle.std.proofs.lemmas.Bool.Decides.{nat_tests}
use Rattle.std.proofs.lemmas.List.{length-map, get_or-map}
use Rattle.cp_chain.specs.Log.{LogPart, comes_behind, parts_ascend}
use Rattle.cp_evidence.specs.Material.{part_of}
use Rattle.cp_audit.specs.declared.part.Part.{Part}
use Rattle.cp_audit.specs.Parts.{part_view}

-- ---- numbers

other : (a b : ℕ) → a < b → eqb a b ≡ false
other a b lt = grind (arith, nat_tests)

same : (a : ℕ) → eqb a a ≡ true
same a = grind (arith, nat_tests)

order_equal : (a b : ℕ) → nat_cmp a b ≡ Equal → a ≡ b
order_equal a b h = grind (arith, nat_tests)

order_apart : (a b : ℕ) → (nat_cmp a b ≡ Less) ⊎ (nat_cmp a b ≡ Greater) → eqb a b ≡ false
order_apart a b (inl h) = grind (arith, nat_tests)
order_apart a b (inr h) = grind (arith, nat_tests)

order_rises : (a b k : ℕ) → a < b → ordering_index (nat_cmp a k) ≤ ordering_index (nat_cmp b k)
order_rises a b k lt = grind (arith, nat_tests)

-- ---- parts that ascend

above_at : (block : ℕ) (parts : List LogPart) (i : ℕ) (d : LogPart) → parts_ascend (Some block) parts ≡ true → i < length parts → block < (get_or parts i d).block
above_at block [] i d up lt = absurd (omega (arith, lt))
above_at block (p ∷ ps) zero d up lt = ltb-true _ _ (and_parts (comes_behind (Some block) p.block) (parts_ascend (Some p.block) ps) up).0
above_at block (p ∷ ps) (suc i) d up lt =
    let w = and_parts (comes_behind (Some block) p.block) (parts_ascend (Some p.block) ps) up in
    let first : block < p.block = ltb-true _ _ w.0 in
    let next : p.block < (get_or ps i d).block = above_at p.block ps i d w.1 (omega (arith, lt)) in
    omega (arith, first, next)

pub below_all : (before : Option ℕ) (parts : List LogPart) (i j : ℕ) (d : LogPart) → parts_ascend before parts ≡ true → i < j → j < length parts → (get_or parts i d).block < (get_or parts j d).block
below_all before [] i j d up lt in_range = absurd (omega (arith, in_range))
below_all before (p ∷ ps) i zero d up lt in_range = absurd (omega (arith, lt))
below_all before (p ∷ ps) zero (suc j) d up lt in_range = above_at p.block ps j d (and_parts (comes_behind before p.block) (parts_ascend (Some p.block) ps) up).1 (omega (arith, in_range))
below_all before (p ∷ ps) (suc i) (suc j) d up lt in_range = below_all (Some p.block) ps i j d (and_parts (comes_behind before p.block) (parts_ascend (Some p.block) ps) up).1 (omega (arith, lt)) (omega (arith, in_range))

pub part_there : (before : Option ℕ) (parts : List LogPart) (i : ℕ) (d : LogPart) → parts_ascend before parts ≡ true → i < length parts → part_of parts (get_or parts i d).block ≡ Some (get_or parts i d).texts
part_there before [] i d up lt = absurd (omega (arith, lt))
part_there before (p ∷ ps) zero d up lt = rw (same p.block) refl
part_there before (p ∷ ps) (suc i) d up lt =
    let w = and_parts (comes_behind before p.block) (parts_ascend (Some p.block) ps) up in
    let below : i < length ps = omega (arith, lt) in
    let apart = other p.block (get_or ps i d).block (above_at p.block ps i d w.1 below) in
    ap (λ (t : Bool). cond t (Some p.texts) (part_of ps (get_or ps i d).block)) apart ∙ part_there (Some p.block) ps i d w.1 below

no_part : (parts : List LogPart) (block : ℕ) (d : LogPart) → ((i : ℕ) → i < length parts → eqb (get_or parts i d).block block ≡ false) → part_of parts block ≡ None
no_part [] block d h = refl
no_part (p ∷ ps) block d h = ap (λ (t : Bool). cond t (Some p.texts) (part_of ps block)) (h 0 (omega arith)) ∙ no_part ps block d (λ i lt. h (suc i) (omega (arith, lt)))

-- ---- as the bisection compares

abbrev pub order_at : ℕ → Part → Ordering
order_at block part = nat_cmp (part_view part).block block

module _ (parts : List Part) (up : parts_ascend None (map part_view parts) ≡ true) (block : ℕ) where
  seen : (i : ℕ) (d : Part) → i < length parts → get_or (map part_view parts) i (part_view d) ≡ part_view (get_or parts i d)
  seen i d lt = get_or-map part_view parts i d (part_view d) lt

  orders_rise : IsNonDecreasingBy (λ y. ordering_index (order_at block y)) parts
  orders_rise i j d le in_range = go (cases_lt i j)
    where
      go : ((i < j) ⊎ (j ≤ i)) → ordering_index (order_at block (get_or parts i d)) ≤ ordering_index (order_at block (get_or parts j d))
      go (inl lt) =
          let below = below_all None (map part_view parts) i j (part_view d) up lt (subst (λ (n : ℕ). j < n) (sym (length-map parts part_view)) in_range) in
          let one = subst (λ (r : LogPart). r.block < (get_or (map part_view parts) j (part_view d)).block) (seen i d (omega (arith, lt, in_range))) below in
          let both = subst (λ (r : LogPart). (part_view (get_or parts i d)).block < r.block) (seen j d in_range) one in
          order_rises _ _ block both
      go (inr ge) = subst (λ (k : ℕ). ordering_index (order_at block (get_or parts i d)) ≤ ordering_index (order_at block (get_or parts k d))) (let e : i ≡ j = omega arith in e) (omega arith)

  pub part_found_at : (at : ℕ) (d : Part) → at < length parts → order_at block (get_or parts at d) ≡ Equal → (part_of (map part_view parts) block ≡ Some (get_or parts at d).segment) × ((get_or parts at d).frame.block ≡ block)
  part_found_at at d in_range equal =
      let long : at < length (map part_view parts) = subst (λ (n : ℕ). at < n) (sym (length-map parts part_view)) in_range in
      let here = subst (λ (r : LogPart). part_of (map part_view parts) r.block ≡ Some r.texts) (seen at d in_range) (part_there None (map part_view parts) at (part_view d) up long) in
      let is = order_equal _ block equal in
      (ap (part_of (map part_view parts)) (sym is) ∙ here, is)

  pub part_absent : (d : Part) (at : ℕ) → at ≤ length parts → (IsNonDecreasingBy (λ y. ordering_index (order_at block y)) parts → IsPartitionPoint (λ y. order_at block y ≡ Less) (λ y. order_at block y ≡ Greater) parts at) → part_of (map part_view parts) block ≡ None
  part_absent d at in_range parted = no_part (map part_view parts) block (part_view d) (λ i lt. each i (subst (λ (n : ℕ). i < n) (length-map parts part_view) lt))
    where
      each : (i : ℕ) → i < length parts → eqb (get_or (map part_view parts) i (part_view d)).block block ≡ false
      each i lt = rw (seen i d lt) (order_apart _ block (go (cases_lt i at)))
        where
          go : ((i < at) ⊎ (at ≤ i)) → (order_at block (get_or parts i d) ≡ Less) ⊎ (order_at block (get_or parts i d) ≡ Greater)
          go (inl below) = inl ((parted orders_rise).0 i d (omega arith) below)
          go (inr above) = inr ((parted orders_rise).1 i d above lt)

pub none_there : (parts : List Part) (up : parts_ascend None (map part_view parts) ≡ true) (block : ℕ) (at : ℕ) → at ≤ length parts → (IsNonDecreasingBy (λ y. ordering_index (order_at block y)) parts → IsPartitionPoint (λ y. order_at block y ≡ Less) (λ y. order_at block y ≡ Greater) parts at) → part_of (map part_view parts) block ≡ None
none_there [] up block at in_range parted = refl
none_there (p ∷ ps) up block at in_range parted = part_absent (p ∷ ps) up block p at in_range parted
