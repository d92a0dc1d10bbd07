-- Values by block: what is found in them, and that two lists with the same values are one.
use Rattle.std.proofs.Common.{◌≡◌, ℕ, zero, suc, ◌<◌, true, false, cond, eqb, List, [], ◌∷◌, take, Option, Some, None, refl, sym, ap, ◌∙◌, inl, inr, arith}
use Rattle.std.specs.List.{AllByRecursion}
use Rattle.std.specs.List.Sorted.{IsStrictlySortedBy}
use Rattle.std.specs.Map.{keys_of, lookup}
use Rattle.std.specs.Ordering.{nat_cmp, match_ordering, is_eq}
use Rattle.std.specs.Cmp.{nat_cmp_is}
use Rattle.std.specs.declared.cmp.Ordering.{Ordering}
use Rattle.std.specs.declared.cmp.Ordering.TheVariants.{Less, Equal, Greater}
use Rattle.std.specs.BTreeMap.{insert_entry, is_at}
use Rattle.std.proofs.lemmas.Cmp.{ranked}
use Rattle.std.proofs.lemmas.Bool.{cases_lt, cases_eq, eq-eqb, ne_eqb}
use Rattle.cp_closer.specs.Taken.{put_all}

abbrev pub Sorted : {X : Type 0} → List (ℕ × X) → Type 0
Sorted values = IsStrictlySortedBy nat_cmp (keys_of values)

abbrev pub at_block : {X : Type 0} → ℕ → List (ℕ × X) → Option X
at_block block values = lookup (is_at (nat_cmp block)) values

-- ---- the comparison of two blocks

pub cmp_less : (a b : ℕ) → a < b → nat_cmp a b ≡ Less
cmp_less a b lt = sym (nat_cmp_is a b Less lt)

pub cmp_equal : (a b : ℕ) → a ≡ b → nat_cmp a b ≡ Equal
cmp_equal a b same = sym (nat_cmp_is a b Equal same)

cmp_greater : (a b : ℕ) → b < a → nat_cmp a b ≡ Greater
cmp_greater a b lt = sym (nat_cmp_is a b Greater lt)

pub less_cmp : (a b : ℕ) → nat_cmp a b ≡ Less → a < b
less_cmp a b e = ranked a b Less (sym e)

pub at_self : (a : ℕ) → is_at (nat_cmp a) a ≡ true
at_self a = ap is_eq (cmp_equal a a refl)

pub not_at : (a b : ℕ) → (a ≡ b → ⊥) → is_at (nat_cmp a) b ≡ false
not_at a b ne = elim (cases_lt a b) [
  | inl lt ↦ ap is_eq (cmp_less a b lt)
  | inr le ↦ ap is_eq (cmp_greater a b (omega (arith, ne)))
]

-- ---- the order

pub above_each : (b : ℕ) (keys : List ℕ) (a : ℕ) → a < b → AllByRecursion (λ y. nat_cmp b y ≡ Less) keys → AllByRecursion (λ y. nat_cmp a y ≡ Less) keys
above_each b [] a lt all = tt
above_each b (y ∷ ys) a lt all =
    let more : b < y = less_cmp b y all.0 in
    (cmp_less a y (omega arith), above_each b ys a lt all.1)

insert_keys : {X : Type 0} (P : ℕ → Type 0) (values : List (ℕ × X)) (block : ℕ) (x : X) → AllByRecursion P (keys_of values) → P block → AllByRecursion P (keys_of (insert_entry nat_cmp values block x))
insert_keys P [] block x all p = (p, tt)
insert_keys P (e ∷ es) block x all p = pick (nat_cmp block e.0) (insert_keys P es block x all.1 p)
  where
    pick : (o : Ordering) → AllByRecursion P (keys_of (insert_entry nat_cmp es block x)) → AllByRecursion P (keys_of (match_ordering o ((block, x) ∷ (e ∷ es)) ((e.0, x) ∷ es) (e ∷ insert_entry nat_cmp es block x)))
    pick Less h = (p, all)
    pick Equal h = all
    pick Greater h = (all.0, h)

pub insert_sorted : {X : Type 0} (values : List (ℕ × X)) (block : ℕ) (x : X) → Sorted values → Sorted (insert_entry nat_cmp values block x)
unfolding IsStrictlySortedBy
insert_sorted [] block x up = (tt, tt)
insert_sorted (e ∷ es) block x up = pick (nat_cmp block e.0) refl (insert_sorted es block x up.1)
  where
    pick : (o : Ordering) → o ≡ nat_cmp block e.0 → Sorted (insert_entry nat_cmp es block x) → Sorted (match_ordering o ((block, x) ∷ (e ∷ es)) ((e.0, x) ∷ es) (e ∷ insert_entry nat_cmp es block x))
    pick Less is h = ((sym is, above_each e.0 (keys_of es) block (ranked block e.0 Less is) up.0), up)
    pick Equal is h = up
    pick Greater is h = (insert_keys (λ y. nat_cmp e.0 y ≡ Less) es block x up.0 (cmp_less e.0 block (ranked block e.0 Greater is)), h)

pub put_all_sorted : {X : Type 0} (values xs : List (ℕ × X)) → Sorted values → Sorted (put_all values xs)
put_all_sorted values [] up = up
put_all_sorted values (x ∷ xs) up = put_all_sorted (insert_entry nat_cmp values x.0 x.1) xs (insert_sorted values x.0 x.1 up)

-- ---- what is found

pub none_below : {X : Type 0} (values : List (ℕ × X)) (block : ℕ) → AllByRecursion (λ y. nat_cmp block y ≡ Less) (keys_of values) → at_block block values ≡ None
none_below [] block all = refl
none_below (e ∷ es) block all = rw (ap is_eq all.0) (none_below es block all.1)

pub insert_here : {X : Type 0} (values : List (ℕ × X)) (block : ℕ) (x : X) → at_block block (insert_entry nat_cmp values block x) ≡ Some x
insert_here [] block x = rw (at_self block) refl
insert_here (e ∷ es) block x = pick (nat_cmp block e.0) refl (insert_here es block x)
  where
    pick : (o : Ordering) → o ≡ nat_cmp block e.0 → at_block block (insert_entry nat_cmp es block x) ≡ Some x → at_block block (match_ordering o ((block, x) ∷ (e ∷ es)) ((e.0, x) ∷ es) (e ∷ insert_entry nat_cmp es block x)) ≡ Some x
    pick Less is h = rw (at_self block) refl
    pick Equal is h = rw (ap is_eq (sym is)) refl
    pick Greater is h = rw (ap is_eq (sym is)) h

pub insert_elsewhere : {X : Type 0} (values : List (ℕ × X)) (block : ℕ) (x : X) (other : ℕ) → (other ≡ block → ⊥) → at_block other (insert_entry nat_cmp values block x) ≡ at_block other values
insert_elsewhere [] block x other ne = rw (not_at other block ne) refl
insert_elsewhere (e ∷ es) block x other ne = pick (nat_cmp block e.0) refl (insert_elsewhere es block x other ne)
  where
    pick : (o : Ordering) → o ≡ nat_cmp block e.0 → at_block other (insert_entry nat_cmp es block x) ≡ at_block other es → at_block other (match_ordering o ((block, x) ∷ (e ∷ es)) ((e.0, x) ∷ es) (e ∷ insert_entry nat_cmp es block x)) ≡ at_block other (e ∷ es)
    pick Less is h = rw (not_at other block ne) refl
    pick Equal is h =
        let same : block ≡ e.0 = ranked block e.0 Equal is in
        rw (not_at other e.0 (λ k. ne (k ∙ sym same))) refl
    pick Greater is h = ap (cond (is_at (nat_cmp other) e.0) (Some e.1)) h

-- ---- one list for the same values

skip : {X : Type 0} (e : ℕ × X) (es : List (ℕ × X)) (block : ℕ) → (block ≡ e.0 → ⊥) → at_block block (e ∷ es) ≡ at_block block es
skip e es block ne = rw (not_at block e.0 ne) refl

hit : {X : Type 0} (e : ℕ × X) (es : List (ℕ × X)) → at_block e.0 (e ∷ es) ≡ Some e.1
hit e es = rw (at_self e.0) refl

-- below the first of a sorted list there is nothing
under : {X : Type 0} (e : ℕ × X) (es : List (ℕ × X)) (block : ℕ) → Sorted (e ∷ es) → block < e.0 → at_block block (e ∷ es) ≡ None
unfolding IsStrictlySortedBy
under e es block up lt = none_below (e ∷ es) block (cmp_less block e.0 lt, above_each e.0 (keys_of es) block lt up.0)

behind : {X : Type 0} (e : ℕ × X) (es : List (ℕ × X)) → Sorted (e ∷ es) → at_block e.0 es ≡ None
unfolding IsStrictlySortedBy
behind e es up = none_below es e.0 up.0

tail_sorted : {X : Type 0} (e : ℕ × X) (es : List (ℕ × X)) → Sorted (e ∷ es) → Sorted es
unfolding IsStrictlySortedBy
tail_sorted e es up = up.1

differ : {X : Type 0} (x : ℕ × X) (xs : List (ℕ × X)) (y : ℕ × X) (ys : List (ℕ × X)) → Sorted (x ∷ xs) → Sorted (y ∷ ys) → ((block : ℕ) → at_block block (x ∷ xs) ≡ at_block block (y ∷ ys)) → (x.0 ≡ y.0 → ⊥) → ⊥
differ x xs y ys up vp same ne = elim (cases_lt x.0 y.0) [
  | inl lt ↦ (let e = sym (hit x xs) ∙ same x.0 ∙ under y ys x.0 vp lt in cc)
  | inr le ↦ (let e = sym (hit y ys) ∙ sym (same y.0) ∙ under x xs y.0 up (omega (arith, ne)) in cc)
]

tails : {X : Type 0} (x : ℕ × X) (xs : List (ℕ × X)) (y : ℕ × X) (ys : List (ℕ × X)) → Sorted (x ∷ xs) → Sorted (y ∷ ys) → ((block : ℕ) → at_block block (x ∷ xs) ≡ at_block block (y ∷ ys)) → x.0 ≡ y.0 → (block : ℕ) → at_block block xs ≡ at_block block ys
tails x xs y ys up vp same e block = elim (cases_eq block x.0) [
  | inl k ↦ ap (λ (b : ℕ). at_block b xs) k ∙ behind x xs up ∙ sym (ap (λ (b : ℕ). at_block b ys) (k ∙ e) ∙ behind y ys vp)
  | inr ne ↦ sym (skip x xs block ne) ∙ same block ∙ skip y ys block (λ k. ne (k ∙ sym e))
]

joined : {X : Type 0} (x : ℕ × X) (xs : List (ℕ × X)) (y : ℕ × X) (ys : List (ℕ × X)) → ((block : ℕ) → at_block block (x ∷ xs) ≡ at_block block (y ∷ ys)) → x.0 ≡ y.0 → xs ≡ ys → x ∷ xs ≡ y ∷ ys
joined {X = X} x xs y ys same e rest =
    let found : Some x.1 ≡ Some y.1 = sym (hit x xs) ∙ same x.0 ∙ ap (λ (k : ℕ). at_block k (y ∷ ys)) e ∙ hit y ys in
    let value : x.1 ≡ y.1 = cc in
    let head : x ≡ y = ap (λ (k : ℕ). (k, x.1)) e ∙ ap (λ (v : X). (y.0, v)) value in
    ap (λ (z : ℕ × X). z ∷ xs) head ∙ ap (λ (zs : List (ℕ × X)). y ∷ zs) rest

pub same_values : {X : Type 0} (xs ys : List (ℕ × X)) → Sorted xs → Sorted ys → ((block : ℕ) → at_block block xs ≡ at_block block ys) → xs ≡ ys
same_values [] [] up vp same = refl
same_values [] (y ∷ ys) up vp same = absurd (let e = same y.0 ∙ hit y ys in cc)
same_values (x ∷ xs) [] up vp same = absurd (let e = sym (hit x xs) ∙ same x.0 in cc)
same_values (x ∷ xs) (y ∷ ys) up vp same = elim (cases_eq x.0 y.0) [
  | inl e ↦ joined x xs y ys same e (same_values xs ys (tail_sorted x xs up) (tail_sorted y ys vp) (tails x xs y ys up vp same e))
  | inr ne ↦ absurd (differ x xs y ys up vp same ne)
]

-- ---- the same values once more

unfoldable pub or_else : {X : Type 0} → Option X → Option X → Option X
or_else (Some x) other = Some x
or_else None other = other

-- the last of these values at a block
unfoldable pub last_at : {X : Type 0} → ℕ → List (ℕ × X) → Option X
last_at block [] = None
last_at block (x ∷ xs) = or_else (last_at block xs) (cond (eqb x.0 block) (Some x.1) None)

pub else_none : {X : Type 0} (o : Option X) → or_else o None ≡ o
unfolding or_else
else_none (Some x) = refl
else_none None = refl

pub or_else_assoc : {X : Type 0} (a b c : Option X) → or_else (or_else a b) c ≡ or_else a (or_else b c)
unfolding or_else
or_else_assoc (Some x) b c = refl
or_else_assoc None b c = refl

insert_at : {X : Type 0} (values : List (ℕ × X)) (x : ℕ × X) (block : ℕ) → at_block block (insert_entry nat_cmp values x.0 x.1) ≡ or_else (cond (eqb x.0 block) (Some x.1) None) (at_block block values)
unfolding or_else
insert_at {X = X} values x block = elim (cases_eq x.0 block) [
  | inl same ↦ rw (eq-eqb x.0 block same) (ap (λ (b : ℕ). at_block b (insert_entry nat_cmp values x.0 x.1)) (sym same) ∙ insert_here values x.0 x.1)
  | inr ne ↦ rw (ne_eqb x.0 block ne) (insert_elsewhere values x.0 x.1 block (λ e. ne (sym e)))
]

pub put_all_at : {X : Type 0} (values xs : List (ℕ × X)) (block : ℕ) → at_block block (put_all values xs) ≡ or_else (last_at block xs) (at_block block values)
unfolding or_else last_at
put_all_at values [] block = refl
put_all_at values (x ∷ xs) block =
    put_all_at (insert_entry nat_cmp values x.0 x.1) xs block
    ∙ ap (or_else (last_at block xs)) (insert_at values x block)
    ∙ sym (or_else_assoc (last_at block xs) (cond (eqb x.0 block) (Some x.1) None) (at_block block values))

none_else : {X : Type 0} (a b : Option X) → or_else a b ≡ None → (a ≡ None) × (b ≡ None)
unfolding or_else
none_else (Some x) b e = absurd (cc)
none_else None b e = (refl, e)

covered : {X : Type 0} (block : ℕ) (n : ℕ) (xs : List (ℕ × X)) → last_at block xs ≡ None → last_at block (take n xs) ≡ None
unfolding last_at or_else
covered block zero xs e = refl
covered block (suc n) [] e = refl
covered block (suc n) (x ∷ xs) e =
    let h = none_else (last_at block xs) (cond (eqb x.0 block) (Some x.1) None) e in
    ap (λ o. or_else o (cond (eqb x.0 block) (Some x.1) None)) (covered block n xs h.0) ∙ h.1

pub put_again : {X : Type 0} (values xs : List (ℕ × X)) (n : ℕ) → Sorted values → put_all (put_all values (take n xs)) xs ≡ put_all values xs
unfolding or_else
put_again {X = X} values xs n up = same_values _ _ (put_all_sorted _ xs (put_all_sorted values (take n xs) up)) (put_all_sorted values xs up) each
  where
    each : (block : ℕ) → at_block block (put_all (put_all values (take n xs)) xs) ≡ at_block block (put_all values xs)
    each block =
        put_all_at (put_all values (take n xs)) xs block
        ∙ ap (or_else (last_at block xs)) (put_all_at values (take n xs) block)
        ∙ go (last_at block xs) refl
        ∙ sym (put_all_at values xs block)
      where
        go : (o : Option X) → o ≡ last_at block xs → or_else o (or_else (last_at block (take n xs)) (at_block block values)) ≡ or_else o (at_block block values)
        go (Some x) is = refl
        go None is = ap (λ (o : Option X). or_else o (at_block block values)) (covered block n xs (sym is))

-- each of a sorted list's values is found at its block
pub found_each : {X : Type 0} (values : List (ℕ × X)) → Sorted values → AllByRecursion (λ e. at_block e.0 values ≡ Some e.1) values
unfolding IsStrictlySortedBy
found_each [] up = tt
found_each {X = X} (e ∷ es) up = (hit e es, later es up.0 (found_each es up.1))
  where
    later : (xs : List (ℕ × X)) → AllByRecursion (λ y. nat_cmp e.0 y ≡ Less) (keys_of xs) → AllByRecursion (λ (x : ℕ × X). at_block x.0 es ≡ Some x.1) xs → AllByRecursion (λ (x : ℕ × X). at_block x.0 (e ∷ es) ≡ Some x.1) xs
    later [] above all = tt
    later (x ∷ xs) above all =
        let lt : e.0 < x.0 = less_cmp e.0 x.0 above.0 in
        (skip e es x.0 (λ same. omega (arith, lt, same)) ∙ all.0, later xs above.1 all.1)
