-- Two lists of values by block that ascend and have the same values are one.
use Rattle.std.proofs.Common.{◌≡◌, ℕ, ◌<◌, Bool, true, false, cond, eqb, List, [], ◌∷◌, map, Option, Some, None, refl, sym, ap, ◌∙◌, inl, inr, arith}
use Rattle.std.specs.List.{AllByRecursion}
use Rattle.std.specs.List.Sorted.{IsStrictlySortedBy}
use Rattle.std.specs.Map.{keys_of, values_of, lookup}
use Rattle.std.specs.Option.{option_map}
use Rattle.std.specs.Ordering.{nat_cmp, is_eq}
use Rattle.std.specs.Cmp.{nat_cmp_is}
use Rattle.std.specs.declared.cmp.Ordering.TheVariants.{Less, Equal, Greater}
use Rattle.std.specs.BTreeMap.{is_at}
use Rattle.std.proofs.lemmas.Cmp.{ranked}
use Rattle.std.proofs.lemmas.Bool.{cases_lt, cases_eq, eq-eqb, ne_eqb}
use Rattle.cp_core.proofs.TableLemmas.{Above, Rising, member}

abbrev pub Sorted : {X : Type 0} → List (ℕ × X) → Type 0
Sorted values = IsStrictlySortedBy nat_cmp (keys_of values)

abbrev pub at_block : {X : Type 0} → ℕ → List (ℕ × X) → Option X
at_block block values = lookup (is_at (nat_cmp block)) values

-- ---- the comparison of two blocks

cmp_less : (a b : ℕ) → a < b → nat_cmp a b ≡ Less
cmp_less a b lt = sym (nat_cmp_is a b Less lt)

cmp_equal : (a b : ℕ) → a ≡ b → nat_cmp a b ≡ Equal
cmp_equal a b same = sym (nat_cmp_is a b Equal same)

cmp_greater : (a b : ℕ) → b < a → nat_cmp a b ≡ Greater
cmp_greater a b lt = sym (nat_cmp_is a b Greater lt)

less_cmp : (a b : ℕ) → nat_cmp a b ≡ Less → a < b
less_cmp a b e = ranked a b Less (sym e)

at_self : (a : ℕ) → is_at (nat_cmp a) a ≡ true
at_self a = ap is_eq (cmp_equal a a refl)

not_at : (a b : ℕ) → (a ≡ b → ⊥) → is_at (nat_cmp a) b ≡ false
not_at a b ne = elim (cases_lt a b) [
  | inl lt ↦ ap is_eq (cmp_less a b lt)
  | inr le ↦ ap is_eq (cmp_greater a b (omega (arith, ne)))
]

pub at_eqb : (a b : ℕ) → is_at (nat_cmp a) b ≡ eqb b a
at_eqb a b = elim (cases_eq b a) [
  | inl same ↦ ap is_eq (cmp_equal a b (sym same)) ∙ sym (eq-eqb b a same)
  | inr ne ↦ not_at a b (λ e. ne (sym e)) ∙ sym (ne_eqb b a ne)
]

-- ---- what is found

above_each : (b : ℕ) (keys : List ℕ) (a : ℕ) → a < b → AllByRecursion (λ y. nat_cmp b y ≡ Less) keys → AllByRecursion (λ y. nat_cmp a y ≡ Less) keys
above_each b [] a lt all = tt
above_each b (y ∷ ys) a lt all =
    let more : b < y = less_cmp b y all.0 in
    (cmp_less a y (omega arith), above_each b ys a lt all.1)

none_below : {X : Type 0} (values : List (ℕ × X)) (block : ℕ) → AllByRecursion (λ y. nat_cmp block y ≡ Less) (keys_of values) → at_block block values ≡ None
none_below [] block all = refl
none_below (e ∷ es) block all = rw (ap is_eq all.0) (none_below es block all.1)

skip : {X : Type 0} (e : ℕ × X) (es : List (ℕ × X)) (block : ℕ) → (block ≡ e.0 → ⊥) → at_block block (e ∷ es) ≡ at_block block es
skip e es block ne = rw (not_at block e.0 ne) refl

hit : {X : Type 0} (e : ℕ × X) (es : List (ℕ × X)) → at_block e.0 (e ∷ es) ≡ Some e.1
hit e es = rw (at_self e.0) refl

under : {X : Type 0} (e : ℕ × X) (es : List (ℕ × X)) (block : ℕ) → Sorted (e ∷ es) → block < e.0 → at_block block (e ∷ es) ≡ None
unfolding IsStrictlySortedBy
under e es block up lt = none_below (e ∷ es) block (cmp_less block e.0 lt, above_each e.0 (keys_of es) block lt up.0)

behind : {X : Type 0} (e : ℕ × X) (es : List (ℕ × X)) → Sorted (e ∷ es) → at_block e.0 es ≡ None
unfolding IsStrictlySortedBy
behind e es up = none_below es e.0 up.0

tail_sorted : {X : Type 0} (e : ℕ × X) (es : List (ℕ × X)) → Sorted (e ∷ es) → Sorted es
unfolding IsStrictlySortedBy
tail_sorted e es up = up.1

-- ---- one list

differ : {X : Type 0} (x : ℕ × X) (xs : List (ℕ × X)) (y : ℕ × X) (ys : List (ℕ × X)) → Sorted (x ∷ xs) → Sorted (y ∷ ys) → ((block : ℕ) → at_block block (x ∷ xs) ≡ at_block block (y ∷ ys)) → (x.0 ≡ y.0 → ⊥) → ⊥
differ x xs y ys up vp same ne = elim (cases_lt x.0 y.0) [
  | inl lt ↦ (let e = sym (hit x xs) ∙ same x.0 ∙ under y ys x.0 vp lt in cc)
  | inr le ↦ (let e = sym (hit y ys) ∙ sym (same y.0) ∙ under x xs y.0 up (omega (arith, ne)) in cc)
]

tails : {X : Type 0} (x : ℕ × X) (xs : List (ℕ × X)) (y : ℕ × X) (ys : List (ℕ × X)) → Sorted (x ∷ xs) → Sorted (y ∷ ys) → ((block : ℕ) → at_block block (x ∷ xs) ≡ at_block block (y ∷ ys)) → x.0 ≡ y.0 → (block : ℕ) → at_block block xs ≡ at_block block ys
tails x xs y ys up vp same e block = elim (cases_eq block x.0) [
  | inl k ↦ ap (λ (b : ℕ). at_block b xs) k ∙ behind x xs up ∙ sym (ap (λ (b : ℕ). at_block b ys) (k ∙ e) ∙ behind y ys vp)
  | inr ne ↦ sym (skip x xs block ne) ∙ same block ∙ skip y ys block (λ k. ne (k ∙ sym e))
]

joined : {X : Type 0} (x : ℕ × X) (xs : List (ℕ × X)) (y : ℕ × X) (ys : List (ℕ × X)) → ((block : ℕ) → at_block block (x ∷ xs) ≡ at_block block (y ∷ ys)) → x.0 ≡ y.0 → xs ≡ ys → x ∷ xs ≡ y ∷ ys
joined {X = X} x xs y ys same e rest =
    let found : Some x.1 ≡ Some y.1 = sym (hit x xs) ∙ same x.0 ∙ ap (λ (k : ℕ). at_block k (y ∷ ys)) e ∙ hit y ys in
    let value : x.1 ≡ y.1 = cc in
    let head : x ≡ y = ap (λ (k : ℕ). (k, x.1)) e ∙ ap (λ (v : X). (y.0, v)) value in
    ap (λ (z : ℕ × X). z ∷ xs) head ∙ ap (λ (zs : List (ℕ × X)). y ∷ zs) rest

same_values : {X : Type 0} (xs ys : List (ℕ × X)) → Sorted xs → Sorted ys → ((block : ℕ) → at_block block xs ≡ at_block block ys) → xs ≡ ys
same_values [] [] up vp same = refl
same_values [] (y ∷ ys) up vp same = absurd (let e = same y.0 ∙ hit y ys in cc)
same_values (x ∷ xs) [] up vp same = absurd (let e = sym (hit x xs) ∙ same x.0 in cc)
same_values (x ∷ xs) (y ∷ ys) up vp same = elim (cases_eq x.0 y.0) [
  | inl e ↦ joined x xs y ys same e (same_values xs ys (tail_sorted x xs up) (tail_sorted y ys vp) (tails x xs y ys up vp same e))
  | inr ne ↦ absurd (differ x xs y ys up vp same ne)
]

-- ---- the values of some blocks

module _ {X Y : Type 0} (f : X → Y) where
  seen : List (ℕ × X) → List (ℕ × Y)
  seen es = map (λ e. (e.0, f e.1)) es

  seen_keys : (es : List (ℕ × X)) → keys_of (seen es) ≡ keys_of es
  unfolding seen
  seen_keys [] = refl
  seen_keys (e ∷ es) = ap (λ ks. e.0 ∷ ks) (seen_keys es)

  seen_values : (es : List (ℕ × X)) → values_of (seen es) ≡ map f (values_of es)
  unfolding seen
  seen_values [] = refl
  seen_values (e ∷ es) = ap (λ vs. f e.1 ∷ vs) (seen_values es)

  seen_at : (es : List (ℕ × X)) (block : ℕ) → at_block block (seen es) ≡ option_map f (at_block block es)
  unfolding seen
  seen_at [] block = refl
  seen_at (e ∷ es) block = go (is_at (nat_cmp block) e.0) (seen_at es block)
    where
      go : (t : Bool) → at_block block (seen es) ≡ option_map f (at_block block es) → cond t (Some (f e.1)) (at_block block (seen es)) ≡ option_map f (cond t (Some e.1) (at_block block es))
      go true h = refl
      go false h = h

module _ {Y : Type 0} (f : ℕ → Y) where
  of : List ℕ → List (ℕ × Y)
  of bs = map (λ b. (b, f b)) bs

  of_values : (bs : List ℕ) → values_of (of bs) ≡ map f bs
  unfolding of
  of_values [] = refl
  of_values (b ∷ bs) = ap (λ vs. f b ∷ vs) (of_values bs)

  of_above : (b : ℕ) (bs : List ℕ) → Above b bs → AllByRecursion (λ y. nat_cmp b y ≡ Less) (keys_of (of bs))
  unfolding of
  of_above b [] h = tt
  of_above b (c ∷ cs) h = (cmp_less b c h.0, of_above b cs h.1)

  of_sorted : (bs : List ℕ) → Rising bs → Sorted (of bs)
  unfolding of IsStrictlySortedBy
  of_sorted [] h = tt
  of_sorted (b ∷ bs) h = (of_above b bs h.0, of_sorted bs h.1)

  of_at : (bs : List ℕ) (block : ℕ) → at_block block (of bs) ≡ cond (member block bs) (Some (f block)) None
  unfolding of
  of_at [] block = refl
  of_at (c ∷ cs) block = elim (cases_eq c block) [
    | inl same ↦ rw (at_eqb block c, eq-eqb c block same) (ap (λ (b : ℕ). Some (f b)) same)
    | inr ne ↦ rw (at_eqb block c, ne_eqb c block ne) (of_at cs block)
  ]

-- the values of a sorted list that has just these blocks' values
pub values_are : {X Y : Type 0} (g : X → Y) (f : ℕ → Y) (es : List (ℕ × X)) (bs : List ℕ) → Sorted es → Rising bs → ((block : ℕ) → option_map g (at_block block es) ≡ cond (member block bs) (Some (f block)) None) → map g (values_of es) ≡ map f bs
values_are g f es bs up rising same =
    let ascends : Sorted (seen g es) = rw (seen_keys g es) up in
    sym (seen_values g es) ∙ ap values_of (same_values (seen g es) (of f bs) ascends (of_sorted f bs rising) (λ block. seen_at g es block ∙ same block ∙ sym (of_at f bs block))) ∙ of_values f bs
