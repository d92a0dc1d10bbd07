-- A list of views, in which one view changes or to which one is added: what becomes of a sum over all, and of a fact of each.
use Rattle.std.proofs.Common.{◌≡◌, ◌≢◌, ℕ, zero, suc, ◌+◌, ◌≤◌, List, [], ◌∷◌, ◌++◌, length, get_or, set, sym, refl, ap, ◌∙◌, subst, ⊎_elim, arith, sum_by}
use Rattle.std.specs.List.{All}
use Rattle.std.proofs.Math.Seq.{get_or-append_seam}
use Rattle.std.proofs.lemmas.List.{length-append}
use Rattle.std.proofs.lemmas.List.Sums.{sum_by-cons}
use mathlib.Core.Option.{some, some-injective, some-ne-none}
use lib.ListN.{get_elem?}
use Rattle.atomic_table.proofs.Lists.{at_set, at_snoc}

module _ {V : Type 0} where
  -- the sum after a change of one view
  pub sum_set : (f : V → ℕ) (views : List V) (i : ℕ) (v w : V) → get_elem? views i ≡ some v → sum_by f (set views i w) + f v ≡ sum_by f views + f w
  sum_set f [] i v w at = absurd (some-ne-none v (sym at))
  sum_set f (x ∷ xs) zero v w at = let e : f x ≡ f v = ap f (some-injective x v at) in omega (arith, sum_by-cons f x xs, sum_by-cons f w xs)
  sum_set f (x ∷ xs) (suc i) v w at = let e = sum_set f xs i v w at in omega (arith, sum_by-cons f x xs, sum_by-cons f x (set xs i w))

  -- one term is no more than the sum
  pub le_sum : (f : V → ℕ) (views : List V) (i : ℕ) (v : V) → get_elem? views i ≡ some v → f v ≤ sum_by f views
  le_sum f [] i v at = absurd (some-ne-none v (sym at))
  le_sum f (x ∷ xs) zero v at = let e : f x ≡ f v = ap f (some-injective x v at) in omega (arith, sum_by-cons f x xs)
  le_sum f (x ∷ xs) (suc i) v at = let e = le_sum f xs i v at in omega (arith, sum_by-cons f x xs)

  -- two terms are no more than the sum
  pub two_le_sum : (f : V → ℕ) (views : List V) (i j : ℕ) (v w : V) → i ≢ j → get_elem? views i ≡ some v → get_elem? views j ≡ some w → f v + f w ≤ sum_by f views
  two_le_sum f [] i j v w ne at there = absurd (some-ne-none v (sym at))
  two_le_sum f (x ∷ xs) zero zero v w ne at there = absurd (ne refl)
  two_le_sum f (x ∷ xs) zero (suc j) v w ne at there = let e : f x ≡ f v = ap f (some-injective x v at) in let r = le_sum f xs j w there in omega (arith, sum_by-cons f x xs)
  two_le_sum f (x ∷ xs) (suc i) zero v w ne at there = let e : f x ≡ f w = ap f (some-injective x w there) in let r = le_sum f xs i v at in omega (arith, sum_by-cons f x xs)
  two_le_sum f (x ∷ xs) (suc i) (suc j) v w ne at there = let r = two_le_sum f xs i j v w (λ e. ne (ap suc e)) at there in omega (arith, sum_by-cons f x xs)

  -- where f is 0 of each view, the sum is 0
  sum_none : (f : V → ℕ) (views : List V) → ((j : ℕ) (u : V) → get_elem? views j ≡ some u → f u ≡ 0) → sum_by f views ≡ 0
  sum_none f [] rest = refl
  sum_none f (x ∷ xs) rest = let a = rest 0 x refl in let b = sum_none f xs (λ j u at. rest (suc j) u at) in omega (arith, sum_by-cons f x xs)

  -- where f is 0 of each other view, the sum is that of this one
  pub sum_alone : (f : V → ℕ) (views : List V) (i : ℕ) (v : V) → get_elem? views i ≡ some v → ((j : ℕ) (u : V) → j ≢ i → get_elem? views j ≡ some u → f u ≡ 0) → sum_by f views ≡ f v
  sum_alone f [] i v at rest = absurd (some-ne-none v (sym at))
  sum_alone f (x ∷ xs) zero v at rest = let e : f x ≡ f v = ap f (some-injective x v at) in let r = sum_none f xs (λ j u a. rest (suc j) u (λ h. omega arith) a) in omega (arith, sum_by-cons f x xs)
  sum_alone f (x ∷ xs) (suc i) v at rest = let a = rest 0 x (λ h. omega arith) refl in let b = sum_alone f xs i v at (λ j u ne e. rest (suc j) u (λ h. ne (omega arith)) e) in omega (arith, sum_by-cons f x xs)

  -- a fact of each view after a change of one
  pub each_set : (F : ℕ → V → Type 0) (views : List V) (i : ℕ) (w : V) → F i w → ((j : ℕ) (u : V) → j ≢ i → get_elem? views j ≡ some u → F j u) → (j : ℕ) (u : V) → get_elem? (set views i w) j ≡ some u → F j u
  each_set F views i w mine others j u e = ⊎_elim (λ (x : (j ≡ i) × (w ≡ u)). subst (λ (y : ℕ × V). F y.0 y.1) (λ k. (sym x.0 k, x.1 k)) mine)
      (λ (x : (j ≢ i) × (get_elem? views j ≡ some u)). others j u x.0 x.1) (at_set views i j w u e)

  -- a fact of each view where one is added
  pub each_snoc : (F : ℕ → V → Type 0) (views : List V) (w : V) → ((j : ℕ) → F j w) → ((j : ℕ) (u : V) → get_elem? views j ≡ some u → F j u) → (j : ℕ) (u : V) → get_elem? (views ++ w ∷ []) j ≡ some u → F j u
  each_snoc F views w mine others j u e = ⊎_elim (λ (x : get_elem? views j ≡ some u). others j u x) (λ (x : w ≡ u). subst (F j) x (mine j)) (at_snoc views w u j e)

-- a fact of each item of a list holds of the one between two parts of it
pub all_seam : {A : Type 0} (P : A → Type 0) (xs : List A) (y : A) (ys zs : List A) → xs ++ y ∷ ys ≡ zs → All P zs → P y
all_seam P xs y ys zs is all = subst P (ap (λ l. get_or l (length xs) y) (sym is) ∙ get_or-append_seam xs y ys y)
    (all (length xs) y (let e = ap (λ l. length l) is in omega (arith, length-append xs (y ∷ ys))))

-- a fact of one item is a fact of each item of the list of it alone
pub all_one : {A : Type 0} (P : A → Type 0) (x : A) → P x → All P (x ∷ [])
all_one P x h zero d l = h
all_one P x h (suc k) d l = absurd (omega arith)
