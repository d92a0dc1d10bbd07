-- What a search found, and what it means that it found nothing.
use Rattle.std.proofs.Common.{◌≡◌, ℕ, zero, suc, ◌+◌, ◌≤◌, Bool, true, false, List, [], ◌∷◌, map, Option, Some, None, Result, Ok, Err, ◌⊎◌, inl, inr, refl, ap, sym, ◌∙◌, arith}
use Rattle.std.specs.List.{AllByRecursion}
use Rattle.std.proofs.lemmas.Bool.{cases_lt, false≢true}
use Rattle.cp_chain.specs.Legal.{ok_and}
use Rattle.cp_chain.specs.Rules.{or_else, first_of, from_on, found_if, Found}

-- ---- options

pub some_is : {A : Type 0} (x y : A) → (let a : Option A = Some x in a) ≡ Some y → x ≡ y
some_is x y e = cc

pub else_some : {A : Type 0} (o rest : Option A) (x : A) → or_else o rest ≡ Some x → (o ≡ Some x) ⊎ ((o ≡ None) × (rest ≡ Some x))
else_some None rest x e = inr (refl, e)
else_some (Some y) rest x e = inl e

pub else_none : {A : Type 0} (o rest : Option A) → or_else o rest ≡ None → (o ≡ None) × (rest ≡ None)
else_none None rest e = (refl, e)
else_none (Some y) rest e = absurd cc

pub none_else : {A : Type 0} (o rest : Option A) → o ≡ None → rest ≡ None → or_else o rest ≡ None
none_else None rest e f = f
none_else (Some y) rest e f = e

-- ---- the first of a list of searches

pub first_found : {A B : Type 0} (P : A → Type 0) (f : A → Option B) (xs : List A) (y : B) → AllByRecursion P xs → first_of (map f xs) ≡ Some y → (x : A) × P x × (f x ≡ Some y)
first_found P f [] y a e = absurd cc
first_found P f (x ∷ xs) y a e =
    elim (else_some (f x) (first_of (map f xs)) y e) [
      | inl h ↦ (x, a.0, h)
      | inr h ↦ first_found P f xs y a.1 h.1
    ]

pub first_none : {A B : Type 0} (f : A → Option B) (xs : List A) → first_of (map f xs) ≡ None → AllByRecursion (λ x. f x ≡ None) xs
first_none f [] e = tt
first_none f (x ∷ xs) e = let h = else_none (f x) (first_of (map f xs)) e in (h.0, first_none f xs h.1)

pub none_first : {A B : Type 0} (f : A → Option B) (xs : List A) → AllByRecursion (λ x. f x ≡ None) xs → first_of (map f xs) ≡ None
none_first f [] a = refl
none_first f (x ∷ xs) a = none_else (f x) (first_of (map f xs)) a.0 (none_first f xs a.1)

pub on_some : {A : Type 0} (try : ℕ → Option A) (n i : ℕ) (x : A) → from_on try n i ≡ Some x → (j : ℕ) × (try j ≡ Some x)
on_some try zero i x e = (i, e)
on_some try (suc n) i x e =
    elim (else_some (try i) (from_on try n (i + 1)) x e) [
      | inl h ↦ (i, h)
      | inr h ↦ on_some try n (i + 1) x h.1
    ]

pub on_none : {A : Type 0} (try : ℕ → Option A) (n i j : ℕ) → from_on try n i ≡ None → i ≤ j → j ≤ i + n → try j ≡ None
on_none try zero i j e le up = ap try (let h : j ≡ i = omega (arith, le, up) in h) ∙ e
on_none try (suc n) i j e le up =
    let h = else_none (try i) (from_on try n (i + 1)) e in
    elim (cases_lt i j) [
      | inl lt ↦ on_none try n (i + 1) j h.1 (omega (arith, lt)) (omega (arith, up))
      | inr ge ↦ ap try (let same : j ≡ i = omega (arith, le, ge) in same) ∙ h.0
    ]

pub none_on : {A : Type 0} (try : ℕ → Option A) → ((j : ℕ) → try j ≡ None) → (n i : ℕ) → from_on try n i ≡ None
none_on try h zero i = h i
none_on try h (suc n) i = none_else (try i) (from_on try n (i + 1)) (h i) (none_on try h n (i + 1))

pub found_is : (b : Bool) (x y : Found) → found_if b x ≡ Some y → (b ≡ true) × (x ≡ y)
found_is true x y e = (refl, some_is x y e)
found_is false x y e = absurd cc

pub not_found_is : (b : Bool) (x : Found) → found_if b x ≡ None → b ≡ false
not_found_is true x e = absurd cc
not_found_is false x e = refl

pub is_not_found : (b : Bool) (x : Found) → b ≡ false → found_if b x ≡ None
is_not_found b x e = rw e refl

-- ---- what was read

pub ok_and_true : {A : Type 0} (r : Result A ℕ) (p : A → Bool) → ok_and r p ≡ true → (x : A) × (r ≡ Ok x) × (p x ≡ true)
ok_and_true (Ok x) p e = (x, refl, e)
ok_and_true (Err d) p e = absurd (false≢true e)

pub ok_and_false : {A : Type 0} (r : Result A ℕ) (p : A → Bool) (x : A) → ok_and r p ≡ false → r ≡ Ok x → p x ≡ false
ok_and_false r p x e is = ap (λ z. ok_and z p) (sym is) ∙ e

pub false_ok_and : {A : Type 0} (r : Result A ℕ) (p : A → Bool) → ((x : A) → r ≡ Ok x → p x ≡ false) → ok_and r p ≡ false
false_ok_and (Ok x) p h = h x refl
false_ok_and (Err d) p h = refl
