-- The numbers that a counter gave.
use Rattle.std.proofs.Common.{◌≡◌, ℕ, zero, suc, ◌+◌, ◌≤◌, Bool, true, false, ◌||◌, eqb, List, [], ◌∷◌, ◌++◌, refl, ap, arith}
use Rattle.std.specs.List.{list_any}
use Rattle.std.proofs.lemmas.Bool.{ne_eqb}
use Rattle.cp_core.specs.Leaves.{numbers_below}

any_append : (p : ℕ → Bool) (xs : List ℕ) (y : ℕ) → list_any p xs ≡ false → p y ≡ false → list_any p (xs ++ y ∷ []) ≡ false
any_append p [] y none last = rw last refl
any_append p (x ∷ xs) y none last = go (p x) none (λ h. any_append p xs y h last)
  where
    go : (b : Bool) → (b || list_any p xs) ≡ false → (list_any p xs ≡ false → list_any p (xs ++ y ∷ []) ≡ false) → (b || list_any p (xs ++ y ∷ [])) ≡ false
    go true none more = none
    go false none more = more none

-- none of them is as great as n
pub none_below : (n m : ℕ) → n ≤ m → list_any (λ x. eqb x m) (numbers_below n) ≡ false
none_below zero m le = refl
none_below (suc n) m le = any_append (λ x. eqb x m) (numbers_below n) n (none_below n m (omega (arith, le))) (ne_eqb n m (omega (arith, le)))

pub one_more : (n : ℕ) → numbers_below (n + 1) ≡ numbers_below n ++ n ∷ []
one_more n = let e : n + 1 ≡ suc n = omega arith in ap numbers_below e
