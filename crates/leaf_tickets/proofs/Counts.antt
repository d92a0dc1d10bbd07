-- How many numbers lists have together, where each number of a range stands in them once, and no other.
use Rattle.std.proofs.Common.{◌≡◌, ℕ, zero, suc, ◌+◌, ◌-◌, ◌≤◌, ◌<◌, eqb, Bool, true, false, cond, List, [], ◌∷◌, length, refl, ap, ◌∙◌, subst, arith, sum_by, eq-eqb}
use Rattle.std.specs.Prelude.{nat_lt, count_by}
use Rattle.std.proofs.lemmas.List.Sums.{sum_by-cons}
use Rattle.std.proofs.lemmas.Bool.Decides.{nat_tests}
use Rattle.leaf_tickets.specs.Models.{times, once_from}

-- how many of the numbers are below the bound
abbrev below : ℕ → List ℕ → ℕ
below bound xs = count_by (λ y. nat_lt y bound) xs

one_below : (bound x : ℕ) → cond (nat_lt x (suc bound)) 1 0 ≡ cond (nat_lt x bound) 1 0 + cond (eqb x bound) 1 0
one_below bound x = grind (arith, nat_tests)

none_below_zero : (x : ℕ) → 0 + cond (nat_lt x 0) 1 0 ≡ 0
none_below_zero x = grind (arith, nat_tests)

below_next : (bound : ℕ) (xs : List ℕ) → below (suc bound) xs ≡ below bound xs + times bound xs
below_next bound [] = refl
below_next bound (x ∷ xs) = omega (arith, below_next bound xs, one_below bound x, sum_by-cons (λ (y : ℕ). cond (nat_lt y (suc bound)) 1 0) x xs, sum_by-cons (λ (y : ℕ). cond (nat_lt y bound) 1 0) x xs, sum_by-cons (λ (y : ℕ). cond (eqb y bound) 1 0) x xs)

below_zero : (xs : List ℕ) → below 0 xs ≡ 0
below_zero [] = refl
below_zero (x ∷ xs) = omega (arith, below_zero xs, none_below_zero x, sum_by-cons (λ (y : ℕ). cond (nat_lt y 0) 1 0) x xs)

-- where no number from the bound on stands in the list, each is below it
all_below : (bound : ℕ) (xs : List ℕ) → ((x : ℕ) → bound ≤ x → times x xs ≡ 0) → below bound xs ≡ length xs
all_below bound [] none = refl
all_below bound (x ∷ xs) none = by_test (nat_lt x bound) refl (all_below bound xs (λ y high. omega (arith, none y high, here y)))
  where
    here : (y : ℕ) → times y (x ∷ xs) ≡ cond (eqb x y) 1 0 + times y xs
    here y = sum_by-cons (λ (z : ℕ). cond (eqb z y) 1 0) x xs

    by_test : (b : Bool) → nat_lt x bound ≡ b → below bound xs ≡ length xs → below bound (x ∷ xs) ≡ suc (length xs)
    by_test true e more = let one : 0 + cond (nat_lt x bound) 1 0 ≡ 1 = ap (λ (b : Bool). let n : ℕ = 0 + cond b 1 0 in n) e in omega (arith, one, more, sum_by-cons (λ (y : ℕ). cond (nat_lt y bound) 1 0) x xs)
    by_test false e more = let high : bound ≤ x = grind (arith, nat_tests) in let one : 0 + cond (eqb x x) 1 0 ≡ 1 = ap (λ (b : Bool). let n : ℕ = 0 + cond b 1 0 in n) (eq-eqb x x refl) in absurd (omega (arith, one, none x high, here x))

once_here : (start x end : ℕ) → start ≤ x → x < end → once_from start x end ≡ 1
once_here start x end low high = grind (arith, nat_tests)

once_before : (start x end : ℕ) → x < start → once_from start x end ≡ 0
once_before start x end low = grind (arith, nat_tests)

once_behind : (start x end : ℕ) → end ≤ x → once_from start x end ≡ 0
once_behind start x end high = grind (arith, nat_tests)

module _ {S : Type 0} (drawn : S → List ℕ) where
  sum_next : (bound : ℕ) (ss : List S) → sum_by (λ s. below (suc bound) (drawn s)) ss ≡ sum_by (λ s. below bound (drawn s)) ss + sum_by (λ s. times bound (drawn s)) ss
  sum_next bound [] = refl
  sum_next bound (s ∷ ss) = omega (arith, sum_next bound ss, below_next bound (drawn s), sum_by-cons (λ (t : S). below (suc bound) (drawn t)) s ss, sum_by-cons (λ (t : S). below bound (drawn t)) s ss, sum_by-cons (λ (t : S). times bound (drawn t)) s ss)

  sum_zero : (ss : List S) → sum_by (λ s. below 0 (drawn s)) ss ≡ 0
  sum_zero [] = refl
  sum_zero (s ∷ ss) = omega (arith, sum_zero ss, below_zero (drawn s), sum_by-cons (λ (t : S). below 0 (drawn t)) s ss)

  sum_all : (bound : ℕ) (ss : List S) → ((x : ℕ) → bound ≤ x → sum_by (λ s. times x (drawn s)) ss ≡ 0) → sum_by (λ s. below bound (drawn s)) ss ≡ sum_by (λ s. length (drawn s)) ss
  sum_all bound [] none = refl
  sum_all bound (s ∷ ss) none = let here = λ (x : ℕ). sum_by-cons (λ (t : S). times x (drawn t)) s ss in
      omega (arith, all_below bound (drawn s) (λ x high. omega (arith, none x high, here x)), sum_all bound ss (λ x high. omega (arith, none x high, here x)), sum_by-cons (λ (t : S). below bound (drawn t)) s ss, sum_by-cons (λ (t : S). length (drawn t)) s ss)

  module _ (start end : ℕ) (ss : List S) (once : (x : ℕ) → sum_by (λ s. times x (drawn s)) ss ≡ once_from start x end) where
    up_to_start : (bound : ℕ) → bound ≤ start → sum_by (λ s. below bound (drawn s)) ss ≡ 0
    up_to_start zero low = sum_zero ss
    up_to_start (suc bound) low = omega (arith, up_to_start bound (omega arith), sum_next bound ss, once bound, once_before start bound end (omega arith))

    from_start : (k bound : ℕ) → bound ≡ start + k → bound ≤ end → sum_by (λ s. below bound (drawn s)) ss ≡ k
    from_start zero bound is low = up_to_start bound (omega arith)
    from_start (suc k) bound is low = let before : ℕ = start + k in let next : suc before ≡ bound = omega arith in
        subst (λ (z : ℕ). sum_by (λ s. below z (drawn s)) ss ≡ suc k) next (omega (arith, from_start k before refl (omega arith), sum_next before ss, once before, once_here start before end (omega arith) (omega arith)))

    -- the numbers of the range are as many as are drawn
    pub adds_up : start ≤ end → start + sum_by (λ s. length (drawn s)) ss ≡ end
    adds_up low = omega (arith, from_start (end - start) end (omega arith) (omega arith), sum_all end ss (λ x high. once x ∙ once_behind start x end high))
