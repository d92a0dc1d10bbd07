-- Sums and counts of what is seen and of what passes.
use Rattle.std.proofs.Common.{◌≡◌, ℕ, ◌+◌, ◌&&◌, Bool, true, false, cond, List, [], ◌∷◌, sum_by, count_by, refl, sym, ap, ◌∙◌, arith}
use Rattle.std.specs.Prelude.{map, filter}
use Rattle.std.proofs.lemmas.List.Sums.{sum_by-cons}

pub sum_map : {X Y : Type 0} (g : Y → ℕ) (f : X → Y) (xs : List X) → sum_by g (map f xs) ≡ sum_by (λ x. g (f x)) xs
sum_map g f [] = refl
sum_map g f (x ∷ xs) = sum_by-cons g (f x) (map f xs) ∙ ap (λ (n : ℕ). g (f x) + n) (sum_map g f xs) ∙ sym (sum_by-cons (λ y. g (f y)) x xs)

pub count_map : {X Y : Type 0} (p : Y → Bool) (f : X → Y) (xs : List X) → count_by p (map f xs) ≡ count_by (λ x. p (f x)) xs
count_map p f xs = sum_map (λ y. cond (p y) 1 0) f xs

plus_zero : (n : ℕ) → n ≡ 0 + n
plus_zero n = omega arith

-- those that pass both tests
pub count_both : {X : Type 0} (p q : X → Bool) (xs : List X) → count_by q (filter p xs) ≡ count_by (λ x. p x && q x) xs
count_both p q [] = refl
count_both {X} p q (x ∷ xs) = go (p x) (count_both p q xs) ∙ sym (sum_by-cons (λ y. cond (p y && q y) 1 0) x xs)
  where
    go : (b : Bool) → count_by q (filter p xs) ≡ count_by (λ y. p y && q y) xs → count_by q (cond b (x ∷ filter p xs) (filter p xs)) ≡ cond (b && q x) 1 0 + count_by (λ y. p y && q y) xs
    go true h = sum_by-cons (λ y. cond (q y) 1 0) x (filter p xs) ∙ ap (λ (n : ℕ). cond (q x) 1 0 + n) h
    go false h = h ∙ plus_zero (count_by (λ y. p y && q y) xs)
