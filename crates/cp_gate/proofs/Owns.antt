-- The items that name a number.
use Rattle.std.proofs.Common.{◌≡◌, ◌≢◌, ℕ, zero, ◌==◌, Bool, true, false, cond, List, [], ◌∷◌, ◌++◌, length, Option, Some, None, sym, refl, ap, ◌∙◌, arith, drop}
use Rattle.std.proofs.lemmas.Bool.Decides.{nat_tests}
use Rattle.std.specs.List.{All}
use Rattle.std.proofs.lemmas.List.{append-nil}
use Rattle.std.proofs.lemmas.List.Elements.{filter-append}
use Rattle.cp_gate.specs.Histories.{OthersAdd, SeatAdds, is_named, items_of}
use Rattle.cp_gate.proofs.Histories.{tail_all, adds_others}

not_named : (o : Option ℕ) (k : ℕ) → o ≢ Some k → is_named o k ≡ false
not_named None k ne = refl
not_named (Some n) k ne = by_test (n == k) refl
  where
    by_test : (b : Bool) → (n == k) ≡ b → b ≡ false
    by_test true e = let same : n ≡ k = grind (arith, nat_tests) in absurd (ne (ap (λ (z : ℕ). Some z) same))
    by_test false e = refl

drop_front : {A : Type 0} (xs ys : List A) → drop (length xs) (xs ++ ys) ≡ ys
drop_front [] ys = refl
drop_front (x ∷ xs) ys = drop_front xs ys

module _ {I : Type 0} (names : I → Option ℕ) (k : ℕ) where
  none_named : (xs : List I) → All (λ x. names x ≢ Some k) xs → items_of names k xs ≡ []
  none_named [] h = refl
  none_named (x ∷ xs) h = ap (λ (b : Bool). cond b (x ∷ items_of names k xs) (items_of names k xs)) (not_named (names x) k (h zero x (omega arith))) ∙ none_named xs (tail_all (λ x. names x ≢ Some k) x xs h)

  pub others_add : (xs ys : List I) → OthersAdd names k xs ys → items_of names k ys ≡ items_of names k xs
  others_add xs ys a = ap (items_of names k) a.is ∙ (filter-append (λ x. is_named (names x) k) xs a.rest ∙ (ap (λ (l : List I). items_of names k xs ++ l) (none_named a.rest a.foreign) ∙ append-nil (items_of names k xs)))

  pub own_adds : (xs ys : List I) → SeatAdds names k xs ys → items_of names k ys ≡ items_of names k xs ++ items_of names k (drop (length xs) ys)
  own_adds xs ys a = ap (items_of names k) a.is ∙ (filter-append (λ x. is_named (names x) k) xs a.rest ∙ ap (λ (l : List I). items_of names k xs ++ items_of names k l) (sym (ap (drop (length xs)) a.is ∙ drop_front xs a.rest)))

pub apart_adds : {I : Type 0} (names : I → Option ℕ) (j k : ℕ) (xs ys : List I) → (j ≡ k → ⊥) → SeatAdds names k xs ys → items_of names j ys ≡ items_of names j xs
apart_adds names j k xs ys ne own = others_add names j xs ys (adds_others names j k xs ys ne own)
