-- What is left of a list that is gone through from its front.
use Rattle.std.proofs.Common.{◌≡◌, ℕ, zero, suc, ◌+◌, ◌<◌, ◌≤◌, List, [], ◌∷◌, ◌++◌, length, get_or, take, drop, Option, Some, None, refl, sym, ap, ◌∙◌, arith, inl, inr}
use Rattle.std.proofs.lemmas.Bool.{cases_lt}
use Rattle.std.proofs.lemmas.List.{drop_more, take_more, length-drop, drop_all}
use Rattle.std.specs.Option.{unwrap_or}
use Rattle.std.specs.Iterator.{YieldsFirstRef}
use denote.Bor.{Bor}

-- the next element, at its place
pub record Turn {X : Type 0} (xs : List X) (i : ℕ) (x : X) (rest : List X) : Type 0 where
  pub within : i < length xs
  pub here : (d : X) → get_or xs i d ≡ x
  pub behind : rest ≡ drop (i + 1) xs
  pub taken : take (i + 1) xs ≡ take i xs ++ x ∷ []

pub turn : {X : Type 0} (xs : List X) (i : ℕ) (x : X) (rest : List X) → drop i xs ≡ x ∷ rest → Turn xs i x rest
turn {X} xs i x rest e =
    elim (cases_lt i (length xs)) [
      | inl lt ↦
          let split : (d : X) → get_or xs i d ∷ drop (i + 1) xs ≡ x ∷ rest = λ d. sym (drop_more xs i d lt) ∙ e in
          let here : (d : X) → get_or xs i d ≡ x = λ d. cc (split d) in
          record {
            within = lt;
            here = here;
            behind = cc (split x);
            taken = take_more xs i x lt ∙ ap (λ (y : X). take i xs ++ y ∷ []) (here x);
          }
      | inr le ↦ let none : [] ≡ x ∷ rest = sym (drop_all i xs le) ∙ e in absurd (cc)
    ]

pub at_end : {X : Type 0} (xs : List X) (i : ℕ) → drop i xs ≡ [] → length xs ≤ i
at_end xs i e = omega (arith, length-drop i xs, ap length e)

-- a step goes over one element, where there is one
pub steps_on : (xs old new : List (List ℕ)) (i : ℕ) (r : Option (Bor (List ℕ))) → YieldsFirstRef (λ (texts : List (List ℕ)). texts) old r new → old ≡ drop i xs → new ≡ drop (i + 1) xs
steps_on xs old new i None h e = h.1 ∙ sym (drop_all (i + 1) xs (let end = at_end xs i (sym e ∙ h.0) in omega (arith, end)))
steps_on xs old new i (Some x) h e = (turn xs i x.now new (sym e ∙ h)).behind

-- the element at a place is given where those before it are gone
pub given_at : (xs old new : List (List ℕ)) (i j : ℕ) (d : List ℕ) (r : Option (Bor (List ℕ))) (other : Bor (List ℕ)) → YieldsFirstRef (λ (texts : List (List ℕ)). texts) old r new → old ≡ drop j xs → j ≡ i → i < length xs → (unwrap_or r other).now ≡ get_or xs i d
given_at xs old new i j d None other h e same lt = absurd (let end = at_end xs j (sym e ∙ h.0) in omega (arith, end, lt, same))
given_at xs old new i j d (Some x) other h e same lt = sym ((turn xs j x.now new (sym e ∙ h)).here d) ∙ ap (λ (k : ℕ). get_or xs k d) same

-- ---- so many of them

pub take_turn : {X : Type 0} (n m : ℕ) (xs ys : List X) (x : X) → xs ≡ x ∷ ys → m + 1 ≡ n → take n xs ≡ x ∷ take m ys
take_turn {X} n m xs ys x e f =
    let k : n ≡ suc m = omega (arith, f) in
    ap (λ (l : List X). take n l) e ∙ ap (λ (i : ℕ). take i (x ∷ ys)) k

pub take_over : {X : Type 0} (n : ℕ) (xs : List X) → (0 < n → xs ≡ []) → take n xs ≡ []
take_over {X} zero xs h = refl
take_over {X} (suc n) xs h = ap (λ (l : List X). take (suc n) l) (h (omega arith))
