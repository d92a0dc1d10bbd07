-- What holds of each element and those before it.
use Rattle.std.proofs.Common.{◌≡◌, ℕ, ◌+◌, ◌<◌, List, [], ◌∷◌, ◌++◌, length, get_or, take, drop, ◌⊎◌, inl, inr, refl, sym, ap, ◌∙◌, append_assoc, arith}
use Rattle.std.proofs.lemmas.List.{append-nil, take-append-drop, drop_more}
use Rattle.cp_chain.specs.Each.{Each}

pub nil_is_not : {X : Type 0} (front : List X) (x : X) (back : List X) → [] ≡ front ++ x ∷ back → ⊥
nil_is_not [] x back e = cc
nil_is_not (f ∷ front) x back e = cc

-- where an element of a list with one more at its end lies
abbrev pub SplitPush : {X : Type 0} → List X → X → List X → X → List X → Type 0
SplitPush {X} xs y front x back = ((front ≡ xs) × (x ≡ y) × (back ≡ [])) ⊎ ((rest : List X) × (xs ≡ front ++ x ∷ rest))

pub split_push : {X : Type 0} (xs : List X) (y : X) (front : List X) (x : X) (back : List X) → xs ++ y ∷ [] ≡ front ++ x ∷ back → SplitPush xs y front x back
split_push [] y [] x back e = inl (refl, cc, cc)
split_push [] y (f ∷ front) x back e = absurd (nil_is_not front x back cc)
split_push (z ∷ xs) y [] x back e = inr (xs, cc)
split_push (z ∷ xs) y (f ∷ front) x back e =
    let h : z ≡ f = cc in
    elim (split_push xs y front x back cc) [ inl w ↦ inl (cc, w.1, w.2) | inr w ↦ inr (w.0, cc) ]

pub each_nil : {X : Type 0} (P : List X → X → Type 0) → Each P []
each_nil P front x back e = absurd (nil_is_not front x back e)

pub each_push : {X : Type 0} (P : List X → X → Type 0) (xs : List X) (y : X) → Each P xs → P xs y → Each P (xs ++ y ∷ [])
each_push P xs y each last front x back e =
    elim (split_push xs y front x back e) [
      | inl w ↦ rw (w.0, w.1) last
      | inr w ↦ each front x w.0 w.1
    ]

pub each_front : {X : Type 0} (P : List X → X → Type 0) (xs ys : List X) → Each P (xs ++ ys) → Each P xs
each_front P xs ys each front x back e = each front x (back ++ ys) (ap (λ l. l ++ ys) e ∙ append_assoc front (x ∷ back) ys)

pub each_last : {X : Type 0} (P : List X → X → Type 0) (xs : List X) (y : X) → Each P (xs ++ y ∷ []) → P xs y
each_last P xs y each = each xs y [] refl

-- an element by its place
pub split_at : {X : Type 0} (xs : List X) (i : ℕ) (d : X) → i < length xs → xs ≡ take i xs ++ get_or xs i d ∷ drop (i + 1) xs
split_at xs i d lt = sym (take-append-drop i xs) ∙ ap (λ l. take i xs ++ l) (drop_more xs i d lt)

pub each_at : {X : Type 0} (P : List X → X → Type 0) (xs : List X) → Each P xs → (i : ℕ) (d : X) → i < length xs → P (take i xs) (get_or xs i d)
each_at P xs each i d lt = each (take i xs) (get_or xs i d) (drop (i + 1) xs) (split_at xs i d lt)

pub each_weaker : {X : Type 0} (P Q : List X → X → Type 0) → ((front : List X) (x : X) → P front x → Q front x) → (xs : List X) → Each P xs → Each Q xs
each_weaker P Q h xs each front x back e = h front x (each front x back e)

-- induction from the front to the end
snoc_from : {X : Type 0} (P : List X → Type 0) → ((xs : List X) (x : X) → P xs → P (xs ++ x ∷ [])) → (front xs : List X) → P front → P (front ++ xs)
snoc_from P step front [] h = rw append-nil h
snoc_from P step front (x ∷ xs) h = rw append_assoc at (snoc_from P step (front ++ x ∷ []) xs (step front x h))

pub snoc : {X : Type 0} (P : List X → Type 0) → P [] → ((xs : List X) (x : X) → P xs → P (xs ++ x ∷ [])) → (xs : List X) → P xs
snoc P none step xs = snoc_from P step [] xs none

-- two splits of one list at the same length are one
pub same_split : {X : Type 0} (front₁ : List X) (x₁ : X) (back₁ front₂ : List X) (x₂ : X) (back₂ : List X) → front₁ ++ x₁ ∷ back₁ ≡ front₂ ++ x₂ ∷ back₂ → length front₁ ≡ length front₂ → (front₁ ≡ front₂) × (x₁ ≡ x₂)
same_split [] x₁ back₁ [] x₂ back₂ e l = (refl, cc)
same_split [] x₁ back₁ (f ∷ front₂) x₂ back₂ e l = absurd (omega (arith, l))
same_split (f ∷ front₁) x₁ back₁ [] x₂ back₂ e l = absurd (omega (arith, l))
same_split {X} (f ∷ front₁) x₁ back₁ (g ∷ front₂) x₂ back₂ e l =
    let tails : front₁ ++ x₁ ∷ back₁ ≡ front₂ ++ x₂ ∷ back₂ = cc in
    let lengths : length front₁ ≡ length front₂ = omega (arith, l) in
    let t = same_split front₁ x₁ back₁ front₂ x₂ back₂ tails lengths in
    let h : f ≡ g = cc in
    (cc, t.1)
