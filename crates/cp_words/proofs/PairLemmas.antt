-- Words that are gone through by twos.
use Rattle.std.proofs.Common.{◌≡◌, ℕ, ◌-◌, ◌<◌, ◌≤◌, List, [], ◌∷◌, length, get_or, take, drop, map, false, ap, ◌∙◌, refl, arith}
use Rattle.std.specs.Prelude.{bytes_eq, ◌==◌}
use Rattle.std.proofs.lemmas.List.{take_all}
use Rattle.cp_words.specs.Pairs.{value_in, are_pairs}

-- a name that isn't the first one is looked for behind the first pair
pub value_in_next : {X : Type 0} (spelled : X → List ℕ) (rest : List X) (first d : X) (name : List ℕ) → 2 ≤ length rest → first ≡ get_or rest 0 d → bytes_eq (spelled first) name ≡ false
    → value_in (map spelled (take (length rest - 2) (drop 2 rest))) name ≡ value_in (map spelled rest) name
unfolding value_in
value_in_next spelled [] first d name long is other = absurd (omega (arith, long))
value_in_next spelled (x ∷ []) first d name long is other = absurd (omega (arith, long))
value_in_next spelled (x ∷ (y ∷ zs)) first d name long is other =
    ap (λ ws. value_in (map spelled ws) name) (take_all (length (x ∷ (y ∷ zs)) - 2) zs (omega arith)) ∙ rw (← is, other) refl

-- a word alone is no pair
pub one_word : {X : Type 0} (spelled : X → List ℕ) (names : List (List ℕ)) (rest : List X) → length rest < 2 → (length rest == 0) ≡ false → are_pairs names (map spelled rest) ≡ false
unfolding are_pairs
one_word spelled names [] short some = absurd cc
one_word spelled names (x ∷ []) short some = refl
one_word spelled names (x ∷ (y ∷ zs)) short some = absurd (omega (arith, short))
