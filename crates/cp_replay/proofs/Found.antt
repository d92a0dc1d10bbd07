-- Where a test first holds.
use Rattle.std.proofs.Common.{◌≡◌, ℕ, suc, ◌+◌, [], ◌∷◌, ◌<◌, ◌≤◌, List, length, Some, None, Bool, true, false, refl, cond, arith}
use Rattle.std.specs.Prelude.{nat_lt, not}
use Rattle.std.specs.List.{position, position_or_len, prefix_len}
use Rattle.std.proofs.lemmas.Bool.{ltb-true, ltb-false}

chosen : (b : Bool) (n i : ℕ) → cond b (Some n) None ≡ Some i → (b ≡ true) × (n ≡ i)
chosen true n i e = (refl, cc)
chosen false n i e = absurd cc

not_chosen : (b : Bool) (n : ℕ) → cond b (Some n) None ≡ None → b ≡ false
not_chosen true n e = absurd cc
not_chosen false n e = refl

pub at_position : {X : Type 0} (p : X → Bool) (xs : List X) (i : ℕ) → position p xs ≡ Some i → (position_or_len p xs ≡ i) × (position_or_len p xs < length xs)
at_position p xs i e =
    let w = chosen (nat_lt (position_or_len p xs) (length xs)) (position_or_len p xs) i e in
    (w.1, ltb-true (position_or_len p xs) (length xs) w.0)

step_within : (b : Bool) (n m : ℕ) → n ≤ m → cond b (1 + n) 0 ≤ suc m
step_within true n m le = omega (arith, le)
step_within false n m le = omega arith

within : {X : Type 0} (q : X → Bool) (xs : List X) → prefix_len q xs ≤ length xs
within q [] = omega arith
within q (x ∷ xs) = step_within (q x) (prefix_len q xs) (length xs) (within q xs)

pub no_position : {X : Type 0} (p : X → Bool) (xs : List X) → position p xs ≡ None → position_or_len p xs ≡ length xs
no_position p xs e =
    let w : length xs ≤ position_or_len p xs = ltb-false (position_or_len p xs) (length xs) (not_chosen (nat_lt (position_or_len p xs) (length xs)) (position_or_len p xs) e) in
    omega (arith, w, within (λ x. not (p x)) xs)
