-- A writer in its place.
use Rattle.std.proofs.Common.{◌≡◌, ℕ, zero, suc, ◌+◌, ◌<◌, List, [], ◌∷◌, ◌++◌, length, get_or, Bool, true, false, cond, Some, None, refl, ap, arith}
use Rattle.std.specs.Prelude.{not}
use Rattle.std.specs.List.{position, position_or_len, insert}
use Rattle.cp_replay.specs.Writers.{is_before, is_same, with_writer}
use Rattle.cp_replay.specs.declared.writer.Writer.{Writer}
use Rattle.cp_replay.proofs.Found.{at_position, no_position}

abbrev place : List Writer → Writer → ℕ
place xs w = position_or_len (λ x. not (is_before x w)) xs

last_in : (x : Writer) (xs : List Writer) (w : Writer) (b : Bool) → (place xs w ≡ length xs → with_writer xs w ≡ xs ++ w ∷ []) → cond (not (not b)) (1 + place xs w) 0 ≡ length (x ∷ xs)
    → cond b (x ∷ with_writer xs w) (cond (is_same x w) (x ∷ xs) (w ∷ (x ∷ xs))) ≡ x ∷ (xs ++ w ∷ [])
last_in x xs w true others e = ap (λ ys. x ∷ ys) (others (omega (arith, e)))
last_in x xs w false others e = absurd (omega (arith, e))

-- all come before it
at_end : (xs : List Writer) (w : Writer) → place xs w ≡ length xs → with_writer xs w ≡ xs ++ w ∷ []
unfolding with_writer
at_end [] w e = refl
at_end (x ∷ xs) w e = last_in x xs w (is_before x w) (at_end xs w) e

there_in : (x : Writer) (xs : List Writer) (w d : Writer) (k : ℕ) (b : Bool)
    → ((i : ℕ) → place xs w ≡ i → i < length xs → is_same (get_or xs i d) w ≡ true → with_writer xs w ≡ xs)
    → cond (not (not b)) (1 + place xs w) 0 ≡ k → k < length (x ∷ xs) → is_same (get_or (x ∷ xs) k d) w ≡ true
    → cond b (x ∷ with_writer xs w) (cond (is_same x w) (x ∷ xs) (w ∷ (x ∷ xs))) ≡ x ∷ xs
there_in x xs w d zero true others e inside same = absurd (omega (arith, e))
there_in x xs w d (suc i) true others e inside same = ap (λ ys. x ∷ ys) (others i (omega (arith, e)) (omega (arith, inside)) same)
there_in x xs w d zero false others e inside same = rw same refl
there_in x xs w d (suc i) false others e inside same = absurd (omega (arith, e))

-- it is there
there : (xs : List Writer) (w d : Writer) (k : ℕ) → place xs w ≡ k → k < length xs → is_same (get_or xs k d) w ≡ true → with_writer xs w ≡ xs
unfolding with_writer
there [] w d k e inside same = absurd (omega (arith, inside))
there (x ∷ xs) w d k e inside same = there_in x xs w d k (is_before x w) (there xs w d) e inside same

between_in : (x : Writer) (xs : List Writer) (w d : Writer) (k : ℕ) (b : Bool)
    → ((i : ℕ) → place xs w ≡ i → i < length xs → is_same (get_or xs i d) w ≡ false → with_writer xs w ≡ insert xs i w)
    → cond (not (not b)) (1 + place xs w) 0 ≡ k → k < length (x ∷ xs) → is_same (get_or (x ∷ xs) k d) w ≡ false
    → cond b (x ∷ with_writer xs w) (cond (is_same x w) (x ∷ xs) (w ∷ (x ∷ xs))) ≡ insert (x ∷ xs) k w
between_in x xs w d zero true others e inside other = absurd (omega (arith, e))
between_in x xs w d (suc i) true others e inside other = ap (λ ys. x ∷ ys) (others i (omega (arith, e)) (omega (arith, inside)) other)
between_in x xs w d zero false others e inside other = rw other refl
between_in x xs w d (suc i) false others e inside other = absurd (omega (arith, e))

-- it comes before the one there
between : (xs : List Writer) (w d : Writer) (k : ℕ) → place xs w ≡ k → k < length xs → is_same (get_or xs k d) w ≡ false → with_writer xs w ≡ insert xs k w
unfolding with_writer
between [] w d k e inside other = absurd (omega (arith, inside))
between (x ∷ xs) w d k e inside other = between_in x xs w d k (is_before x w) (between xs w d) e inside other

pub added_last : (xs : List Writer) (w : Writer) → position (λ x. not (is_before x w)) xs ≡ None → with_writer xs w ≡ xs ++ w ∷ []
added_last xs w e = at_end xs w (no_position (λ x. not (is_before x w)) xs e)

pub added_again : (xs : List Writer) (w d : Writer) (k : ℕ) → position (λ x. not (is_before x w)) xs ≡ Some k → is_same (get_or xs k d) w ≡ true → with_writer xs w ≡ xs
added_again xs w d k e same =
    let p = at_position (λ x. not (is_before x w)) xs k e in
    there xs w d k p.0 (omega (arith, p.0, p.1)) same

pub added_between : (xs : List Writer) (w d : Writer) (k : ℕ) → position (λ x. not (is_before x w)) xs ≡ Some k → is_same (get_or xs k d) w ≡ false → with_writer xs w ≡ insert xs k w
added_between xs w d k e other =
    let p = at_position (λ x. not (is_before x w)) xs k e in
    between xs w d k p.0 (omega (arith, p.0, p.1)) other

pub ruleset inserted = (added_last, added_again, added_between)
