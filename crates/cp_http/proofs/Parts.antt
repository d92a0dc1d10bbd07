-- A byte more of a part.
use Rattle.std.proofs.Common.{◌≡◌, ◌≢◌, ℕ, ◌+◌, ◌-◌, ◌<◌, ◌≤◌, ◌||◌, ◌==◌, Bool, false, cond, List, [], ◌∷◌, ◌++◌, length, take, drop, get_or, ap, sym, ◌∙◌, arith, suc}
use Rattle.std.proofs.lemmas.List.{take_more, get_or-drop, length-drop}
use Rattle.std.proofs.Math.Seq.{drop-cons}
use Rattle.std.proofs.lemmas.Bool.{ne_eqb}
use Rattle.std.specs.List.{slice_range}
use Rattle.cp_http.specs.Fields.{is_close, close_from}

grown : (xs : List ℕ) (start i : ℕ) → start ≤ i → i < length xs → slice_range xs start (i + 1) ≡ slice_range xs start i ++ get_or xs i 0 ∷ []
grown xs start i le lt =
    let e : i + 1 - start ≡ i - start + 1 = omega arith in
    let at : start + (i - start) ≡ i = omega arith in
    ap (λ k. take k (drop start xs)) e ∙ take_more (drop start xs) (i - start) 0 (omega (arith, length-drop start xs))
    ∙ ap (λ v. take (i - start) (drop start xs) ++ v ∷ []) (get_or-drop start xs (i - start) 0 ∙ ap (λ k. get_or xs k 0) at)

front : (xs : List ℕ) (i : ℕ) → i < length xs → drop i xs ≡ get_or xs i 0 ∷ drop (i + 1) xs
front xs i lt = let e : suc i ≡ i + 1 = omega arith in drop-cons xs i 0 lt ∙ ap (λ k. get_or xs i 0 ∷ drop k xs) e

comma_step : (part bytes : List ℕ) (b : ℕ) → b ≡ 44 → is_close part ≡ false → close_from part (b ∷ bytes) ≡ close_from [] bytes
unfolding close_from
comma_step part bytes b e no_close = ap (λ x. cond (x == 44) (is_close part || close_from [] bytes) (close_from (part ++ x ∷ []) bytes)) e ∙ ap (λ x. x || close_from [] bytes) no_close

other_step : (part bytes : List ℕ) (b : ℕ) → (b == 44) ≡ false → close_from part (b ∷ bytes) ≡ close_from (part ++ b ∷ []) bytes
unfolding close_from
other_step part bytes b e = ap (λ x. cond x (is_close part || close_from [] bytes) (close_from (part ++ b ∷ []) bytes)) e

pub at_comma : (xs : List ℕ) (start i : ℕ) (r : Bool) → start ≤ i → i < length xs → get_or xs i 0 ≡ 44 → is_close (slice_range xs start i) ≡ false
    → close_from (slice_range xs start i) (drop i xs) ≡ r → close_from (slice_range xs (i + 1) (i + 1)) (drop (i + 1) xs) ≡ r
at_comma xs start i r le lt e no_close h =
    let none : i + 1 - (i + 1) ≡ 0 = omega arith in
    ap (λ k. close_from (take k (drop (i + 1) xs)) (drop (i + 1) xs)) none
    ∙ sym (comma_step (slice_range xs start i) (drop (i + 1) xs) (get_or xs i 0) e no_close)
    ∙ ap (close_from (slice_range xs start i)) (sym (front xs i lt)) ∙ h

pub at_other : (xs : List ℕ) (start i : ℕ) (r : Bool) → start ≤ i → i < length xs → get_or xs i 0 ≢ 44
    → close_from (slice_range xs start i) (drop i xs) ≡ r → close_from (slice_range xs start (i + 1)) (drop (i + 1) xs) ≡ r
at_other xs start i r le lt e h =
    ap (λ p. close_from p (drop (i + 1) xs)) (grown xs start i le lt)
    ∙ sym (other_step (slice_range xs start i) (drop (i + 1) xs) (get_or xs i 0) (ne_eqb (get_or xs i 0) 44 e))
    ∙ ap (close_from (slice_range xs start i)) (sym (front xs i lt)) ∙ h
