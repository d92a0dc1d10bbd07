-- Bytes in pieces of one length.
use Rattle.std.proofs.Common.{◌≡◌, ℕ, zero, suc, ◌+◌, ◌*◌, ◌≤◌, List, [], ◌∷◌, ◌++◌, length, take, drop, refl, ap, ◌∙◌, arith}
use Rattle.std.proofs.lemmas.List.{drop-drop}
use Rattle.std.specs.Simd.{first_chunks}

pub length-first_chunks : {X : Type 0} (w n : ℕ) (xs : List X) → length (first_chunks w n xs) ≡ n
length-first_chunks w zero xs = refl
length-first_chunks w (suc n) xs = ap suc (length-first_chunks w n (drop w xs))

-- the first of the pieces
pub take-first_chunks : {X : Type 0} (w n k : ℕ) (xs : List X) → n ≤ k → take n (first_chunks w k xs) ≡ first_chunks w n xs
take-first_chunks w zero k xs le = refl
take-first_chunks w (suc n) zero xs le = absurd (omega (arith, le))
take-first_chunks w (suc n) (suc k) xs le = ap (λ l. take w xs ∷ l) (take-first_chunks w n k (drop w xs) (omega (arith, le)))

chunks_at_suc : {X : Type 0} (w n : ℕ) (xs : List X) → first_chunks w (suc n) xs ≡ first_chunks w n xs ++ take w (drop (w * n) xs) ∷ []
chunks_at_suc w zero xs = ap (λ m. take w (drop m xs) ∷ []) (let e : 0 ≡ w * 0 = omega arith in e)
chunks_at_suc w (suc n) xs =
    let on : drop (w * n) (drop w xs) ≡ drop (w * suc n) xs = drop-drop (w * n) w xs ∙ ap (λ m. drop m xs) (let e : w + w * n ≡ w * suc n = omega arith in e) in
    ap (λ l. take w xs ∷ l) (chunks_at_suc w n (drop w xs) ∙ ap (λ l. first_chunks w n (drop w xs) ++ take w l ∷ []) on)

-- one piece more
pub first_chunks-more : {X : Type 0} (w n : ℕ) (xs : List X) → first_chunks w (n + 1) xs ≡ first_chunks w n xs ++ take w (drop (w * n) xs) ∷ []
first_chunks-more w n xs = ap (λ m. first_chunks w m xs) (let e : n + 1 ≡ suc n = omega arith in e) ∙ chunks_at_suc w n xs
