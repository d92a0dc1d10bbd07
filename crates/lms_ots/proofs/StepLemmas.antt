-- One more step of a chain, and chains one after another.
use Rattle.std.proofs.Common.{◌≡◌, ℕ, suc, ◌+◌, ◌-◌, ◌≤◌, List, ◌∷◌, ◌++◌, add-one, append_assoc, ap, sym, ◌∙◌, arith}
use Rattle.std.proofs.lemmas.List.{append-nil}
use Rattle.sha2.specs.Sha256.{sha256}
use Rattle.lms_ots.specs.Parameters.{max_digit}
use Rattle.lms_ots.specs.Ots.{steps, tagged, chain, coef, y_at, candidate_ends}

pub steps-more : (id : List ℕ) (q i first j : ℕ) (x v m d : List ℕ) → first ≤ j → m ≡ tagged id q i ++ (j ∷ v)
    → v ≡ steps id q i first (j - first) x → d ≡ sha256 m → d ≡ steps id q i first (j + 1 - first) x
unfolding steps
steps-more id q i first j x v m d le m_is v_is d_is =
    let one_more : j + 1 - first ≡ suc (j - first) = omega arith in
    let here : first + (j - first) ≡ j = omega arith in
    rw one_more (rw here (d_is ∙ ap sha256 (m_is ∙ ap (λ y. tagged id q i ++ (j ∷ y)) v_is)))

pub candidate_ends-none : (id : List ℕ) (q w : ℕ) (s sig front : List ℕ) → front ++ candidate_ends id q w s sig 0 ≡ front
unfolding candidate_ends
candidate_ends-none id q w s sig front = append-nil front

pub candidate_ends-more : (id : List ℕ) (q w : ℕ) (s sig front : List ℕ) (i : ℕ) (d : List ℕ) → d ≡ chain id q i (coef s i w) (max_digit w) (y_at sig i)
    → front ++ candidate_ends id q w s sig (i + 1) ≡ front ++ candidate_ends id q w s sig i ++ d
unfolding candidate_ends
candidate_ends-more id q w s sig front i d d_is = rw (add-one, d_is) (sym (append_assoc front (candidate_ends id q w s sig i) _))
