-- The phrases are short.
use Rattle.std.proofs.Common.{◌≡◌, ℕ, ◌≤◌, length, sym, subst, arith, inl, inr}
use Rattle.cp_http.specs.Statuses.{IsStatus, phrase}

pub phrase_short : (s : ℕ) → IsStatus s → length (phrase s) ≤ 20
unfolding phrase
phrase_short s h =
    let at : (k : ℕ) → s ≡ k → length (phrase k) ≤ 20 → length (phrase s) ≤ 20 = λ k e p. subst (λ (n : ℕ). length (phrase n) ≤ 20) (sym e) p in
    elim h [
      | inl e ↦ at 200 e (omega arith)
      | inr h ↦ elim h [
        | inl e ↦ at 400 e (omega arith)
        | inr h ↦ elim h [
          | inl e ↦ at 404 e (omega arith)
          | inr h ↦ elim h [
            | inl e ↦ at 405 e (omega arith)
            | inr h ↦ elim h [
              | inl e ↦ at 409 e (omega arith)
              | inr h ↦ elim h [
                | inl e ↦ at 413 e (omega arith)
                | inr h ↦ elim h [
                  | inl e ↦ at 503 e (omega arith)
                  | inr e ↦ at 507 e (omega arith)
                ]
              ]
            ]
          ]
        ]
      ]
    ]

pub ruleset phrases = (phrase_short)
