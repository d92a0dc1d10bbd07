-- What holds of the types' codes.
use Rattle.std.proofs.Common.{◌≡◌, inl, inr, ℕ, ◌≤◌, refl, subst, arith}
use Rattle.std.proofs.lemmas.Bool.Decides.{nat_tests}
use Rattle.std.proofs.lemmas.Bool.{cases_lt}
use Rattle.std.specs.Prelude.{IsTrue, Bool, true, false, ◌&&◌, nat_le}
use Rattle.lms_ots.specs.declared.ots_type.OtsType.{OtsType}
use Rattle.lms_ots.specs.declared.ots_type.OtsType.TheVariants.{W1, W2, W4, W8}
use Rattle.lms_ots.specs.Parameters.{code_of, is_ots_code, ots_of}
use Rattle.lms_tree.specs.declared.lms_type.LmsType.{LmsType}
use Rattle.lms_tree.specs.declared.lms_type.LmsType.TheVariants.{H5, H10, H15, H20, H25}
use Rattle.lms_tree.specs.Parameters.{lms_code_of, is_lms_code, lms_of}

pub has_ots_code : (t : OtsType) → IsTrue (is_ots_code (code_of t))
has_ots_code W1 = refl
has_ots_code W2 = refl
has_ots_code W4 = refl
has_ots_code W8 = refl

pub has_lms_code : (t : LmsType) → IsTrue (is_lms_code (lms_code_of t))
has_lms_code H5 = refl
has_lms_code H10 = refl
has_lms_code H15 = refl
has_lms_code H20 = refl
has_lms_code H25 = refl

pub le_true : (a b : ℕ) → a ≤ b → IsTrue (nat_le a b)
le_true a b le = grind (arith, nat_tests)

both_true : (a b : Bool) → IsTrue (a && b) → IsTrue a × IsTrue b
both_true true true h = (refl, refl)
both_true true false h = cc
both_true false b h = cc

pub le_tells : (a b : ℕ) → IsTrue (nat_le a b) → a ≤ b
le_tells a b is = grind (arith, nat_tests)

pub code_of-ots_of : (code : ℕ) → IsTrue (is_ots_code code) → code_of (ots_of code) ≡ code
code_of-ots_of code is =
    let parts : IsTrue (nat_le 1 code) × IsTrue (nat_le code 4) = both_true _ _ is in
    let low : 1 ≤ code = le_tells 1 code parts.0 in
    let high : code ≤ 4 = le_tells code 4 parts.1 in
    let P : ℕ → Type 0 = λ n. code_of (ots_of n) ≡ n in
    elim (cases_lt code 2) [
      | inl below ↦ let here : 1 ≡ code = omega arith in subst P here refl
      | inr above2 ↦ elim (cases_lt code 3) [
        | inl below ↦ let here : 2 ≡ code = omega arith in subst P here refl
        | inr above3 ↦ elim (cases_lt code 4) [
          | inl below ↦ let here : 3 ≡ code = omega arith in subst P here refl
          | inr above4 ↦ let here : 4 ≡ code = omega arith in subst P here refl
        ]
      ]
    ]

pub lms_code_of-lms_of : (code : ℕ) → IsTrue (is_lms_code code) → lms_code_of (lms_of code) ≡ code
lms_code_of-lms_of code is =
    let parts : IsTrue (nat_le 5 code) × IsTrue (nat_le code 9) = both_true _ _ is in
    let low : 5 ≤ code = le_tells 5 code parts.0 in
    let high : code ≤ 9 = le_tells code 9 parts.1 in
    let P : ℕ → Type 0 = λ n. lms_code_of (lms_of n) ≡ n in
    elim (cases_lt code 6) [
      | inl below ↦ let here : 5 ≡ code = omega arith in subst P here refl
      | inr above6 ↦ elim (cases_lt code 7) [
        | inl below ↦ let here : 6 ≡ code = omega arith in subst P here refl
        | inr above7 ↦ elim (cases_lt code 8) [
          | inl below ↦ let here : 7 ≡ code = omega arith in subst P here refl
          | inr above8 ↦ elim (cases_lt code 9) [
            | inl below ↦ let here : 8 ≡ code = omega arith in subst P here refl
            | inr above9 ↦ let here : 9 ≡ code = omega arith in subst P here refl
          ]
        ]
      ]
    ]
