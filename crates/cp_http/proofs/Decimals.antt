-- Decimal numbers, a digit at a time.
use Rattle.std.proofs.Common.{◌≡◌, ℕ, ◌+◌, ◌/◌, ◌%◌, ◌<◌, ◌≤◌, [], ◌∷◌, ◌++◌, length, ap, ◌∙◌, arith, length-append}
use Rattle.std.specs.Fmt.{decimal}
use Rattle.std.proofs.lemmas.Fmt.{decimal_step}
use Rattle.std.proofs.lemmas.Fmt.{decimal_digit, length-decimal-le}

pub step : (n : ℕ) → 10 ≤ n → n < 18446744073709551616 → decimal n ≡ decimal (n / 10) ++ (48 + n % 10) ∷ []
step n h small = decimal_step n h small

pub shorter : (n : ℕ) → 10 ≤ n → n < 18446744073709551616 → length (decimal n) ≡ length (decimal (n / 10)) + 1
shorter n h small = ap length (decimal_step n h small) ∙ length-append (decimal (n / 10)) ((48 + n % 10) ∷ [])

pub one : (n : ℕ) → n < 10 → decimal n ≡ (48 + n) ∷ []
one n h = decimal_digit n h

pub bounded : (n : ℕ) → n < 18446744073709551616 → length (decimal n) ≤ 20
bounded n h = length-decimal-le 20 n (omega arith) (omega arith) h

pub ruleset decimals = (step, shorter, one)

pub ruleset bounds = (bounded)
