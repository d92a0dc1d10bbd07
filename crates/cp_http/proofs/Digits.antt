-- Numbers of 1 to 19 digits.
use Rattle.std.proofs.Common.{◌≡◌, ℕ, ◌+◌, ◌-◌, ◌*◌, ◌^◌, ◌<◌, ◌≤◌, List, [], ◌∷◌, length, take, get_or, arith, zero, suc}
use Rattle.std.specs.Char.{digit_value}
use Rattle.std.specs.Str.Parse.{AllDigits, digits_value}
use Rattle.std.proofs.lemmas.Int.Digits.{digits_value-lt, digits_value_more}
use Rattle.std.proofs.lemmas.Str.Parse.{digits_value-take-le, digit_from_value}
use Rattle.std.proofs.lemmas.Str.{digit_value_digit}
use Rattle.std.proofs.Math.Nat.{pow-le-pow_right}

-- a digit of a numeral
pub digit_at : (ds : List ℕ) (i : ℕ) → AllDigits 10 ds → i < length ds → digit_value (get_or ds i 0) < 10
digit_at [] i h lt = absurd (omega arith)
digit_at (d ∷ ds) zero h lt = h.0
digit_at (d ∷ ds) (suc i) h lt = digit_at ds i h.1 (omega arith)

-- one digit more
pub record NextDigit (ds : List ℕ) (i v : ℕ) : Type 0 where
  pub digit : 48 ≤ get_or ds i 0
  pub next : v * 10 + (get_or ds i 0 - 48) ≡ digits_value 10 (take (i + 1) ds)
  pub small : v * 10 + (get_or ds i 0 - 48) < 18446744073709551616

pub next_digit : (ds : List ℕ) (i v : ℕ) → AllDigits 10 ds → length ds ≤ 19 → i < length ds → v ≡ digits_value 10 (take i ds) → NextDigit ds i v
next_digit ds i v all short lt is =
    let below = digit_at ds i all lt in
    let range = digit_from_value (get_or ds i 0) below in
    let value : digit_value (get_or ds i 0) + 48 ≡ get_or ds i 0 = digit_value_digit (get_or ds i 0) range in
    let more : digits_value 10 (take (i + 1) ds) ≡ digits_value 10 (take i ds) * 10 + digit_value (get_or ds i 0) = digits_value_more 10 ds i lt in
    let next : v * 10 + (get_or ds i 0 - 48) ≡ digits_value 10 (take (i + 1) ds) = omega (arith, value, more, is) in
    let most : digits_value 10 (take (i + 1) ds) ≤ digits_value 10 ds = digits_value-take-le 10 ds (i + 1) (omega arith) in
    let under : digits_value 10 ds < 10 ^ length ds = digits_value-lt 10 ds all in
    let power : 10 ^ length ds ≤ 10 ^ 19 = pow-le-pow_right {n = 10} (omega arith) {i = length ds} {j = 19} short in
    record { digit = omega (arith, value); next = next; small = omega (arith, next, most, under, power) }
