-- Numbers as words spell them: what the reading gives is what the definition says.
use Rattle.std.proofs.Common.{◌≡◌, ℕ, ◌<◌, ◌≤◌, ◌^◌, Bool, true, false, List, Some, None, refl, ap, ◌∙◌, arith}
use Rattle.std.specs.Prelude.{◌≢◌, decimal, bytes_eq, nat_le}
use Rattle.std.specs.Str.Parse.{digits_value}
use Rattle.std.proofs.lemmas.Bool.{le-leb, leb-true}
use Rattle.std.proofs.lemmas.Fmt.{decimal_is_IsNumeral}
use Rattle.std.proofs.lemmas.Slice.Eq.{bytes_eq-Decides}
use Rattle.cp_words.specs.Numbers.{number_in}

-- a text that spells a number is read as that number
pub number_some : (least most n : ℕ) (text : List ℕ) → text ≡ decimal n → least ≤ n → n ≤ most → most < 2 ^ 64 → number_in least most text ≡ Some n
unfolding number_in
number_some least most n text is low high fits =
    let value : digits_value 10 text ≡ n = ap (digits_value 10) is ∙ (decimal_is_IsNumeral n (omega arith)).1 in
    let spelled : bytes_eq text (decimal n) ≡ true = (bytes_eq-Decides text (decimal n)).1 is in
    rw (value, spelled, le-leb least n low, le-leb n most high) refl

-- a text that spells none is read as none
pub number_none : (least most : ℕ) (text : List ℕ) → ((n : ℕ) → least ≤ n → n ≤ most → text ≢ decimal n) → number_in least most text ≡ None
unfolding number_in
number_none least most text none = go (bytes_eq text (decimal (digits_value 10 text))) (nat_le least (digits_value 10 text)) (nat_le (digits_value 10 text) most) refl refl refl
  where
    go : (a b c : Bool) → bytes_eq text (decimal (digits_value 10 text)) ≡ a → nat_le least (digits_value 10 text) ≡ b → nat_le (digits_value 10 text) most ≡ c → number_in least most text ≡ None
    go false b c ae be ce = rw ae refl
    go true false c ae be ce = rw (ae, be) refl
    go true true false ae be ce = rw (ae, be, ce) refl
    go true true true ae be ce = absurd (none (digits_value 10 text) (leb-true _ _ be) (leb-true _ _ ce) ((bytes_eq-Decides text (decimal (digits_value 10 text))).0 ae))

pub ruleset numbers_given = (number_some, number_none)
