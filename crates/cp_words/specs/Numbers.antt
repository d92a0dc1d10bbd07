-- Numbers as words spell them (this project's own).
use Rattle.std.specs.Prelude.{ℕ, ◌&&◌, List, Option, Some, None, bytes_eq, decimal, nat_le, if◌then◌else◌}
use Rattle.std.specs.Str.Parse.{digits_value}

-- The number from `least` to `most` that the text spells in decimal digits, without a sign and without
-- leading zeros. So the text is the one spelling of the value of its digits.
unfoldable pub number_in : ℕ → ℕ → List ℕ → Option ℕ
number_in least most text =
    if bytes_eq text (decimal (digits_value 10 text)) && nat_le least (digits_value 10 text) && nat_le (digits_value 10 text) most
    then Some (digits_value 10 text) else None
