-- Numbers as options give them (this project's own).
use Rattle.std.specs.Prelude.{ℕ, List, Option, Some, None}
use Rattle.cp_words.specs.Numbers.{number_in}

-- the number from `least` to `most` that is given, if one is
abbrev pub number_given : ℕ → ℕ → Option (List ℕ) → Option ℕ
number_given least most None = None
number_given least most (Some text) = number_in least most text
