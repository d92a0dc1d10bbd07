-- The names in a text, one after another.
use Rattle.std.proofs.Common.{◌≡◌, ℕ, ◌<◌, List, [], ◌∷◌, length, get_or, ◌==◌, Bool, true, false, All, refl, arith}
use Rattle.std.specs.Prelude.{not}
use Rattle.std.specs.List.{position_or_len, before_first, after_first}
use Rattle.std.proofs.lemmas.List.Splits.{slice_split_none, slice_split_first}
use Rattle.std.proofs.lemmas.List.Sums.{prefix_len_passes}
use Rattle.cp_words.specs.Pairs.{names_in}

abbrev is_space : ℕ → Bool
is_space = λ byte. byte == 32

-- the first name and the others
pub names_in_first : (text : List ℕ) → position_or_len is_space text < length text
    → names_in text ≡ before_first is_space text ∷ names_in (after_first is_space text)
names_in_first text inside = slice_split_first is_space text 0 inside

-- no byte passes where none is found
none_passes : (p : ℕ → Bool) (xs : List ℕ) → position_or_len p xs ≡ length xs → All (λ x. p x ≡ false) xs
none_passes p xs e k d inside = not_true (p (get_or xs k d)) (prefix_len_passes (λ x. not (p x)) xs k d (omega (arith, e, inside)))
  where
    not_true : (b : Bool) → not b ≡ true → b ≡ false
    not_true true e = absurd cc
    not_true false e = refl

-- the only name
pub names_in_one : (text : List ℕ) → position_or_len is_space text ≡ length text → names_in text ≡ text ∷ []
names_in_one text e = slice_split_none is_space text (none_passes is_space text e)

pub ruleset among = (names_in_first, names_in_one)
