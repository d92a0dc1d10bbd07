-- The first word of a line, and its other words.
use Rattle.std.proofs.Common.{◌≡◌, ℕ, ◌+◌, ◌-◌, List, [], ◌∷◌, length, get_or, take, drop, ◌==◌, Bool, true, false, All, Some, None, refl, length-drop, arith}
use Rattle.std.specs.Prelude.{not}
use Rattle.std.specs.List.{position, position_or_len}
use Rattle.std.proofs.lemmas.List.Splits.{slice_split_none, slice_split_first, length-slice_split}
use Rattle.std.proofs.lemmas.Bool.{ne_eqb}
use Rattle.std.proofs.lemmas.List.Sums.{prefix_len_passes}
use Rattle.std.proofs.lemmas.List.{take_all}
use Rattle.cp_replay.proofs.Found.{at_position, no_position}
use Rattle.cp_replay.specs.Words.{is_space, words_in}

-- no byte passes where none is found
none_passes : (p : ℕ → Bool) (xs : List ℕ) → position_or_len p xs ≡ length xs → All (λ x. p x ≡ false) xs
none_passes p xs e k d inside = not_true (p (get_or xs k d)) (prefix_len_passes (λ x. not (p x)) xs k d (omega (arith, e, inside)))
  where
    not_true : (b : Bool) → not b ≡ true → b ≡ false
    not_true true e = absurd cc
    not_true false e = refl

-- the only word
words_one : (text : List ℕ) → position_or_len is_space text ≡ length text → words_in text ≡ text ∷ []
words_one text e = slice_split_none is_space text (none_passes is_space text e)

-- there is a word
pub some_words : (text : List ℕ) → (length (words_in text) == 0) ≡ false
some_words text = ne_eqb (length (words_in text)) 0 (λ e. omega (arith, length-slice_split is_space text))

-- the first word and the others
pub words_at : (text : List ℕ) (end : ℕ) → position is_space text ≡ Some end → words_in text ≡ take end text ∷ words_in (take (length text - (end + 1)) (drop (end + 1) text))
words_at text end e =
    let w = at_position is_space text end e in
    let rest : take (length text - (end + 1)) (drop (end + 1) text) ≡ drop (end + 1) text = take_all (length text - (end + 1)) (drop (end + 1) text) (omega (arith, length-drop (end + 1) text)) in
    rw rest (rw (← w.0) (slice_split_first is_space text 0 w.1))

pub words_none : (text : List ℕ) → position is_space text ≡ None → words_in text ≡ text ∷ []
words_none text e = words_one text (no_position is_space text e)

pub ruleset splits = (words_at, words_none, some_words)
