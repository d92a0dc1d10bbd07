-- Four messages side by side, this project's own: a word of a state is a vector, with one lane for
-- each message.
use Rattle.std.specs.Prelude.{ℕ, List, map, slice_index}

-- the words of the message in lane j
abbrev pub lane : ℕ → List (List ℕ) → List ℕ
lane j words = map (λ v. slice_index v j) words
