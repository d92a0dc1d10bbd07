-- The words of a script's line (this project's own).
use Rattle.std.specs.Prelude.{ℕ, Bool, ◌&&◌, List, [], ◌∷◌, length, Option, Some, None, nat_le, ◌==◌, if◌then◌else◌}
use Rattle.std.specs.List.{slice_split, list_all}
use Rattle.cp_words.specs.Numbers.{number_in}

-- what was read, and what is left after it
abbrev pub with_rest : {A B : Type 0} → B → Option A → Option (A × B)
with_rest rest None = None
with_rest rest (Some x) = Some (x, rest)

abbrev pub is_space : ℕ → Bool
is_space byte = byte == 32

-- the words of a line, which are parted by one space each
abbrev pub words_in : List ℕ → List (List ℕ)
words_in text = slice_split is_space text

-- the number that the first word spells, and the words behind it
abbrev pub number_at : ℕ → ℕ → List (List ℕ) → Option (ℕ × List (List ℕ))
number_at least most [] = None
number_at least most (word ∷ words) = with_rest words (number_in least most word)

-- printable ASCII without space
abbrev pub is_printable : ℕ → Bool
is_printable byte = nat_le 33 byte && nat_le byte 126

-- a content has 1 to 65,536 of them
abbrev pub is_content : List ℕ → Bool
is_content word = nat_le 1 (length word) && nat_le (length word) 65536 && list_all is_printable word

unfoldable pub content_of : List ℕ → Option (List ℕ)
content_of word = if is_content word then Some word else None

-- the content that the first word is, and the words behind it
abbrev pub content_at : List (List ℕ) → Option (List ℕ × List (List ℕ))
content_at [] = None
content_at (word ∷ words) = with_rest words (content_of word)

-- what was read, where no word is left
abbrev pub only : {A : Type 0} → A → List (List ℕ) → Option A
only x words = if length words == 0 then Some x else None
