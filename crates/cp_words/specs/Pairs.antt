-- Words that are pairs of a name and a value (this project's own).
use Rattle.std.specs.Prelude.{ℕ, Bool, true, false, not, ◌&&◌, ◌==◌, List, [], ◌∷◌, Option, Some, None, is_none, bytes_eq, if◌then◌else◌}
use Rattle.std.specs.List.{slice_split, list_any}

-- the names in a text, which are parted by single spaces
abbrev pub names_in : List ℕ → List (List ℕ)
names_in text = slice_split (λ byte. byte == 32) text

-- the name is one of them
unfoldable pub is_among : List (List ℕ) → List ℕ → Bool
is_among names name = list_any (λ one. bytes_eq one name) names

-- a value is not empty and does not begin with a dash
abbrev pub is_value : List ℕ → Bool
is_value [] = false
is_value (first ∷ others) = not (first == 45)

-- the value that follows the name, if the words have it
unfoldable pub value_in : List (List ℕ) → List ℕ → Option (List ℕ)
value_in (first ∷ (value ∷ others)) name = if bytes_eq first name then Some value else value_in others name
value_in (first ∷ []) name = None
value_in [] name = None

-- the words are pairs of one of these names and a value, and no name comes twice
unfoldable pub are_pairs : List (List ℕ) → List (List ℕ) → Bool
are_pairs names (name ∷ (value ∷ others)) = is_among names name && is_value value && is_none (value_in others name) && are_pairs names others
are_pairs names (name ∷ []) = false
are_pairs names [] = true

-- the words, where they are such pairs
abbrev pub pairs_of : List (List ℕ) → List (List ℕ) → Option (List (List ℕ))
pairs_of names words = if are_pairs names words then Some words else None
