-- Where the words of the places stand in the table. All of it is this project's own.
use Rattle.std.specs.Prelude.{◌≡◌, ℕ, zero, suc, ◌*◌, List, [], ◌∷◌, length, slice_index}
use Rattle.atomic_table.specs.Table.{State, Me, Step}

-- the word of a place: every sixteenth, so that those of two places stand 128 bytes apart
abbrev pub word_of : ℕ → ℕ
word_of place = 16 * place

-- the words of n places, from the place k on
abbrev pub words_from : List ℕ → ℕ → ℕ → List ℕ
words_from words k zero = []
words_from words k (suc n) = slice_index words (word_of k) ∷ words_from words (suc k) n

module _ {S V : Type 0} where
  -- the table as if it had the words of so many places alone
  abbrev pub of_places : ℕ → State S V → State S V
  of_places places s = record { words = words_from s.words 0 places; homes = s.homes; views = s.views }

  -- A rule of the words of so many places, where other words stand between them.
  pub record Spaced (places : ℕ) (rule : State S V → Type 0) (s : State S V) : Type 0 where
    pub wide : length s.words ≡ word_of places
    pub kept : rule (of_places places s)

  -- what a step on the word of a place tells of the place
  abbrev pub AtPlace : (Step S → Me S V → ℕ → Me S V → Type 0) → Step S → Me S V → ℕ → Me S V → Type 0
  AtPlace tells st m n m' = (place : ℕ) → st.word ≡ word_of place → tells (record st { word = place }) m n m'
