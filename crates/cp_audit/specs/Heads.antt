-- The heads of a segment's chain.
use Rattle.std.specs.Prelude.{ℕ, ◌+◌, Bool, ◌&&◌, List, [], ◌∷◌, take, bytes_eq}
use Rattle.cp_bytes.specs.Hashes.{head, head_after}
use Rattle.cp_statements.specs.Attestation.{Attestation}
use Rattle.cp_statements.specs.Entry.{entry_of}
use Rattle.cp_chain.specs.Legal.{ok_and}
use Rattle.cp_chain.specs.Rules.{text_at}
use Rattle.cp_chain.specs.Standing.{says_the_same}

-- the head before each text, from this one on, and the last one
abbrev pub heads_from : List ℕ → List (List ℕ) → List (List ℕ)
heads_from prev [] = prev ∷ []
heads_from prev (text ∷ texts) = prev ∷ heads_from (head prev text) texts

-- the attestation is of the text at the place
abbrev pub stands_at : List ℕ → List (List ℕ) → Attestation → ℕ → Bool
stands_at first texts a place = ok_and (entry_of (text_at texts place)) (says_the_same a)
    && (bytes_eq a.prev (head_after first (take place texts)) && bytes_eq a.head (head_after first (take (place + 1) texts)))
