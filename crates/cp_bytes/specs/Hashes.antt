-- Digests and the hash chain of a block (this project's own, over SHA-256 of FIPS 180-4).
use Rattle.std.specs.Prelude.{ℕ, ◌≡◌, List, [], ◌∷◌, ◌++◌, codes, replicate}
use Rattle.std.specs.Int.{w64, to_be_bytes}
use Rattle.sha2.specs.Sha256.{sha256}

-- 32 zero bytes, which stand where there is no hash
abbrev pub zero_hash : List ℕ
zero_hash = replicate 32 0

-- the head of a block's chain before its first entry
unfoldable pub genesis : ℕ → List ℕ
genesis block = sha256 (codes "CPg0" ++ to_be_bytes w64 block)

-- the text whose digest is the head after one more entry
abbrev pub chain_text : List ℕ → List ℕ → List ℕ
chain_text prev entry = codes "CPch" ++ prev ++ entry

-- the head after one more entry
unfoldable pub head : List ℕ → List ℕ → List ℕ
head prev entry = sha256 (chain_text prev entry)

-- the head after these entries, from the head before them
abbrev pub head_after : List ℕ → List (List ℕ) → List ℕ
head_after prev [] = prev
head_after prev (entry ∷ entries) = head_after (head prev entry) entries

-- the texts that are hashed on that way
abbrev pub chain_texts : List ℕ → List (List ℕ) → List (List ℕ)
chain_texts prev [] = []
chain_texts prev (entry ∷ entries) = chain_text prev entry ∷ chain_texts (head prev entry) entries

-- no two different texts with P have one digest
abbrev pub CollisionFree : (List ℕ → Type 0) → Type 0
CollisionFree P = (a b : List ℕ) → P a → P b → sha256 a ≡ sha256 b → a ≡ b
