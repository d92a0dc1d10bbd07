-- What a key signed, as envelopes, one after another to the end (this project's own).
use Rattle.std.specs.Prelude.{ℕ, zero, suc, List, [], ◌∷◌, ◌++◌, length, Bool, false, not, Option, Some, None, Result, Ok, Err, bytes_eq, nat_lt, ◌==◌, if◌then◌else◌}
use Rattle.cp_bytes.specs.Fields.{◌>>=◌, at_offset, or_left}
use Rattle.cp_statements.specs.Envelope.{Envelope, envelope_at, leaf_named}
use Rattle.lms_forge.specs.Pairs.{text_at}

abbrev pub with_leaf : ℕ → List ℕ → Option ℕ → Option (ℕ × List ℕ)
with_leaf leaves text None = None
with_leaf leaves text (Some leaf) = if nat_lt leaf leaves then Some (leaf, text) else None

-- the pair of an envelope, whose leaf is one of so many
abbrev pub pair_in : ℕ → Envelope → Option (ℕ × List ℕ)
pair_in leaves x = with_leaf leaves x.text (leaf_named x.signature)

-- The pair at the front and the bytes after it. An envelope by another leaf does not fit at its own first
-- byte.
unfoldable pub pair_at : ℕ → List ℕ → Result ((ℕ × List ℕ) × List ℕ) ℕ
pair_at leaves bytes = do
  x ← envelope_at bytes
  pair ← or_left bytes (pair_in leaves x.0)
  Ok (pair, x.1)

-- pairs to the end; the number bounds the recursion, and the number of bytes is enough
unfoldable pub pairs_at : ℕ → ℕ → List ℕ → Result (List (ℕ × List ℕ)) ℕ
pairs_at leaves zero bytes = if length bytes == 0 then Ok [] else Err (length bytes)
pairs_at leaves (suc n) bytes = if length bytes == 0 then Ok [] else (do
  first ← pair_at leaves bytes
  others ← pairs_at leaves n first.1
  Ok (first.0 ∷ others))

-- what all of the bytes spell, or the offset of the first byte that does not fit
unfoldable pub pairs_of : ℕ → List ℕ → Result (List (ℕ × List ℕ)) ℕ
pairs_of leaves bytes = at_offset bytes (pairs_at leaves (length bytes) bytes)

-- ---- a leaf with two texts

-- the leaf has a text, which is another one
abbrev pub is_other : Option (List ℕ) → List ℕ → Bool
is_other None text = false
is_other (Some known) text = not (bytes_eq known text)

abbrev pub first_of : Option ℕ → Option ℕ → Option ℕ
first_of None later = later
first_of (Some leaf) later = Some leaf

-- its leaf, where an earlier pair gives it another text
abbrev pub used_by : List (ℕ × List ℕ) → ℕ × List ℕ → Option ℕ
used_by before pair = if is_other (text_at before pair.0) pair.1 then Some pair.0 else None

-- the leaf of the first pair whose leaf has another text before it
unfoldable pub clash : List (ℕ × List ℕ) → List (ℕ × List ℕ) → Option ℕ
clash before [] = None
clash before (pair ∷ pairs) = first_of (used_by before pair) (clash (before ++ pair ∷ []) pairs)
