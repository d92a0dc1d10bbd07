-- Segments: the texts that a block's chain gained in an epoch (this project's own). A segment is a
-- number of four bytes and so many parts.
use Rattle.std.specs.Prelude.{ℕ, zero, suc, ◌<◌, ◌^◌, List, [], ◌∷◌, ◌++◌, length, Result, Ok, Err, flat_map}
use Rattle.std.specs.Int.{w32, to_be_bytes}
use Rattle.std.specs.List.{AllByRecursion}
use Rattle.cp_bytes.specs.Fields.{◌>>=◌, field_at, part, part_at, ended, at_offset}
use Rattle.cp_bytes.specs.Fields.Field.{U32}

-- it is short enough to have a length of four bytes
abbrev pub PartFits : List ℕ → Type 0
PartFits bytes = length bytes < 2 ^ 32

abbrev pub SegmentFits : List (List ℕ) → Type 0
SegmentFits texts = (length texts < 2 ^ 32) × AllByRecursion PartFits texts

-- its bytes
unfoldable pub segment_text : List (List ℕ) → List ℕ
segment_text texts = to_be_bytes w32 (length texts) ++ flat_map part texts

-- so many parts in a row, and the bytes after them, or how many bytes were left
unfoldable pub parts_at : ℕ → List ℕ → Result (List (List ℕ) × List ℕ) ℕ
parts_at zero bytes = Ok ([], bytes)
parts_at (suc n) bytes = do
  first ← part_at bytes
  others ← parts_at n first.1
  Ok (first.0 ∷ others.0, others.1)

-- the segment at the front and the bytes after it
unfoldable pub segment_at : List ℕ → Result (List (List ℕ) × List ℕ) ℕ
segment_at bytes = do
  count ← field_at U32 bytes
  parts_at count.0 count.1

-- what all of the bytes spell, or the offset of the first byte that does not fit
unfoldable pub segment_of : List ℕ → Result (List (List ℕ)) ℕ
segment_of bytes = at_offset bytes (segment_at bytes >>= ended)

abbrev pub first_or_none : {A B E : Type 0} → Result (List A × B) E → List A
first_or_none (Ok x) = x.0
first_or_none (Err e) = []

-- so many parts at the front; none where the bytes do not spell them
unfoldable pub parts_in : ℕ → List ℕ → List (List ℕ)
parts_in n bytes = first_or_none (parts_at n bytes)
