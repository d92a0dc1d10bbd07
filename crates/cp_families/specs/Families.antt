-- Families lists: which client's key may write which family of blocks (this project's own). A list
-- is the tag "CPf1", four bytes of number of rows, and rows of 64 bytes.
use Rattle.std.specs.Prelude.{ℕ, zero, suc, ◌^◌, ◌<◌, ◌≡◌, flat_map, Bool, true, ◌&&◌, ◌||◌, List, [], ◌∷◌, ◌++◌, length, Option, Some, None, Result, Ok, Err, nat_lt, ◌==◌, if◌then◌else◌, codes}
use Rattle.std.specs.Int.{w32, to_be_bytes}
use Rattle.std.specs.List.{AllByRecursion}
use Rattle.cp_bytes.specs.Fields.{◌>>=◌, field_at, ended, at_offset}
use Rattle.cp_bytes.specs.Fields.Field.{Tag, U32, Raw}
use Rattle.lms_tree.specs.PublicKey.{key_reads}

pub record FamilyRow : Type 0 where
  pub family : ℕ
  pub client : ℕ
  pub key : List ℕ  -- an LMS public key of 56 bytes

-- family and client come after those of the row before
abbrev pub comes_after : Option FamilyRow → ℕ → ℕ → Bool
comes_after None family client = true
comes_after (Some r) family client = nat_lt r.family family || ((r.family == family) && nat_lt r.client client)

-- A row at the front, behind the row before. The order is judged as soon as family and client are
-- there, and a row that breaks it is refused at its first byte; the key is one field.
unfoldable pub family_row_at : Option FamilyRow → List ℕ → Result (FamilyRow × List ℕ) ℕ
family_row_at before bytes = do
  family ← field_at U32 bytes
  client ← field_at U32 family.1
  key ← (if comes_after before family.0 client.0 then field_at (Raw 56) client.1 else Err (length bytes))
  if key_reads key.0 then Ok (record { family = family.0; client = client.0; key = key.0 }, key.1) else Err (length client.1)

-- so many rows
unfoldable pub family_rows_at : ℕ → Option FamilyRow → List ℕ → Result (List FamilyRow × List ℕ) ℕ
family_rows_at zero before bytes = Ok ([], bytes)
family_rows_at (suc n) before bytes = do
  first ← family_row_at before bytes
  others ← family_rows_at n (Some first.0) first.1
  Ok (first.0 ∷ others.0, others.1)

-- the rows that all of the bytes spell, or the offset of the first byte that does not fit
unfoldable pub families_of : List ℕ → Result (List FamilyRow) ℕ
families_of bytes = at_offset bytes (do
  tag ← field_at (Tag (codes "CPf1")) bytes
  count ← field_at U32 tag.1
  rows ← family_rows_at count.0 None count.1
  ended rows)

-- each row comes after the one before it
abbrev pub family_ascends : Option FamilyRow → List FamilyRow → Bool
family_ascends before [] = true
family_ascends before (r ∷ rs) = comes_after before r.family r.client && family_ascends (Some r) rs

abbrev pub FamilyRowFits : FamilyRow → Type 0
FamilyRowFits r = (r.family < 2 ^ 32) × (r.client < 2 ^ 32) × (length r.key ≡ 56) × (key_reads r.key ≡ true)

abbrev pub FamiliesFit : List FamilyRow → Type 0
FamiliesFit rows = (length rows < 2 ^ 32) × (family_ascends None rows ≡ true) × AllByRecursion FamilyRowFits rows

unfoldable pub family_text : FamilyRow → List ℕ
family_text r = to_be_bytes w32 r.family ++ (to_be_bytes w32 r.client ++ r.key)

-- its bytes
unfoldable pub families_text : List FamilyRow → List ℕ
families_text rows = codes "CPf1" ++ (to_be_bytes w32 (length rows) ++ flat_map family_text rows)

-- the key of a client in a family, if there is such a row
abbrev pub key_of : List FamilyRow → ℕ → ℕ → Option (List ℕ)
key_of [] family client = None
key_of (r ∷ rs) family client = if (r.family == family) && (r.client == client) then Some r.key else key_of rs family client
