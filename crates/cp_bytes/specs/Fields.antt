-- Texts as rows of fields, in the words of the formats' tables (this project's own). A form is a
-- list of fields, and it gives both directions at once: the one spelling of a value, and the
-- reading of bytes. A reading that fails tells how many bytes were left where the first field
-- did not fit; the offset is taken once, for the whole text.
use Rattle.std.specs.Prelude.{ℕ, ◌-◌, ◌<◌, ◌^◌, ◌≡◌, ◌≤◌, ◌&&◌, List, [], ◌∷◌, ◌++◌, length, take, drop, Option, Some, None, Result, Ok, Err, nat_lt, nat_le, ◌==◌, if◌then◌else◌, bytes_eq, slice_index}
use Rattle.std.specs.Int.{w32, w64, from_be_bytes, to_be_bytes}

-- the numbers are bytes
abbrev pub IsBytes : List ℕ → Type 0
IsBytes bytes = (i : ℕ) → slice_index bytes i < 256

-- ---- one field

-- a field of a text
pub data Field : Type 0 where
  Tag : List ℕ → Field  -- these bytes
  Byte : Field  -- a number of one byte
  Kind : Field  -- a byte, 1 for a put and 2 for a get
  U32 : Field  -- a number of four bytes, big endian
  U64 : Field  -- a number of eight bytes, big endian
  Epoch : Field  -- a number of eight bytes that is at least 1
  Raw : ℕ → Field  -- so many bytes

-- what a field holds
abbrev pub ValueOf : Field → Type 0
ValueOf (Tag t) = Unit {0}
ValueOf Byte = ℕ
ValueOf Kind = ℕ
ValueOf U32 = ℕ
ValueOf U64 = ℕ
ValueOf Epoch = ℕ
ValueOf (Raw n) = List ℕ

-- its length in bytes
abbrev pub size_of : Field → ℕ
size_of (Tag t) = length t
size_of Byte = 1
size_of Kind = 1
size_of U32 = 4
size_of U64 = 8
size_of Epoch = 8
size_of (Raw n) = n

-- the values that it may hold
abbrev pub FieldFits : (f : Field) → ValueOf f → Type 0
FieldFits (Tag t) v = Unit {0}
FieldFits Byte v = v < 2 ^ 8
FieldFits Kind v = (1 ≤ v) × (v ≤ 2)
FieldFits U32 v = v < 2 ^ 32
FieldFits U64 v = v < 2 ^ 64
FieldFits Epoch v = (1 ≤ v) × (v < 2 ^ 64)
FieldFits (Raw n) v = length v ≡ n

-- its bytes, for a value
abbrev pub spell_field : (f : Field) → ValueOf f → List ℕ
spell_field (Tag t) v = t
spell_field Byte v = v ∷ []
spell_field Kind v = v ∷ []
spell_field U32 v = to_be_bytes w32 v
spell_field U64 v = to_be_bytes w64 v
spell_field Epoch v = to_be_bytes w64 v
spell_field (Raw n) v = v

-- its value, for so many bytes
abbrev pub parse_field : (f : Field) → List ℕ → Option (ValueOf f)
parse_field (Tag t) bytes = if bytes_eq bytes t then Some tt else None
parse_field Byte bytes = Some (slice_index bytes 0)
parse_field Kind bytes = if nat_le 1 (slice_index bytes 0) && nat_le (slice_index bytes 0) 2 then Some (slice_index bytes 0) else None
parse_field U32 bytes = Some (from_be_bytes w32 bytes)
parse_field U64 bytes = Some (from_be_bytes w64 bytes)
parse_field Epoch bytes = if nat_le 1 (from_be_bytes w64 bytes) then Some (from_be_bytes w64 bytes) else None
parse_field (Raw n) bytes = Some bytes

-- ---- steps of a reading

-- a step after a step: the first one that fails decides
infixl 10 ◌>>=◌
abbrev pub ◌>>=◌ : {A B E : Type 0} → Result A E → (A → Result B E) → Result B E
(Ok x) >>= f = f x
(Err e) >>= f = Err e

-- the value, or the number of bytes that were left
abbrev pub or_left : {A : Type 0} → List ℕ → Option A → Result A ℕ
or_left bytes None = Err (length bytes)
or_left bytes (Some x) = Ok x

-- a field at the front: its value and the bytes after it, or how many bytes were left
unfoldable pub field_at : (f : Field) → List ℕ → Result (ValueOf f × List ℕ) ℕ
field_at f bytes = if nat_lt (length bytes) (size_of f) then Err (length bytes)
    else (or_left bytes (parse_field f (take (size_of f) bytes)) >>= λ v. Ok (v, drop (size_of f) bytes))

-- nothing is left
abbrev pub ended : {A : Type 0} → A × List ℕ → Result A ℕ
ended x = if length x.1 == 0 then Ok x.0 else Err (length x.1)

-- the offset of the first byte that does not fit, where so many bytes of a text were left there
abbrev pub at_offset : {A : Type 0} → List ℕ → Result A ℕ → Result A ℕ
at_offset bytes (Ok x) = Ok x
at_offset bytes (Err left) = Err (length bytes - left)

-- ---- a form

-- the values of all fields, in order
abbrev pub Values : List Field → Type 0
Values [] = Unit {0}
Values (f ∷ fs) = ValueOf f × Values fs

-- each value may stand in its field
abbrev pub Fit : (fs : List Field) → Values fs → Type 0
Fit [] vs = Unit {0}
Fit (f ∷ fs) vs = FieldFits f vs.0 × Fit fs vs.1

-- the bytes of all fields
unfoldable pub spell : (fs : List Field) → Values fs → List ℕ
spell [] vs = []
spell (f ∷ fs) vs = spell_field f vs.0 ++ spell fs vs.1

-- all fields at the front: their values and the bytes after them, or how many bytes were left
unfoldable pub fields_at : (fs : List Field) → List ℕ → Result (Values fs × List ℕ) ℕ
fields_at [] bytes = Ok (tt, bytes)
fields_at (f ∷ fs) bytes = do
  first ← field_at f bytes
  others ← fields_at fs first.1
  Ok ((first.0, others.0), others.1)

-- all of the bytes: their values, or the offset of the first byte that does not fit
unfoldable pub read_fields : (fs : List Field) → List ℕ → Result (Values fs) ℕ
read_fields fs bytes = at_offset bytes (fields_at fs bytes >>= ended)

-- ---- a part: four bytes of length, and that many bytes

-- its bytes
abbrev pub part : List ℕ → List ℕ
part bytes = to_be_bytes w32 (length bytes) ++ bytes

-- The part at the front and the bytes after it. The length and the bytes that it counts are two
-- fields: where the bytes end too early the second one does not fit.
unfoldable pub part_at : List ℕ → Result (List ℕ × List ℕ) ℕ
part_at bytes = do
  n ← field_at U32 bytes
  field_at (Raw n.0) n.1
