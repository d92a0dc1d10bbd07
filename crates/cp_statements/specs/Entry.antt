-- Entries of a block's chain (this project's own).
use Rattle.std.specs.Prelude.{ℕ, ◌<◌, ◌^◌, ◌≡◌, List, [], ◌∷◌, ◌++◌, length, Result, Ok, ◌==◌, if◌then◌else◌, codes}
use Rattle.cp_bytes.specs.Fields.{Field, Values, Fit, ◌>>=◌, fields_at, part, part_at, ended, at_offset}
use Rattle.cp_bytes.specs.Fields.Field.{Tag, Kind, Epoch, U64, U32, Raw}
use Rattle.cp_statements.specs.Tagged.{uncurry, tagged_text}

pub record Entry : Type 0 where
  pub kind : ℕ  -- 1 for a put, 2 for a get
  pub epoch : ℕ  -- at least 1
  pub block : ℕ
  pub position : ℕ
  pub client : ℕ
  pub nonce : ℕ
  pub version : ℕ
  pub content : List ℕ  -- SHA-256 of the content
  pub signature : List ℕ  -- the writer's at a put, empty at a get

abbrev pub entry_tag : List ℕ
entry_tag = codes "CPe1"

-- the fields after the tag that each entry has
abbrev pub entry_fields : List Field
entry_fields = Kind ∷ Epoch ∷ U64 ∷ U64 ∷ U32 ∷ U64 ∷ U64 ∷ Raw 32 ∷ []

-- their values
abbrev pub entry_values : Entry → Values entry_fields
entry_values x = (x.kind, (x.epoch, (x.block, (x.position, (x.client, (x.nonce, (x.version, (x.content, tt))))))))

abbrev pub entry_from : List ℕ → Values entry_fields → Entry
entry_from signature = uncurry entry_fields (λ kind epoch block position client nonce version content. record { kind = kind; epoch = epoch; block = block; position = position; client = client; nonce = nonce; version = version; content = content; signature = signature })

-- a put's signature is a part behind the fields, a get has none
abbrev pub signature_text : ℕ → List ℕ → List ℕ
signature_text kind signature = if kind == 1 then part signature else []

unfoldable pub signature_at : ℕ → List ℕ → Result (List ℕ × List ℕ) ℕ
signature_at kind bytes = if kind == 1 then part_at bytes else Ok ([], bytes)

-- each value may stand in its field
pub record EntryFits (x : Entry) : Type 0 where
  pub fields : Fit entry_fields (entry_values x)
  pub put : x.kind ≡ 1 → length x.signature < 2 ^ 32
  pub get : x.kind ≡ 2 → x.signature ≡ []

-- its bytes
unfoldable pub entry_text : Entry → List ℕ
entry_text x = tagged_text entry_tag entry_fields (entry_values x) ++ signature_text x.kind x.signature

-- the entry at the front and the bytes after it, or how many bytes were left
unfoldable pub entry_at : List ℕ → Result (Entry × List ℕ) ℕ
entry_at bytes = do
  fields ← fields_at (Tag entry_tag ∷ entry_fields) bytes
  signature ← signature_at fields.0.1.0 fields.1
  Ok (entry_from signature.0 fields.0.1, signature.1)

-- what all of the bytes spell, or the offset of the first byte that does not fit
unfoldable pub entry_of : List ℕ → Result Entry ℕ
entry_of bytes = at_offset bytes (entry_at bytes >>= ended)
