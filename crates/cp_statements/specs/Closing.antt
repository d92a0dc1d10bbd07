-- Closings: what the store signs of an epoch (this project's own).
use Rattle.std.specs.Prelude.{ℕ, List, [], ◌∷◌, Result, codes}
use Rattle.cp_bytes.specs.Fields.{Field, Values, Fit}
use Rattle.cp_bytes.specs.Fields.Field.{Raw, Epoch, U64}
use Rattle.cp_statements.specs.Tagged.{uncurry, tagged_text, tagged_of}

pub record Closing : Type 0 where
  pub store : List ℕ  -- SHA-256 of the store's key
  pub epoch : ℕ  -- at least 1
  pub link : List ℕ  -- SHA-256 of the closing text of the epoch before, or 32 zero bytes in epoch 1
  pub families : List ℕ  -- SHA-256 of the families text
  pub table : List ℕ  -- SHA-256 of the table text
  pub rows : ℕ
  pub entries : ℕ

abbrev pub closing_tag : List ℕ
closing_tag = codes "CPc1"

-- the fields after the tag
abbrev pub closing_fields : List Field
closing_fields = Raw 32 ∷ Epoch ∷ Raw 32 ∷ Raw 32 ∷ Raw 32 ∷ U64 ∷ U64 ∷ []

-- their values
abbrev pub closing_values : Closing → Values closing_fields
closing_values x = (x.store, (x.epoch, (x.link, (x.families, (x.table, (x.rows, (x.entries, tt)))))))

abbrev pub closing_from : Values closing_fields → Closing
closing_from = uncurry closing_fields (λ store epoch link families table rows entries. record { store = store; epoch = epoch; link = link; families = families; table = table; rows = rows; entries = entries })

-- each value may stand in its field
abbrev pub ClosingFits : Closing → Type 0
ClosingFits x = Fit closing_fields (closing_values x)

-- its bytes
unfoldable pub closing_text : Closing → List ℕ
closing_text x = tagged_text closing_tag closing_fields (closing_values x)

-- what all of the bytes spell, or the offset of the first byte that does not fit
unfoldable pub closing_of : List ℕ → Result Closing ℕ
closing_of bytes = tagged_of closing_tag closing_fields closing_from bytes
