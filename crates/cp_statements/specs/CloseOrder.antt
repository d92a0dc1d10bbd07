-- Close orders (this project's own).
use Rattle.std.specs.Prelude.{ℕ, List, [], ◌∷◌, Result, codes}
use Rattle.cp_bytes.specs.Fields.{Field, Values, Fit}
use Rattle.cp_bytes.specs.Fields.Field.{Raw, Epoch}
use Rattle.cp_statements.specs.Tagged.{uncurry, tagged_text, tagged_of}

pub record CloseOrder : Type 0 where
  pub store : List ℕ  -- SHA-256 of the store's key
  pub epoch : ℕ  -- at least 1

abbrev pub close_order_tag : List ℕ
close_order_tag = codes "CPo1"

-- the fields after the tag
abbrev pub close_order_fields : List Field
close_order_fields = Raw 32 ∷ Epoch ∷ []

-- their values
abbrev pub close_order_values : CloseOrder → Values close_order_fields
close_order_values x = (x.store, (x.epoch, tt))

abbrev pub close_order_from : Values close_order_fields → CloseOrder
close_order_from = uncurry close_order_fields (λ store epoch. record { store = store; epoch = epoch })

-- each value may stand in its field
abbrev pub CloseOrderFits : CloseOrder → Type 0
CloseOrderFits x = Fit close_order_fields (close_order_values x)

-- its bytes
unfoldable pub close_order_text : CloseOrder → List ℕ
close_order_text x = tagged_text close_order_tag close_order_fields (close_order_values x)

-- what all of the bytes spell, or the offset of the first byte that does not fit
unfoldable pub close_order_of : List ℕ → Result CloseOrder ℕ
close_order_of bytes = tagged_of close_order_tag close_order_fields close_order_from bytes
