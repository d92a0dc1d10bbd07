-- Close orders that hand in the families list of the next epoch (this project's own).
use Rattle.std.specs.Prelude.{ℕ, List, [], ◌∷◌, Result, codes}
use Rattle.cp_bytes.specs.Fields.{Field, Values, Fit}
use Rattle.cp_bytes.specs.Fields.Field.{Raw, Epoch}
use Rattle.cp_statements.specs.Tagged.{uncurry, tagged_text, tagged_of}

pub record CloseOrder2 : Type 0 where
  pub store : List ℕ  -- SHA-256 of the store's key
  pub epoch : ℕ  -- at least 1
  pub families : List ℕ  -- SHA-256 of the families list that holds from the next epoch on

abbrev pub close_order2_tag : List ℕ
close_order2_tag = codes "CPo2"

-- the fields after the tag
abbrev pub close_order2_fields : List Field
close_order2_fields = Raw 32 ∷ Epoch ∷ Raw 32 ∷ []

-- their values
abbrev pub close_order2_values : CloseOrder2 → Values close_order2_fields
close_order2_values x = (x.store, (x.epoch, (x.families, tt)))

abbrev pub close_order2_from : Values close_order2_fields → CloseOrder2
close_order2_from = uncurry close_order2_fields (λ store epoch families. record { store = store; epoch = epoch; families = families })

-- each value may stand in its field
abbrev pub CloseOrder2Fits : CloseOrder2 → Type 0
CloseOrder2Fits x = Fit close_order2_fields (close_order2_values x)

-- its bytes
unfoldable pub close_order2_text : CloseOrder2 → List ℕ
close_order2_text x = tagged_text close_order2_tag close_order2_fields (close_order2_values x)

-- what all of the bytes spell, or the offset of the first byte that does not fit
unfoldable pub close_order2_of : List ℕ → Result CloseOrder2 ℕ
close_order2_of bytes = tagged_of close_order2_tag close_order2_fields close_order2_from bytes
