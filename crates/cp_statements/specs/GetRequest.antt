-- Get requests (this project's own).
use Rattle.std.specs.Prelude.{ℕ, List, [], ◌∷◌, Result, codes}
use Rattle.cp_bytes.specs.Fields.{Field, Values, Fit}
use Rattle.cp_bytes.specs.Fields.Field.{Raw, Epoch, U64, U32}
use Rattle.cp_statements.specs.Tagged.{uncurry, tagged_text, tagged_of}

pub record GetRequest : Type 0 where
  pub store : List ℕ  -- SHA-256 of the store's key
  pub epoch : ℕ  -- at least 1
  pub block : ℕ
  pub client : ℕ
  pub nonce : ℕ

abbrev pub get_request_tag : List ℕ
get_request_tag = codes "CPg1"

-- the fields after the tag
abbrev pub get_request_fields : List Field
get_request_fields = Raw 32 ∷ Epoch ∷ U64 ∷ U32 ∷ U64 ∷ []

-- their values
abbrev pub get_request_values : GetRequest → Values get_request_fields
get_request_values x = (x.store, (x.epoch, (x.block, (x.client, (x.nonce, tt)))))

abbrev pub get_request_from : Values get_request_fields → GetRequest
get_request_from = uncurry get_request_fields (λ store epoch block client nonce. record { store = store; epoch = epoch; block = block; client = client; nonce = nonce })

-- each value may stand in its field
abbrev pub GetRequestFits : GetRequest → Type 0
GetRequestFits x = Fit get_request_fields (get_request_values x)

-- its bytes
unfoldable pub get_request_text : GetRequest → List ℕ
get_request_text x = tagged_text get_request_tag get_request_fields (get_request_values x)

-- what all of the bytes spell, or the offset of the first byte that does not fit
unfoldable pub get_request_of : List ℕ → Result GetRequest ℕ
get_request_of bytes = tagged_of get_request_tag get_request_fields get_request_from bytes
