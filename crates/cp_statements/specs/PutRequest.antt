-- Put requests: what a writer signs (this project's own).
use Rattle.std.specs.Prelude.{ℕ, List, [], ◌∷◌, Result, codes}
use Rattle.cp_bytes.specs.Fields.{Field, Values, Fit}
use Rattle.cp_bytes.specs.Fields.Field.{Raw, Epoch, U64, U32}
use Rattle.cp_statements.specs.Tagged.{uncurry, tagged_text, tagged_of}

pub record PutRequest : Type 0 where
  pub store : List ℕ  -- SHA-256 of the store's key
  pub epoch : ℕ  -- at least 1
  pub block : ℕ
  pub client : ℕ
  pub nonce : ℕ
  pub version : ℕ
  pub content : List ℕ  -- SHA-256 of the content

abbrev pub put_request_tag : List ℕ
put_request_tag = codes "CPp1"

-- the fields after the tag
abbrev pub put_request_fields : List Field
put_request_fields = Raw 32 ∷ Epoch ∷ U64 ∷ U32 ∷ U64 ∷ U64 ∷ Raw 32 ∷ []

-- their values
abbrev pub put_request_values : PutRequest → Values put_request_fields
put_request_values x = (x.store, (x.epoch, (x.block, (x.client, (x.nonce, (x.version, (x.content, tt)))))))

abbrev pub put_request_from : Values put_request_fields → PutRequest
put_request_from = uncurry put_request_fields (λ store epoch block client nonce version content. record { store = store; epoch = epoch; block = block; client = client; nonce = nonce; version = version; content = content })

-- each value may stand in its field
abbrev pub PutRequestFits : PutRequest → Type 0
PutRequestFits x = Fit put_request_fields (put_request_values x)

-- its bytes
unfoldable pub put_request_text : PutRequest → List ℕ
put_request_text x = tagged_text put_request_tag put_request_fields (put_request_values x)

-- what all of the bytes spell, or the offset of the first byte that does not fit
unfoldable pub put_request_of : List ℕ → Result PutRequest ℕ
put_request_of bytes = tagged_of put_request_tag put_request_fields put_request_from bytes
