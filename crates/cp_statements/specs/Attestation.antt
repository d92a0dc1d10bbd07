-- Attestations: what the store signs of an entry (this project's own).
use Rattle.std.specs.Prelude.{ℕ, List, [], ◌∷◌, Result, codes}
use Rattle.cp_bytes.specs.Fields.{Field, Values, Fit}
use Rattle.cp_bytes.specs.Fields.Field.{Raw, Kind, Epoch, U64, U32}
use Rattle.cp_statements.specs.Tagged.{uncurry, tagged_text, tagged_of}

pub record Attestation : Type 0 where
  pub store : List ℕ  -- SHA-256 of the store's key
  pub kind : ℕ  -- 1 for a put, 2 for a get
  pub epoch : ℕ  -- at least 1
  pub block : ℕ
  pub position : ℕ
  pub client : ℕ
  pub nonce : ℕ
  pub version : ℕ
  pub content : List ℕ  -- SHA-256 of the content
  pub prev : List ℕ  -- the chain's head before the entry
  pub head : List ℕ  -- the chain's head after it

abbrev pub attestation_tag : List ℕ
attestation_tag = codes "CPa1"

-- the fields after the tag
abbrev pub attestation_fields : List Field
attestation_fields = Raw 32 ∷ Kind ∷ Epoch ∷ U64 ∷ U64 ∷ U32 ∷ U64 ∷ U64 ∷ Raw 32 ∷ Raw 32 ∷ Raw 32 ∷ []

-- their values
abbrev pub attestation_values : Attestation → Values attestation_fields
attestation_values x = (x.store, (x.kind, (x.epoch, (x.block, (x.position, (x.client, (x.nonce, (x.version, (x.content, (x.prev, (x.head, tt)))))))))))

abbrev pub attestation_from : Values attestation_fields → Attestation
attestation_from = uncurry attestation_fields (λ store kind epoch block position client nonce version content prev head. record { store = store; kind = kind; epoch = epoch; block = block; position = position; client = client; nonce = nonce; version = version; content = content; prev = prev; head = head })

-- each value may stand in its field
abbrev pub AttestationFits : Attestation → Type 0
AttestationFits x = Fit attestation_fields (attestation_values x)

-- its bytes
unfoldable pub attestation_text : Attestation → List ℕ
attestation_text x = tagged_text attestation_tag attestation_fields (attestation_values x)

-- what all of the bytes spell, or the offset of the first byte that does not fit
unfoldable pub attestation_of : List ℕ → Result Attestation ℕ
attestation_of bytes = tagged_of attestation_tag attestation_fields attestation_from bytes
