-- Which answer of a store a client accepts, and why another is refused (this project's own). A reply is
-- an attestation's envelope, and at a get the content behind it.
use Rattle.std.specs.Prelude.{ℕ, Bool, ◌&&◌, List, [], ◌∷◌, length, Option, Some, None, Result, Ok, Err, ◌==◌, if◌then◌else◌, bytes_eq}
use Rattle.sha2.specs.Sha256.{sha256}
use Rattle.cp_bytes.specs.Fields.{◌>>=◌, at_offset}
use Rattle.cp_bytes.specs.Hashes.{zero_hash, head}
use Rattle.lms_tree.specs.Verifying.{verifies}
use Rattle.cp_statements.specs.Attestation.{Attestation, attestation_of}
use Rattle.cp_statements.specs.Entry.{Entry, entry_text}
use Rattle.cp_statements.specs.Envelope.{Envelope, envelope_at}
use Rattle.cp_statements.specs.GetRequest.{GetRequest}
use Rattle.cp_statements.specs.PutRequest.{PutRequest}
use Rattle.cp_client.specs.Asking.{Asked}
use Rattle.cp_client.specs.Asking.Asked.{Get, Put}
use Rattle.cp_client.specs.declared.field.Field.{Field}
use Rattle.cp_client.specs.declared.field.Field.TheVariants.{Store, Kind, Epoch, Block, Client, Nonce, Version, Hash}
use Rattle.cp_client.specs.declared.refusals.ClientRefusal.{ClientRefusal}
use Rattle.cp_client.specs.declared.refusals.ClientRefusal.TheVariants.{Malformed, BadSignature, OtherCall, ContentMismatch, BadHead}

-- ---- the call

-- a field and whether both have the same in it
abbrev pub Tests : Type 0
Tests = List (Field × Bool)

-- the first field in which they differ
abbrev pub first_apart : Tests → Option Field
first_apart [] = None
first_apart (x ∷ xs) = if x.1 then first_apart xs else Some x.0

-- the first field in which an attestation is not of the get
abbrev pub other_than_get : GetRequest → Attestation → Option Field
other_than_get r a = first_apart ((Store, bytes_eq a.store r.store) ∷ (Kind, a.kind == 2) ∷ (Epoch, a.epoch == r.epoch) ∷ (Block, a.block == r.block) ∷ (Client, a.client == r.client) ∷ (Nonce, a.nonce == r.nonce) ∷ [])

-- or not of the put
abbrev pub other_than_put : PutRequest → Attestation → Option Field
other_than_put r a = first_apart ((Store, bytes_eq a.store r.store) ∷ (Kind, a.kind == 1) ∷ (Epoch, a.epoch == r.epoch) ∷ (Block, a.block == r.block) ∷ (Client, a.client == r.client) ∷ (Nonce, a.nonce == r.nonce) ∷ (Version, a.version == r.version) ∷ (Hash, bytes_eq a.content r.content) ∷ [])

-- or not of the call that was asked
abbrev pub other_field : Asked → Attestation → Option Field
other_field (Get r) a = other_than_get r a
other_field (Put p) a = other_than_put p.request a

-- ---- the content

-- A put's reply has none. A get's has the hash that is attested; before the first put it is empty, and
-- the hash is 32 zero bytes.
abbrev pub content_fits : Asked → Attestation → List ℕ → Bool
content_fits (Put p) a content = length content == 0
content_fits (Get r) a content = if a.version == 0 then (length content == 0) && bytes_eq a.content zero_hash else bytes_eq (sha256 content) a.content

-- ---- the head

-- the writer's signature that the entry has
abbrev pub asked_signature : Asked → List ℕ
asked_signature (Get r) = []
asked_signature (Put p) = p.signature

-- the entry that is attested
abbrev pub entry_attested : Attestation → List ℕ → Entry
entry_attested a signature = record { kind = a.kind; epoch = a.epoch; block = a.block; position = a.position; client = a.client; nonce = a.nonce; version = a.version; content = a.content; signature = signature }

-- the head after it is the attested one
abbrev pub head_fits : Asked → Attestation → Bool
head_fits asked a = bytes_eq a.head (head a.prev (entry_text (entry_attested a (asked_signature asked))))

-- ---- the whole reply

-- what is accepted
pub record Accepted : Type 0 where
  pub attestation : Attestation
  pub envelope : Envelope
  pub content : List ℕ

abbrev pub read_or_refused : {A : Type 0} → Result A ℕ → Result A ClientRefusal
read_or_refused (Ok x) = Ok x
read_or_refused (Err at) = Err (Malformed at)

abbrev pub must : Bool → ClientRefusal → Result (Unit {0}) ClientRefusal
must b refusal = if b then Ok tt else Err refusal

abbrev pub same_call : Option Field → Result (Unit {0}) ClientRefusal
same_call None = Ok tt
same_call (Some field) = Err (OtherCall field)

-- What the client accepts of the reply, or the first thing that is wrong: it doesn't read (in the
-- attestation the place is counted from its own first byte), its signature doesn't verify, it answers
-- another call, its content doesn't fit, or its head isn't that of its entry.
unfoldable pub accept_of : List ℕ → Asked → List ℕ → Result Accepted ClientRefusal
accept_of key asked reply = do
  parts ← read_or_refused (at_offset reply (envelope_at reply))
  a ← read_or_refused (attestation_of parts.0.text)
  signed ← must (verifies key parts.0.text parts.0.signature) BadSignature
  same ← same_call (other_field asked a)
  whole ← must (content_fits asked a parts.1) ContentMismatch
  chained ← must (head_fits asked a) BadHead
  Ok (record { attestation = a; envelope = parts.0; content = parts.1 })
