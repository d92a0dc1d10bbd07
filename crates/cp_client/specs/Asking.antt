-- What a client asks a store (this project's own): a get request of 64 bytes, or a put body, which is
-- an envelope of a put request and the content to the end.
use Rattle.std.specs.Prelude.{ℕ, ◌<◌, ◌^◌, Bool, ◌&&◌, List, ◌++◌, length, take, Result, Ok, ◌==◌, if◌then◌else◌, bytes_eq}
use Rattle.cp_bytes.specs.Fields.{◌>>=◌, part, at_offset}
use Rattle.lms_tree.specs.Secret.{Secret, signature}
use Rattle.cp_statements.specs.Envelope.{envelope_at}
use Rattle.cp_statements.specs.GetRequest.{GetRequest, GetRequestFits, get_request_tag, get_request_text, get_request_of}
use Rattle.cp_statements.specs.PutRequest.{PutRequest, PutRequestFits, put_request_text, put_request_of}

pub record PutBody : Type 0 where
  pub request : PutRequest
  pub signature : List ℕ  -- the writer's, on the request's text
  pub content : List ℕ

pub data Asked : Type 0 where
  Get : GetRequest → Asked
  Put : PutBody → Asked

-- each value may stand in its field
abbrev pub AskedFits : Asked → Type 0
AskedFits (Get r) = GetRequestFits r
AskedFits (Put p) = PutRequestFits p.request × (length p.signature < 2 ^ 32)

-- a put body's bytes
unfoldable pub put_body_text : PutBody → List ℕ
put_body_text p = part (put_request_text p.request) ++ (part p.signature ++ p.content)

-- its bytes
abbrev pub asked_text : Asked → List ℕ
asked_text (Get r) = get_request_text r
asked_text (Put p) = put_body_text p

-- the put body that the bytes are, or the offset of the first byte that does not fit: in the request
-- it is counted from the request's first byte
unfoldable pub put_body_of : List ℕ → Result PutBody ℕ
put_body_of bytes = do
  parts ← at_offset bytes (envelope_at bytes)
  request ← put_request_of parts.0.text
  Ok (record { request = request; signature = parts.0.signature; content = parts.1 })

-- they can be no put body
abbrev pub is_get : List ℕ → Bool
is_get bytes = (length bytes == 64) && bytes_eq (take 4 bytes) get_request_tag

-- what the bytes ask, or the offset of the first byte that does not fit
unfoldable pub asked_of : List ℕ → Result Asked ℕ
asked_of bytes = if is_get bytes then (get_request_of bytes >>= λ r. Ok (Get r)) else (put_body_of bytes >>= λ p. Ok (Put p))

-- the put that a key's leaf signs
abbrev pub signed_put : Secret → ℕ → PutRequest → List ℕ → PutBody
signed_put key leaf request content = record { request = request; signature = signature key leaf (put_request_text request); content = content }
