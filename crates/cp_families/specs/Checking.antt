-- When a put is let in, and why another is not (this project's own).
use Rattle.std.specs.Prelude.{ℕ, ◌≡◌, List, true, Option, Some, None, Result, Ok, Err, if◌then◌else◌, bytes_eq}
use Rattle.cp_bytes.specs.Fields.{◌>>=◌}
use Rattle.lms_tree.specs.Verifying.{verifies}
use Rattle.cp_statements.specs.PutRequest.{PutRequest, put_request_of, put_request_text}
use Rattle.cp_statements.specs.Envelope.{Envelope}
use Rattle.cp_families.specs.Families.{FamilyRow, key_of}
use Rattle.cp_families.specs.Writers.{family_of}
use Rattle.cp_families.specs.declared.put_fault.PutFault.{PutFault}
use Rattle.cp_families.specs.declared.put_fault.PutFault.TheVariants.{Malformed, WrongStore, NotAWriter, BadSignature}

-- a request with a signature on it, and the key that verified it
pub record SignedPut : Type 0 where
  pub request : PutRequest
  pub signature : List ℕ
  pub key : List ℕ

-- the signature is that key's, on the request's text
abbrev pub IsSigned : SignedPut → Type 0
IsSigned p = verifies p.key (put_request_text p.request) p.signature ≡ true

-- the request that the bytes spell
abbrev pub request_in : Result PutRequest ℕ → Result PutRequest PutFault
request_in (Ok r) = Ok r
request_in (Err at) = Err (Malformed at)

-- it names the store
abbrev pub for_store : List ℕ → PutRequest → Result PutRequest PutFault
for_store store r = if bytes_eq r.store store then Ok r else Err WrongStore

-- the key of a client in a family, which writes only where there is one
abbrev pub key_or_fault : ℕ → ℕ → Option (List ℕ) → Result (List ℕ) PutFault
key_or_fault family client None = Err (NotAWriter family client)
key_or_fault family client (Some key) = Ok key

-- the key verifies the request
abbrev pub signed_by : PutRequest → List ℕ → List ℕ → Result SignedPut PutFault
signed_by r signature key = if verifies key (put_request_text r) signature then Ok (record { request = r; signature = signature; key = key }) else Err BadSignature

-- The put that the envelope holds, for a store and one writer's key, or the first fault: the text is no
-- put request, it names another store, or the key doesn't verify the signature.
unfoldable pub verify_put_of : List ℕ → List ℕ → Envelope → Result SignedPut PutFault
verify_put_of store key x = do
  read ← request_in (put_request_of x.text)
  request ← for_store store read
  signed_by request x.signature key

-- The put that the envelope holds, for a store and its families list, or the first fault: the text is
-- no put request, it names another store, the list has no row for the block's family and the client,
-- or the row's key doesn't verify the signature.
unfoldable pub check_put_of : List FamilyRow → List ℕ → Envelope → Result SignedPut PutFault
check_put_of families store x = do
  read ← request_in (put_request_of x.text)
  request ← for_store store read
  key ← key_or_fault (family_of request.block) request.client (key_of families (family_of request.block) request.client)
  signed_by request x.signature key
