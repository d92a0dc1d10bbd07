-- Who may write a block (this project's own).
use Rattle.std.specs.Prelude.{ℕ, ◌/◌, ◌^◌, Bool, false, List, Option, Some, None}
use Rattle.lms_tree.specs.Verifying.{verifies}
use Rattle.cp_statements.specs.PutRequest.{PutRequest, put_request_text}
use Rattle.cp_statements.specs.Entry.{Entry}
use Rattle.cp_families.specs.Families.{FamilyRow, key_of}

-- the family of a block
abbrev pub family_of : ℕ → ℕ
family_of block = block / 2 ^ 32

-- a signature verifies under a key, where there is one
abbrev pub verified_by : Option (List ℕ) → List ℕ → List ℕ → Bool
verified_by None text signature = false
verified_by (Some key) text signature = verifies key text signature

-- The request is signed by a writer: the list has a row for the block's family and the client, and its
-- key verifies the request's text.
abbrev pub signed_request : List FamilyRow → PutRequest → List ℕ → Bool
signed_request families r signature = verified_by (key_of families (family_of r.block) r.client) (put_request_text r) signature

-- the put request that a put entry answers
abbrev pub request_of : List ℕ → Entry → PutRequest
request_of store e = record { store = store; epoch = e.epoch; block = e.block; client = e.client; nonce = e.nonce; version = e.version; content = e.content }

-- an authorized writer: its signature in the entry is on the request rebuilt from entry and store
unfoldable pub writer : List FamilyRow → List ℕ → Entry → Bool
writer families store e = signed_request families (request_of store e) e.signature
