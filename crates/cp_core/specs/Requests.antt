-- Requests: what they name, and which fit their fields (this project's own).
use Rattle.std.specs.Prelude.{ℕ, ◌<◌, ◌≤◌, ◌^◌, ◌+◌, ◌/◌, List, length}
use Rattle.cp_statements.specs.PutRequest.{PutRequestFits, put_request_text}
use Rattle.cp_statements.specs.GetRequest.{GetRequestFits, get_request_text}
use Rattle.cp_statements.specs.View.{put_request_view, get_request_view}
use Rattle.cp_core.specs.declared.request.Request.{Request}
use Rattle.cp_core.specs.declared.request.Request.TheVariants.{Put, Get}

abbrev pub store_of : Request → List ℕ
store_of (Put r signature content) = r.store
store_of (Get r) = r.store

abbrev pub epoch_of : Request → ℕ
epoch_of (Put r signature content) = r.epoch
epoch_of (Get r) = r.epoch

abbrev pub block_of : Request → ℕ
block_of (Put r signature content) = r.block
block_of (Get r) = r.block

abbrev pub client_of : Request → ℕ
client_of (Put r signature content) = r.client
client_of (Get r) = r.client

abbrev pub nonce_of : Request → ℕ
nonce_of (Put r signature content) = r.nonce
nonce_of (Get r) = r.nonce

abbrev pub request_text : Request → List ℕ
request_text (Put r signature content) = put_request_text (put_request_view r)
request_text (Get r) = get_request_text (get_request_view r)

-- the pages of 1,024 bytes that its content needs
abbrev pub pages_of : Request → ℕ
pages_of (Put r signature content) = (length content + 1023) / 1024
pages_of (Get r) = 0

-- each value may stand in its field, and a content has at most 65,536 bytes
abbrev pub RequestFits : Request → Type 0
RequestFits (Put r signature content) = PutRequestFits (put_request_view r) × (length signature < 2 ^ 32) × (length content ≤ 65536)
RequestFits (Get r) = GetRequestFits (get_request_view r)
