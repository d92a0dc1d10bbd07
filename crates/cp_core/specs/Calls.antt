-- What one call does at a shard (this project's own).
use Rattle.std.specs.Prelude.{ℕ, ◌+◌, ◌-◌, Bool, false, not, ◌&&◌, List, [], ◌∷◌, length, take, Option, Some, None, Result, Ok, Err, nat_lt, ◌==◌, if◌then◌else◌, bytes_eq, filter_map, cond}
use Rattle.std.specs.List.{find, list_any}
use Rattle.cp_bytes.specs.Hashes.{genesis, head, head_after}
use Rattle.cp_statements.specs.PutRequest.{PutRequest, put_request_text}
use Rattle.cp_statements.specs.GetRequest.{get_request_text}
use Rattle.cp_statements.specs.Attestation.{Attestation, attestation_text}
use Rattle.cp_statements.specs.Entry.{Entry, entry_text, entry_of}
use Rattle.cp_tips.specs.Tip.{fresh}
use Rattle.lms_tree.specs.Verifying.{verifies}
use Rattle.cp_statements.specs.View.{put_request_view}
use Rattle.cp_families.specs.Families.{key_of}
use Rattle.cp_families.specs.Writers.{request_of, family_of}
use Rattle.cp_chain.specs.Legal.{Put, put_at, latest, is_call, last_or, ok_and}
use Rattle.cp_core.specs.Booking.{Booking}
use Rattle.cp_core.specs.Store.{list_at}
use Rattle.cp_core.specs.Life.{RowItem, row_item, rows_in, freezes, rows_of, in_epoch, entries}
use Rattle.cp_core.specs.Requests.{epoch_of, block_of, client_of, nonce_of, request_text, pages_of}
use Rattle.cp_core.specs.declared.item.Item.{Item}
use Rattle.cp_core.specs.declared.content.Content.{Content}
use Rattle.cp_core.specs.declared.request.Request.{Request}
use Rattle.cp_core.specs.declared.request.Request.TheVariants as request
use Rattle.cp_core.specs.declared.leaves_over.LeavesOver.{LeavesOver}
use Rattle.cp_core.specs.declared.call_refusal.CallRefusal.TheVariants as refusal
use Rattle.cp_core.specs.declared.answer.Answer.{Answer}
use Rattle.cp_core.specs.declared.answer.Answer.TheVariants.{Booked, CallRefused}

-- ---- the shard's state, from its items

-- the epoch that it is in
abbrev pub epoch_now : List Item → ℕ
epoch_now items = freezes items + 1

-- the block's latest put over its whole life
abbrev pub latest_of : List Item → ℕ → Put
latest_of items b = latest (put_at (fresh b)) (entries (rows_of items b))

-- the head of the block's chain
abbrev pub head_of : List Item → ℕ → List ℕ
head_of items b = head_after (genesis b) (entries (rows_of items b))

-- the content, where it is of this block
abbrev pub bytes_for : ℕ → Content → Option (List ℕ)
bytes_for b c = if c.block == b then Some c.bytes else None

-- the latest content of a block among those that were put, oldest first; empty where none was put
unfoldable pub content_at : List Content → ℕ → List ℕ
content_at contents b = last_or [] (filter_map (bytes_for b) contents)

-- the pages of each block's last put: a put's pages count where no put of its block comes after it
abbrev pub puts_block : ℕ → RowItem → Bool
puts_block b r = ok_and (entry_of r.entry) (λ e. (e.kind == 1) && (e.block == b))

abbrev pub is_last_put : RowItem → List RowItem → Bool
is_last_put r later = ok_and (entry_of r.entry) (λ e. (e.kind == 1) && not (list_any (puts_block e.block) later))

abbrev pub pages_taken : List RowItem → ℕ
pages_taken [] = 0
pages_taken (r ∷ rs) = (if is_last_put r rs then r.pages else 0) + pages_taken rs

-- the pages left of so many
abbrev pub pages_free : ℕ → List Item → ℕ
pages_free pages items = pages - pages_taken (rows_in items)

-- ---- a new entry

-- the entry that the call would append
unfoldable pub new_entry : List Item → Request → Entry
new_entry items (request.Put r signature content) = record { kind = 1; epoch = r.epoch; block = r.block; position = length (rows_of items r.block); client = r.client; nonce = r.nonce; version = r.version; content = r.content; signature = signature }
new_entry items (request.Get r) = record { kind = 2; epoch = r.epoch; block = r.block; position = length (rows_of items r.block); client = r.client; nonce = r.nonce; version = (latest_of items r.block).version; content = (latest_of items r.block).content; signature = [] }

-- what is signed of an entry, with the chain's head before it
unfoldable pub attested : List ℕ → List ℕ → Entry → Attestation
attested store prev e = record { store = store; kind = e.kind; epoch = e.epoch; block = e.block; position = e.position; client = e.client; nonce = e.nonce; version = e.version; content = e.content; prev = prev; head = head prev (entry_text e) }

-- its row
abbrev pub new_row : List Item → ℕ → Request → ℕ → RowItem
new_row items pass request leaf = record { pass = pass; leaf = leaf; pages = pages_of request; entry = entry_text (new_entry items request) }

-- what a call is answered besides its attestation: a get the block's content
abbrev pub content_for : List Content → ℕ → ℕ → List ℕ
content_for contents kind b = if kind == 2 then content_at contents b else []

-- ---- the rules in their order

-- the key of the one who may write the request's block as its client, in the shard's epoch
abbrev pub writers_key : List ℕ → List Item → PutRequest → Option (List ℕ)
writers_key first items r = key_of (list_at first items (epoch_now items)) (family_of r.block) r.client

-- there is no key, or it doesn't verify the signature on the request's text
abbrev pub unsigned_by : PutRequest → List ℕ → Option (List ℕ) → Option Answer
unsigned_by r signature None = Some (CallRefused (refusal.NotAWriter (family_of r.block) r.client))
unsigned_by r signature (Some key) = if verifies key (put_request_text r) signature then None else Some (CallRefused refusal.BadSignature)

-- a put that no writer of the shard's epoch signed, and why
unfoldable pub unwritten : List ℕ → List Item → Request → Option Answer
unwritten first items (request.Put r signature content) = unsigned_by (put_request_view r) signature (writers_key first items (put_request_view r))
unwritten first items (request.Get r) = None

-- the text of the request that an entry answers
abbrev pub asked_text : List ℕ → Entry → List ℕ
asked_text store e = cond (e.kind == 1) (put_request_text (request_of store e)) (get_request_text (record { store = store; epoch = e.epoch; block = e.block; client = e.client; nonce = e.nonce }))

-- the attestation's text of an entry that stands in the life already
unfoldable pub text_again : List ℕ → List Item → Entry → List ℕ
text_again store items e = attestation_text (attested store (head_after (genesis e.block) (take e.position (entries (rows_of items e.block)))) e)

-- a put came after the get
abbrev pub is_overtaken : List Item → Entry → Bool
is_overtaken items e = (e.kind == 2) && not (e.version == (latest_of items e.block).version)

-- the entry has the call's client and nonce: the same request again, or another one
unfoldable pub again_entry : List ℕ → List Item → List Content → Request → ℕ → Result Entry ℕ → Answer
again_entry store items contents request leaf (Err left) = CallRefused (refusal.NonceUsed 0)
again_entry store items contents request leaf (Ok e) =
    if not (bytes_eq (asked_text store e) (request_text request)) then CallRefused (refusal.NonceUsed e.position)
    else if is_overtaken items e then CallRefused (refusal.Overtaken (latest_of items e.block).version)
    else Booked (record { leaf = leaf; text = text_again store items e; content = content_for contents e.kind e.block })

-- the row of this epoch that has the call's client and nonce
unfoldable pub found : List Item → Request → Option RowItem
found items request = find (λ r. is_call (client_of request) (nonce_of request) r.entry) (in_epoch items (block_of request) (epoch_now items))

-- a put has another version than the one after the latest
abbrev pub is_stale : List Item → Request → Bool
is_stale items (request.Put r signature content) = not (r.version == (latest_of items r.block).version + 1)
is_stale items (request.Get r) = false

-- a call that was not made before: a refusal, or nothing
unfoldable pub first_refused : ℕ → List Item → Request → Option Answer
first_refused pages items request =
    if is_stale items request then Some (CallRefused (refusal.StaleVersion (latest_of items (block_of request)).version))
    else if nat_lt (pages_free pages items) (pages_of request) then Some (CallRefused (refusal.PoolFull (pages_free pages items) (pages_of request)))
    else None

abbrev pub at_found : List ℕ → ℕ → List Item → List Content → Request → Option RowItem → Option Answer
at_found store pages items contents request (Some r) = Some (again_entry store items contents request r.leaf (entry_of r.entry))
at_found store pages items contents request None = first_refused pages items request

-- the first answer, or else the second
abbrev pub or_else : Option Answer → Option Answer → Option Answer
or_else (Some answer) other = Some answer
or_else None other = other

-- What the rules before the leaf answer, at a shard with this first list. Nothing where the call is to
-- have a new entry.
unfoldable pub settled : List ℕ → ℕ → List ℕ → List Item → List Content → Request → Option Answer
settled store pages first items contents request =
    if not (epoch_of request == epoch_now items) then Some (CallRefused (refusal.WrongEpoch (epoch_now items)))
    else or_else (unwritten first items request) (at_found store pages items contents request (found items request))

-- the answer to a new call
unfoldable pub booked : List ℕ → List Item → List Content → Request → ℕ → Booking
booked store items contents request leaf = record {
  leaf = leaf;
  text = attestation_text (attested store (head_of items (block_of request)) (new_entry items request));
  content = content_for contents (new_entry items request).kind (block_of request);
}

-- what a call leads to: an answer, and at a new call its row
pub data Effect : Type 0 where
  Same : Answer → Effect
  New : Answer → RowItem → Effect

-- the leaf source's answer decides on a new call
abbrev pub with_leaf : List ℕ → List Item → List Content → ℕ → Request → Result ℕ LeavesOver → Effect
with_leaf store items contents pass request (Err over) = Same (CallRefused (refusal.LeavesOver over))
with_leaf store items contents pass request (Ok leaf) = New (Booked (booked store items contents request leaf)) (new_row items pass request leaf)

abbrev pub unless_settled : Option Answer → Effect → Effect
unless_settled (Some answer) outcome = Same answer
unless_settled None outcome = outcome

-- What a call leads to at a shard of this store, with so many pages, this first list, these items and
-- contents, and this answer of its leaf source.
unfoldable pub shard_step : List ℕ → ℕ → List ℕ → List Item → List Content → ℕ → Request → Result ℕ LeavesOver → Effect
shard_step store pages first items contents pass request leaf = unless_settled (settled store pages first items contents request) (with_leaf store items contents pass request leaf)

-- its answer, and the items that it adds
abbrev pub answer_in : Effect → Answer
answer_in (Same answer) = answer
answer_in (New answer row) = answer

abbrev pub added : Effect → List Item
added (Same answer) = []
added (New answer row) = row_item row ∷ []
