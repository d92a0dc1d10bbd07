-- What a call does to a shard, by the shard's step (this project's own).
use Rattle.std.specs.Prelude.{ℕ, ◌≡◌, ◌<◌, ◌≤◌, false, not, List, [], ◌∷◌, Option, Some, None, Result, Ok, Err, ◌==◌, if◌then◌else◌}
use Rattle.std.specs.List.{list_any}
use Rattle.cp_statements.specs.Entry.{entry_of}
use Rattle.cp_families.specs.Checking.{SignedPut}
use Rattle.cp_core.specs.Booking.{Booking}
use Rattle.cp_core.specs.Life.{RowItem}
use Rattle.cp_core.specs.Requests.{epoch_of, block_of}
use Rattle.cp_core.specs.Calls.{Effect, epoch_now, latest_of, writers_key, found, is_stale, again_entry, shard_step}
use Rattle.cp_core.specs.declared.content.Content.{Content}
use Rattle.cp_core.specs.Calls.Effect.{Same, New}
use Rattle.cp_core.specs.Machine.{content_in, with_content}
use Rattle.cp_core.specs.declared.item.Item.{Item}
use Rattle.cp_core.specs.declared.request.Request.{Request}
use Rattle.cp_core.specs.declared.request.Request.TheVariants as request
use Rattle.cp_core.specs.declared.leaves_over.LeavesOver.{LeavesOver}
use Rattle.cp_core.specs.declared.call_refusal.CallRefusal.{CallRefusal}
use Rattle.cp_core.specs.declared.call_refusal.CallRefusal.TheVariants as refusal
use Rattle.cp_core.specs.declared.answer.Answer.{Answer}
use Rattle.cp_core.specs.declared.answer.Answer.TheVariants.{Booked, CallRefused}
use Rattle.cp_shard.specs.Model.{ShardModel}

-- ---- who may put

-- where a put names the shard's epoch, the key that verified it is its writer's: the list of that epoch
-- has it for the block's family and the client
abbrev pub IsByWriter : ShardModel → SignedPut → Type 0
IsByWriter s p = p.request.epoch ≡ epoch_now s.items → writers_key s.first s.items p.request ≡ Some p.key

-- ---- the rules before want of memory, of a get or a writer's put

abbrev pub early_at : List ℕ → List Item → List Content → Request → Option RowItem → Option Answer
early_at store items contents request (Some r) = Some (again_entry store items contents request r.leaf (entry_of r.entry))
early_at store items contents request None = if is_stale items request then Some (CallRefused (refusal.StaleVersion (latest_of items (block_of request)).version)) else None

-- The answer of a get or a writer's put that needs no new entry: it names another epoch, it is there
-- already or its number is used, or it is a put of another version than the next. None where a new entry
-- is wanted.
unfoldable pub early : List ℕ → List Item → List Content → Request → Option Answer
early store items contents request =
    if not (epoch_of request == epoch_now items) then Some (CallRefused (refusal.WrongEpoch (epoch_now items)))
    else early_at store items contents request (found items request)

-- what the code finds of it
abbrev pub said : Result (Option Booking) CallRefusal → Option Answer
said (Err why) = Some (CallRefused why)
said (Ok (Some booking)) = Some (Booked booking)
said (Ok None) = None

abbrev pub HasBooking : Option Answer → Type 0
HasBooking (Some (Booked booking)) = Unit {0}
HasBooking answer = ⊥

-- the same, where memory may be wanted for the content that a booking has
abbrev pub IsSaid : Option Answer → Result (Option Booking) CallRefusal → Type 0
IsSaid answer (Err refusal.OutOfMemory) = HasBooking answer
IsSaid answer (Err why) = answer ≡ said (Err why)
IsSaid answer (Ok found) = answer ≡ said (Ok found)

-- ---- a whole call

-- the request of a put that was verified, with its content
abbrev pub put_of : SignedPut → List ℕ → Request
put_of p content = request.Put (record { store = p.request.store; epoch = p.request.epoch; block = p.request.block; client = p.request.client; nonce = p.request.nonce; version = p.request.version; content = p.request.content }) p.signature content

-- what the call leads to at the shard, with this answer of its leaf source
abbrev pub step_of : ShardModel → ℕ → Request → Result ℕ LeavesOver → Effect
step_of s pass request leaf = shard_step s.store s.pages s.first s.items s.contents pass request leaf

-- the leaf that it draws
abbrev pub drawn : Effect → ℕ → List ℕ
drawn (Same answer) leaf = []
drawn (New answer row) leaf = leaf ∷ []

-- the leaf of the row that it adds, if it adds one, is below this
abbrev pub AddsBelow : Effect → ℕ → Type 0
AddsBelow (Same answer) limit = Unit {0}
AddsBelow (New answer row) limit = row.leaf < limit

-- and was not given before
abbrev pub IsNewLeaf : List ℕ → ℕ → Type 0
IsNewLeaf given leaf = list_any (λ x. x == leaf) given ≡ false

abbrev pub AddsNewLeaf : Effect → List ℕ → Type 0
AddsNewLeaf (Same answer) given = Unit {0}
AddsNewLeaf (New answer row) given = IsNewLeaf given row.leaf

-- the contents after it
abbrev pub contents_after : Effect → Request → List Content → List Content
contents_after (Same answer) request contents = contents
contents_after (New answer row) request contents = with_content contents (content_in request)

-- The step refuses the call so: whatever its leaf source answers, or where the source found that no leaf
-- is left, at that answer. Memory may be wanted at any new entry.
abbrev pub Refuses : (Result ℕ LeavesOver → Effect) → ℕ → ℕ → CallRefusal → Type 0
Refuses step limit found refusal.OutOfMemory = Unit {0}
Refuses step limit found (refusal.LeavesOver over) = (step (Err over) ≡ Same (CallRefused (refusal.LeavesOver over))) × (over.drawn ≡ found) × (over.limit ≡ limit) × (limit ≤ over.drawn)
Refuses step limit found why = (leaf : Result ℕ LeavesOver) → step leaf ≡ Same (CallRefused why)

-- where memory is wanted, this holds
abbrev pub OnMemory : Type 0 → CallRefusal → Type 0
OnMemory P refusal.OutOfMemory = P
OnMemory P why = Unit {0}

-- the call was booked before, or needs a new entry
abbrev pub MayHaveBooking : Option Answer → Type 0
MayHaveBooking None = Unit {0}
MayHaveBooking (Some answer) = HasBooking (Some answer)
