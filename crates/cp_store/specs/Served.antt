-- What a call at a shard leads to (this project's own). No public clause cites this module.
use Rattle.std.specs.Prelude.{ℕ, ◌≡◌, ◌++◌, List, Option, Some, None, Result, Ok, Err}
use Rattle.cp_core.specs.Booking.{Booking}
use Rattle.cp_core.specs.Calls.{content_at, epoch_now, writers_key, added, answer_in}
use Rattle.cp_core.specs.Calls.Effect.{Same}
use Rattle.cp_core.specs.declared.leaves_over.LeavesOver.{LeavesOver}
use Rattle.cp_core.specs.declared.request.Request.TheVariants as request
use Rattle.cp_families.specs.Checking.{SignedPut}
use Rattle.cp_statements.specs.View.{put_request_view}
use Rattle.cp_statements.specs.declared.put_request.PutRequest.{PutRequest}
use Rattle.cp_core.specs.Leaves.{numbers_below}
use Rattle.cp_core.specs.declared.answer.Answer.{Answer}
use Rattle.cp_core.specs.declared.answer.Answer.TheVariants.{Booked, CallRefused}
use Rattle.cp_core.specs.declared.call_refusal.CallRefusal.{CallRefusal}
use Rattle.cp_core.specs.declared.call_refusal.CallRefusal.TheVariants as refusal
use Rattle.cp_core.specs.declared.request.Request.{Request}
use Rattle.cp_shard.specs.Model.{ShardModel}
use Rattle.cp_shard.specs.Steps.{contents_after, drawn, step_of, AddsBelow, Refuses}

-- the answer that it stands for; none where memory is wanted
abbrev pub answered : Result Booking CallRefusal → Option Answer
answered (Ok booking) = Some (Booked booking)
answered (Err refusal.OutOfMemory) = None
answered (Err why) = Some (CallRefused why)

-- the put is that of the request, which names the shard's epoch, and its key is the writer's in that epoch
pub record IsWritten (shard : ShardModel) (r : PutRequest) (signature : List ℕ) (p : SignedPut) : Type 0 where
  pub request : p.request ≡ put_request_view r
  pub signed : p.signature ≡ signature
  pub epoch : r.epoch ≡ epoch_now shard.items
  pub key : writers_key shard.first shard.items (put_request_view r) ≡ Some p.key

-- the shard's step refuses the request with any content so, whatever its leaf source answers
abbrev pub RefusesPut : ShardModel → PutRequest → List ℕ → CallRefusal → Type 0
RefusesPut shard r signature why = (pass : ℕ) (content : List ℕ) (leaf : Result ℕ LeavesOver) → step_of shard pass (request.Put r signature content) leaf ≡ Same (CallRefused why)

-- the shard booked the call by its step, and the counter gave the leaf's number, which is below the limit
pub record IsBooked (old new : ShardModel) (before after limit pass : ℕ) (request : Request) (b : Booking) : Type 0 where
  pub answer : answer_in (step_of old pass request (Ok b.leaf)) ≡ Booked b
  pub items : new.items ≡ old.items ++ added (step_of old pass request (Ok b.leaf))
  pub contents : (block : ℕ) → content_at new.contents block ≡ content_at (contents_after (step_of old pass request (Ok b.leaf)) request old.contents) block
  pub below : AddsBelow (step_of old pass request (Ok b.leaf)) limit
  pub given : numbers_below after ≡ numbers_below before ++ drawn (step_of old pass request (Ok b.leaf)) b.leaf
  pub store : new.store ≡ old.store
  pub index : new.index ≡ old.index
  pub pages : new.pages ≡ old.pages
  pub closings : new.closings ≡ old.closings
  pub first : new.first ≡ old.first

-- the shard refused it by its step, and nothing changed
pub record IsRefused (old new : ShardModel) (before after limit pass : ℕ) (request : Request) (why : CallRefusal) : Type 0 where
  pub same : new ≡ old
  pub given : numbers_below after ≡ numbers_below before
  pub refuses : Refuses (step_of old pass request) limit after why

abbrev pub IsServed : ShardModel → ShardModel → ℕ → ℕ → ℕ → ℕ → Request → Result Booking CallRefusal → Type 0
IsServed old new before after limit pass request (Ok b) = IsBooked old new before after limit pass request b
IsServed old new before after limit pass request (Err why) = IsRefused old new before after limit pass request why
