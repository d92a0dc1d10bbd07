-- The statements of the laws on shards (this project's own).
use Rattle.std.specs.Prelude.{ℕ, ◌≡◌, ◌<◌, ◌≤◌, ◌^◌, ◌==◌, List, [], ◌∷◌, ◌++◌, length, map, sum_by, count_by, Result}
use Rattle.std.specs.List.{AllByRecursion}
use Rattle.cp_core.specs.Booking.{Booking}
use Rattle.cp_core.specs.Store.{Store, StoreFits, SpellsFamilies}
use Rattle.cp_core.specs.Life.{RowItem, row_item, rows_in, rows_of, shard_of}
use Rattle.cp_core.specs.Requests.{RequestFits, block_of, store_of}
use Rattle.cp_core.specs.Calls.{answer_in, content_at, epoch_now, latest_of, shard_step}
use Rattle.cp_core.specs.Calls.Effect.{New}
use Rattle.cp_core.specs.Honest.{HonestShard, RowAt}
use Rattle.cp_core.specs.Kept.{IsContentOf}
use Rattle.cp_core.specs.Laws.{Attests}
use Rattle.cp_core.specs.declared.chronicle.Chronicle.{Chronicle}
use Rattle.cp_core.specs.declared.content.Content.{Content}
use Rattle.cp_core.specs.declared.item.Item.{Item}
use Rattle.cp_core.specs.declared.item.Item.TheVariants.{Frozen}
use Rattle.cp_core.specs.declared.request.Request.{Request}
use Rattle.cp_core.specs.declared.leaves_over.LeavesOver.{LeavesOver}
use Rattle.cp_core.specs.declared.answer.Answer.{Answer}
use Rattle.cp_core.specs.declared.answer.Answer.TheVariants.{Booked}

-- a call that its shard books leaves an honest shard honest
abbrev pub CallStaysHonest : Type 0
CallStaysHonest = (s : Store) (k : ℕ) (items : List Item) (contents : List Content) (pages pass : ℕ) (request : Request) (leaf : Result ℕ LeavesOver) (answer : Answer) (row : RowItem)
    → HonestShard s k items → shard_of (block_of request) ≡ k → RequestFits request → store_of request ≡ s.id → length (rows_of items (block_of request)) < 2 ^ 64
    → shard_step s.id pages s.families items contents pass request leaf ≡ New answer row → HonestShard s k (items ++ row_item row ∷ [])

-- so does a freeze with a list that spells families
abbrev pub FreezeStaysHonest : Type 0
FreezeStaysHonest = (s : Store) (k : ℕ) (items : List Item) (next : List ℕ) → HonestShard s k items → SpellsFamilies next → HonestShard s k (items ++ Frozen (epoch_now items) next ∷ [])

abbrev pub StepsStayHonest : Type 0
StepsStayHonest = CallStaysHonest × FreezeStaysHonest

-- each row's text has a length of four bytes
abbrev pub HasShortRows : List Item → Type 0
HasShortRows items = AllByRecursion (λ row. length row.entry < 2 ^ 32) (rows_in items)

abbrev pub RowsAreShort : Type 0
RowsAreShort = (s : Store) (k : ℕ) (items : List Item) → HonestShard s k items → HasShortRows items

-- What is booked at one honest shard, whose latest contents are those of the latest puts, reads as an
-- attestation, and its content is the attested one.
abbrev pub BookingsAttest : Type 0
BookingsAttest = (s : Store) (k : ℕ) (items : List Item) (contents : List Content) (pass : ℕ) (request : Request) (leaf : Result ℕ LeavesOver) (b : Booking)
    → HonestShard s k items → ((block : ℕ) → IsContentOf (latest_of items block) (content_at contents block)) → StoreFits s → RequestFits request → length (rows_in items) < 2 ^ 64
    → answer_in (shard_step s.id s.pages s.families items contents pass request leaf) ≡ Booked b → Attests request b

-- the leaves of the rows, in order
abbrev pub leaves_in : List Item → List ℕ
leaves_in items = map (λ row. row.leaf) (rows_in items)

-- Where the rows of all shards together have each leaf at most once, counted as
-- the tickets' close counts what its seats have drawn, no two rows have one leaf.
abbrev pub LeavesDiffer : Type 0
LeavesDiffer = (r : Chronicle) → length r.shards ≡ 16 → ((x : ℕ) → sum_by (λ items. count_by (λ y. y == x) (leaves_in items)) r.shards ≤ 1)
    → (k₁ : ℕ) (front₁ : List Item) (row₁ : RowItem) (k₂ : ℕ) (front₂ : List Item) (row₂ : RowItem) → RowAt r k₁ front₁ row₁ → RowAt r k₂ front₂ row₂ → row₁.leaf ≡ row₂.leaf → (k₁ ≡ k₂) × (front₁ ≡ front₂)
