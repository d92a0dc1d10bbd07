-- The plain store: what each event does to the whole (this project's own).
use Rattle.std.specs.Prelude.{ℕ, ◌+◌, ◌-◌, ◌<◌, ◌≤◌, ◌≡◌, List, [], ◌∷◌, ◌++◌, get_or, set, Option, Some, None, Result, Ok, Err, nat_le, nat_lt, ◌==◌, if◌then◌else◌, replicate}
use Rattle.sha2.specs.Sha256.{sha256}
use Rattle.cp_core.specs.Store.{Store, SpellsFamilies}
use Rattle.cp_core.specs.Life.{row_item, freeze_item, shard_of, items_of}
use Rattle.cp_core.specs.Requests.{store_of, block_of, RequestFits}
use Rattle.cp_core.specs.Calls.{Effect, shard_step}
use Rattle.cp_core.specs.Calls.Effect.{Same, New}
use Rattle.cp_core.specs.Sealing.{families_at, seal_at}
use Rattle.cp_core.specs.declared.content.Content.{Content}
use Rattle.cp_core.specs.declared.item.Item.{Item}
use Rattle.cp_core.specs.declared.chronicle.Chronicle.{Chronicle}
use Rattle.cp_core.specs.declared.request.Request.{Request}
use Rattle.cp_core.specs.declared.request.Request.TheVariants as request
use Rattle.cp_core.specs.declared.leaves_over.LeavesOver.{LeavesOver}
use Rattle.cp_core.specs.declared.close_refusal.CloseRefusal.TheVariants as refusal
use Rattle.cp_core.specs.declared.phase.Phase.{Phase}
use Rattle.cp_core.specs.declared.phase.Phase.TheVariants.{Running, Half, Full, Sealed}
use Rattle.cp_core.specs.declared.event.Event.{Event}
use Rattle.cp_core.specs.declared.event.Event.TheVariants.{Call, Begin, Freeze, Seal, Publish, Read}
use Rattle.cp_core.specs.declared.answer.Answer.{Answer}
use Rattle.cp_core.specs.declared.answer.Answer.TheVariants.{CloseRefused, Done, Text, NotClosed, NotNow}

pub record State : Type 0 where
  pub life : Chronicle
  pub contents : List Content
  pub phase : Phase
  pub published : ℕ  -- the number of closings that are published
  pub kept : List ℕ  -- the text of the list that freezes bring; before a closing begins that of its epoch
  pub drawn : ℕ  -- the number of leaves that are drawn for attestations

-- ---- which events the store takes

-- a put's content has the hash that its request names
abbrev pub HasContent : Request → Type 0
HasContent (request.Put r signature content) = sha256 content ≡ r.content
HasContent (request.Get r) = Unit {0}

-- the list that a closing names for the next epoch, if it names one, spells families
abbrev pub SpellsNext : Option (List ℕ) → Type 0
SpellsNext None = Unit {0}
SpellsNext (Some next) = SpellsFamilies next

-- The event may come: a call names the store, fits its fields and brings its content; a list spells
-- families, a shard is one of the sixteen, and an epoch is at least 1.
abbrev pub Admissible : Store → Event → Type 0
Admissible s (Call pass request) = (store_of request ≡ s.id) × RequestFits request × HasContent request
Admissible s (Begin next) = SpellsNext next
Admissible s (Freeze k) = k < 16
Admissible s Seal = Unit {0}
Admissible s Publish = Unit {0}
Admissible s (Read e) = 1 ≤ e

-- ---- a call

-- the counter's answer: the next leaf, as long as there is one
abbrev pub next_leaf : Store → ℕ → Result ℕ LeavesOver
next_leaf s drawn = if nat_lt drawn s.attestations then Ok drawn else Err (record { drawn = drawn; limit = s.attestations })

abbrev pub with_items : Chronicle → ℕ → List Item → Chronicle
with_items r k items = record r { shards = set r.shards k items }

-- the life with one more item of a shard
abbrev pub appended : Chronicle → ℕ → Item → Chronicle
appended r k item = with_items r k (get_or r.shards k [] ++ item ∷ [])

-- the content that a call brings
abbrev pub content_in : Request → Option Content
content_in (request.Put r signature content) = Some (record { block = r.block; bytes = content })
content_in (request.Get r) = None

-- the contents with one more, if there is one
abbrev pub with_content : List Content → Option Content → List Content
with_content contents (Some content) = contents ++ content ∷ []
with_content contents None = contents

-- the state with a new call's row, its content, and its leaf drawn
abbrev pub with_row : State → Request → Item → State
with_row st request row = record { life = appended st.life (shard_of (block_of request)) row; contents = with_content st.contents (content_in request); phase = st.phase; published = st.published; kept = st.kept; drawn = st.drawn + 1 }

abbrev pub after_call : State → Request → Effect → Answer × State
after_call st request (Same answer) = (answer, st)
after_call st request (New answer row) = (answer, with_row st request (row_item row))

-- ---- each event in each phase

abbrev pub after_freeze : ℕ → ℕ → Phase
after_freeze e k = if k == 15 then Full e else Half e (k + 1)

-- the list that is named, or else this one
abbrev pub next_or : Option (List ℕ) → List ℕ → List ℕ
next_or None now = now
next_or (Some next) now = next

-- the closing of epoch e has begun, with this list for the next one
abbrev pub begun : Store → State → ℕ → Option (List ℕ) → State
begun s st e next = record st { phase = Half e 0; kept = next_or next (families_at s st.life e) }

unfoldable pub step_in : Store → State → Event → Phase → Answer × State
step_in s st (Call pass request) p = after_call st request (shard_step s.id s.pages s.families (items_of st.life (block_of request)) st.contents pass request (next_leaf s st.drawn))
step_in s st (Begin next) (Running e) = if e - 1 == s.closings then (CloseRefused (refusal.ClosingsOver (e - 1) s.closings), st) else (Done, begun s st e next)
step_in s st (Freeze k) (Half e j) = if k == j then (Done, record st { life = appended st.life k (freeze_item (record { epoch = e; next = st.kept })); phase = after_freeze e k }) else (NotNow (Half e j), st)
step_in s st Seal (Full e) = (Done, record st { life = record st.life { seals = st.life.seals ++ seal_at s st.life e ∷ [] }; phase = Sealed e })
step_in s st Publish (Sealed e) = (Done, record st { published = e; phase = Running (e + 1) })
step_in s st (Read e) p = if nat_le e st.published then (Text e, st) else (NotClosed st.published, st)
step_in s st (Begin next) (Half e j) = (NotNow (Half e j), st)
step_in s st (Begin next) (Full e) = (NotNow (Full e), st)
step_in s st (Begin next) (Sealed e) = (NotNow (Sealed e), st)
step_in s st (Freeze k) (Running e) = (NotNow (Running e), st)
step_in s st (Freeze k) (Full e) = (NotNow (Full e), st)
step_in s st (Freeze k) (Sealed e) = (NotNow (Sealed e), st)
step_in s st Seal (Running e) = (NotNow (Running e), st)
step_in s st Seal (Half e j) = (NotNow (Half e j), st)
step_in s st Seal (Sealed e) = (NotNow (Sealed e), st)
step_in s st Publish (Running e) = (NotNow (Running e), st)
step_in s st Publish (Half e j) = (NotNow (Half e j), st)
step_in s st Publish (Full e) = (NotNow (Full e), st)

-- the answer and the state after
abbrev pub step : Store → State → Event → Answer × State
step s st event = step_in s st event st.phase

-- ---- lists of events

abbrev pub run_from : Store → State → List Event → State
run_from s st [] = st
run_from s st (e ∷ es) = run_from s (step s st e).1 es

-- no item, no seal, epoch 1, whose list is the first one
abbrev pub opening : Store → State
opening s = record { life = record { shards = replicate 16 []; seals = [] }; contents = []; phase = Running 1; published = 0; kept = s.families; drawn = 0 }

-- the state after these events, from the opening
abbrev pub run : Store → List Event → State
run s events = run_from s (opening s) events
