-- Each event in its phase, and out of it.
use Rattle.std.specs.Prelude.{IfOk, OnErr}
use Rattle.std.proofs.Common.{◌≡◌, ℕ, ◌+◌, ◌-◌, ◌<◌, ◌≤◌, List, [], ◌∷◌, ◌++◌, Option, Some, None, Result, Ok, Err, refl, sym, ap, subst, ◌∙◌, arith}
use Rattle.std.proofs.lemmas.Bool.{eq-eqb, ne_eqb, le-leb, lt-leb, lt-ltb, le-ltb}
use Rattle.cp_core.specs.declared.close_refusal.CloseRefusal.TheVariants as refusal
use Rattle.cp_core.specs.declared.call_refusal.CallRefusal.TheVariants as calls
use Rattle.cp_core.proofs.EventLemmas.{list_now, opens}
use Rattle.cp_core.proofs.SealLemmas.{each_keeps}
use Rattle.cp_core.specs.Booking.{Booking}
use Rattle.cp_core.specs.Calls.{booked, new_row, settled, shard_step}
use Rattle.cp_core.specs.Kept.{Keeps, PhaseFits}
use Rattle.cp_core.specs.Life.{items_of, row_item, shard_of}
use Rattle.cp_core.specs.Machine.{Admissible, State, after_freeze, appended, begun, content_in, next_or, opening, step, step_in, with_content}
use Rattle.cp_core.specs.Requests.{block_of}
use Rattle.cp_core.specs.Running.{Stands}
use Rattle.cp_core.specs.Sealing.{seal_at}
use Rattle.cp_core.specs.Store.{Store, StoreFits}
use Rattle.cp_core.specs.declared.answer.Answer.{Answer}
use Rattle.cp_core.specs.declared.answer.Answer.TheVariants.{Booked, CallRefused, CloseRefused, Done, NotClosed, NotNow, Text}
use Rattle.cp_core.specs.declared.chronicle.Chronicle.{Chronicle}
use Rattle.cp_core.specs.declared.content.Content.{Content}
use Rattle.cp_core.specs.declared.event.Event.{Event}
use Rattle.cp_core.specs.declared.event.Event.TheVariants.{Begin, Call, Freeze, Publish, Read, Seal}
use Rattle.cp_core.specs.declared.item.Item.{Item}
use Rattle.cp_core.specs.declared.item.Item.TheVariants.{Frozen}
use Rattle.cp_core.specs.declared.phase.Phase.{Phase}
use Rattle.cp_core.specs.declared.phase.Phase.TheVariants.{Full, Half, Running, Sealed}
use Rattle.cp_core.specs.declared.request.Request.{Request}
use Rattle.cp_core.specs.declared.seal_item.SealItem.{SealItem}

-- ---- out of phase

pub begin_other : (s : Store) (st : State) (next : Option (List ℕ)) → ((e : ℕ) → st.phase ≡ Running e → ⊥) → (NotNow st.phase, st) ≡ step s st (Begin next)
unfolding step_in
begin_other s st next other = go st.phase other
  where
    go : (p : Phase) → ((e : ℕ) → p ≡ Running e → ⊥) → (NotNow p, st) ≡ step_in s st (Begin next) p
    go (Running e) other = absurd (other e refl)
    go (Half e j) other = refl
    go (Full e) other = refl
    go (Sealed e) other = refl

pub freeze_other : (s : Store) (st : State) (k : ℕ) → ((e j : ℕ) → st.phase ≡ Half e j → ⊥) → (NotNow st.phase, st) ≡ step s st (Freeze k)
unfolding step_in
freeze_other s st k other = go st.phase other
  where
    go : (p : Phase) → ((e j : ℕ) → p ≡ Half e j → ⊥) → (NotNow p, st) ≡ step_in s st (Freeze k) p
    go (Running e) other = refl
    go (Half e j) other = absurd (other e j refl)
    go (Full e) other = refl
    go (Sealed e) other = refl

pub seal_other : (s : Store) (st : State) → ((e : ℕ) → st.phase ≡ Full e → ⊥) → (NotNow st.phase, st) ≡ step s st Seal
unfolding step_in
seal_other s st other = go st.phase other
  where
    go : (p : Phase) → ((e : ℕ) → p ≡ Full e → ⊥) → (NotNow p, st) ≡ step_in s st Seal p
    go (Running e) other = refl
    go (Half e j) other = refl
    go (Full e) other = absurd (other e refl)
    go (Sealed e) other = refl

pub publish_other : (s : Store) (st : State) → ((e : ℕ) → st.phase ≡ Sealed e → ⊥) → (NotNow st.phase, st) ≡ step s st Publish
unfolding step_in
publish_other s st other = go st.phase other
  where
    go : (p : Phase) → ((e : ℕ) → p ≡ Sealed e → ⊥) → (NotNow p, st) ≡ step_in s st Publish p
    go (Running e) other = refl
    go (Half e j) other = refl
    go (Full e) other = refl
    go (Sealed e) other = absurd (other e refl)

-- ---- in phase

pub begin_over : (s : Store) (st : State) (next : Option (List ℕ)) (e : ℕ) → st.phase ≡ Running e → e - 1 ≡ s.closings → (CloseRefused (refusal.ClosingsOver (e - 1) s.closings), st) ≡ step s st (Begin next)
unfolding step_in
begin_over s st next e at over = rw (at, eq-eqb (e - 1) s.closings over) refl

pub begin_half : (s : Store) (st : State) (next : Option (List ℕ)) (e : ℕ) → st.phase ≡ Running e → (e - 1 ≡ s.closings → ⊥) → (Done, begun s st e next) ≡ step s st (Begin next)
unfolding step_in
begin_half s st next e at over = rw (at, ne_eqb (e - 1) s.closings over) refl

-- until a closing begins the kept list is the epoch's
pub begin_made : (s : Store) (st : State) (next : Option (List ℕ)) (e : ℕ) (kept : List ℕ) → Keeps s st → st.phase ≡ Running e → (e - 1 ≡ s.closings → ⊥) → kept ≡ next_or next st.kept → (Done, record st { phase = Half e 0; kept = kept }) ≡ step s st (Begin next)
begin_made s st next e kept keeps at over is =
    let p : PhaseFits s st.life st.kept (Running e) st.published = subst (λ (q : Phase). PhaseFits s st.life st.kept q st.published) at keeps.phase in
    ap (λ (l : List ℕ). (Done, record st { phase = Half e 0; kept = l })) (is ∙ ap (next_or next) (sym (list_now s st e p 0 (omega arith)))) ∙ begin_half s st next e at over

pub freeze_early : (s : Store) (st : State) (k e j : ℕ) → st.phase ≡ Half e j → (k ≡ j → ⊥) → (NotNow st.phase, st) ≡ step s st (Freeze k)
unfolding step_in
freeze_early s st k e j at other = rw (at, ne_eqb k j other) refl

pub freeze_now : (s : Store) (st : State) (k e j : ℕ) → st.phase ≡ Half e j → k ≡ j → (Done, record st { life = appended st.life k (Frozen e st.kept); phase = after_freeze e k }) ≡ step s st (Freeze k)
unfolding step_in
freeze_now s st k e j at same = rw (at, eq-eqb k j same) refl

pub seal_now : (s : Store) (st : State) (e : ℕ) → st.phase ≡ Full e → (Done, record st { life = record st.life { seals = st.life.seals ++ seal_at s st.life e ∷ [] }; phase = Sealed e }) ≡ step s st Seal
unfolding step_in
seal_now s st e at = rw at refl

pub publish_now : (s : Store) (st : State) (e : ℕ) → st.phase ≡ Sealed e → (Done, record st { published = e; phase = Running (e + 1) }) ≡ step s st Publish
unfolding step_in
publish_now s st e at = rw at refl

pub read_text : (s : Store) (st : State) (e : ℕ) → e ≤ st.published → (Text e, st) ≡ step s st (Read e)
unfolding step_in
read_text s st e le = rw (le-leb e st.published le) refl

pub read_none : (s : Store) (st : State) (e : ℕ) → st.published < e → (NotClosed st.published, st) ≡ step s st (Read e)
unfolding step_in
read_none s st e lt = rw (lt-leb e st.published lt) refl

-- ---- a call

pub call_settled : (s : Store) (st : State) (pass : ℕ) (request : Request) (answer : Answer) → settled s.id s.pages s.families (items_of st.life (block_of request)) st.contents request ≡ Some answer → (answer, st) ≡ step s st (Call pass request)
unfolding step_in shard_step
call_settled s st pass request answer is = rw is refl

pub call_over : (s : Store) (st : State) (pass : ℕ) (request : Request) → settled s.id s.pages s.families (items_of st.life (block_of request)) st.contents request ≡ None → s.attestations ≤ st.drawn
    → (CallRefused (calls.LeavesOver (record { drawn = st.drawn; limit = s.attestations })), st) ≡ step s st (Call pass request)
unfolding step_in shard_step
call_over s st pass request is le = rw (is, le-ltb st.drawn s.attestations le) refl

pub call_new : (s : Store) (st : State) (pass : ℕ) (request : Request) → settled s.id s.pages s.families (items_of st.life (block_of request)) st.contents request ≡ None → st.drawn < s.attestations
    → (Booked (booked s.id (items_of st.life (block_of request)) st.contents request st.drawn), record { life = appended st.life (shard_of (block_of request)) (row_item (new_row (items_of st.life (block_of request)) pass request st.drawn)); contents = with_content st.contents (content_in request); phase = st.phase; published = st.published; kept = st.kept; drawn = st.drawn + 1 }) ≡ step s st (Call pass request)
unfolding step_in shard_step
call_new s st pass request is lt = rw (is, lt-ltb st.drawn s.attestations lt) refl

pub freeze_made : (s : Store) (st : State) (k e j : ℕ) (next : List ℕ) (shards : List (List Item)) (phase : Phase) → st.phase ≡ Half e j → k ≡ j → next ≡ st.kept → shards ≡ (appended st.life k (Frozen e next)).shards → phase ≡ after_freeze e k
    → (Done, record st { life = record { shards = shards; seals = st.life.seals }; phase = phase }) ≡ step s st (Freeze k)
freeze_made s st k e j next shards phase at same is made now =
    ap (λ (xs : List (List Item)). (Done, record st { life = record { shards = xs; seals = st.life.seals }; phase = phase })) (made ∙ ap (λ (l : List ℕ). (appended st.life k (Frozen e l)).shards) is)
    ∙ ap (λ (p : Phase). (Done, record st { life = appended st.life k (Frozen e st.kept); phase = p })) now ∙ freeze_now s st k e j at same

pub keeps_stand : (s : Store) (st : State) (items : List Item) (b d : ℕ) → Keeps s st → items ≡ items_of st.life b → b ≡ d → Stands items
keeps_stand s st items b d keeps is same = subst Stands (sym is) (shard_of b, (keeps.honest.shards (shard_of b) (omega arith)).each)

state_parts : (t : State) (life : Chronicle) (contents : List Content) (phase : Phase) (published : ℕ) (kept : List ℕ) (drawn : ℕ) → t.life ≡ life → t.contents ≡ contents → t.phase ≡ phase → t.published ≡ published → t.kept ≡ kept → t.drawn ≡ drawn → t ≡ record { life = life; contents = contents; phase = phase; published = published; kept = kept; drawn = drawn }
state_parts t life contents phase published kept drawn a b c d e f = rw (sym a, sym b, sym c, sym d, sym e, sym f) refl

pub call_made : (s : Store) (st : State) (pass : ℕ) (request : Request) (b : Booking) (row : Item) (shard block : ℕ) (content : Option Content) (t : State) → settled s.id s.pages s.families (items_of st.life (block_of request)) st.contents request ≡ None → st.drawn < s.attestations
    → b ≡ booked s.id (items_of st.life (block_of request)) st.contents request st.drawn → row ≡ row_item (new_row (items_of st.life (block_of request)) pass request st.drawn) → block ≡ block_of request → shard ≡ shard_of block → content ≡ content_in request
    → t.life ≡ appended st.life shard row → t.contents ≡ with_content st.contents content → t.phase ≡ st.phase → t.published ≡ st.published → t.kept ≡ st.kept → t.drawn ≡ st.drawn + 1 → (Booked b, t) ≡ step s st (Call pass request)
call_made s st pass request b row shard block content t none lt booking rows blocks shards brought life contents phase published list drawn =
    let place : shard ≡ shard_of (block_of request) = shards ∙ ap shard_of blocks in
    let lives : t.life ≡ appended st.life (shard_of (block_of request)) (row_item (new_row (items_of st.life (block_of request)) pass request st.drawn)) = life ∙ ap (λ (k : ℕ). appended st.life k row) place ∙ ap (appended st.life (shard_of (block_of request))) rows in
    let kept : t.contents ≡ with_content st.contents (content_in request) = contents ∙ ap (with_content st.contents) brought in
    ap (λ (x : Booking). (Booked x, t)) booking ∙ ap (λ (x : State). (Booked (booked s.id (items_of st.life (block_of request)) st.contents request st.drawn), x)) (state_parts t _ _ _ _ _ _ lives kept phase published list drawn) ∙ call_new s st pass request none lt

pub seal_made : (s : Store) (st : State) (e : ℕ) (x : SealItem) (seals : List SealItem) → st.phase ≡ Full e → x ≡ seal_at s st.life e → seals ≡ st.life.seals ++ x ∷ []
    → (Done, record st { life = record { shards = st.life.shards; seals = seals }; phase = Sealed e }) ≡ step s st Seal
seal_made s st e x seals at made pushed =
    ap (λ (l : List SealItem). (Done, record st { life = record { shards = st.life.shards; seals = l }; phase = Sealed e })) (pushed ∙ ap (λ (y : SealItem). st.life.seals ++ y ∷ []) made) ∙ seal_now s st e at

-- ---- the store keeps its facts over an event

pub core_keeps : {E : Type 0} (s t : Store) (st now : State) (event : Event) (r : Result Answer E) → StoreFits s → Keeps s st → Admissible s event → t ≡ s → IfOk r (λ answer. (answer, now) ≡ step s st event) → OnErr r (now ≡ st) → StoreFits t × Keeps t now
core_keeps s t st now event (Ok answer) fits keeps ok same stepped unchanged =
    subst (λ (u : Store). StoreFits u × Keeps u now) (sym same) (fits, subst (Keeps s) (sym (ap (λ (p : Answer × State). p.1) stepped)) (each_keeps s st event fits keeps ok))
core_keeps s t st now event (Err e) fits keeps ok same stepped unchanged =
    subst (λ (u : Store). StoreFits u × Keeps u now) (sym same) (fits, subst (Keeps s) (sym unchanged) keeps)

pub opens_at : (s : Store) (st : State) → StoreFits s → st ≡ opening s → Keeps s st
opens_at s st fits is = subst (Keeps s) (sym is) (opens s fits)
