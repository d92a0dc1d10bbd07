-- Stores that stand alike do the same.
use Rattle.std.proofs.Common.{◌≡◌, ℕ, ◌-◌, Bool, true, false, cond, eqb, leb, List, [], ◌∷◌, refl, sym, ap, subst, ◌∙◌}
use Rattle.cp_core.proofs.ContentLemmas.{content_push}
use Rattle.cp_core.specs.Store.{Store}
use Rattle.cp_core.specs.Life.{items_of, freeze_item}
use Rattle.cp_core.specs.Requests.{block_of}
use Rattle.cp_core.specs.Calls.{Effect, content_at, shard_step}
use Rattle.cp_core.specs.Calls.Effect.{Same, New}
use Rattle.cp_core.specs.Machine.{State, step, step_in, after_call, after_freeze, appended, begun, content_in, with_content, next_leaf}
use Rattle.cp_core.specs.declared.content.Content.{Content}
use Rattle.cp_core.specs.declared.answer.Answer.{Answer}
use Rattle.cp_core.specs.declared.answer.Answer.TheVariants.{CloseRefused, Done, Text, NotClosed, NotNow}
use Rattle.cp_core.specs.declared.close_refusal.CloseRefusal.TheVariants as refusal
use Rattle.cp_core.specs.declared.event.Event.{Event}
use Rattle.cp_core.specs.declared.event.Event.TheVariants.{Call, Begin, Freeze, Seal, Publish, Read}
use Rattle.cp_core.specs.declared.phase.Phase.{Phase}
use Rattle.cp_core.specs.declared.phase.Phase.TheVariants.{Running, Half, Full, Sealed}
use Rattle.cp_core.specs.declared.request.Request.{Request}
use Rattle.cp_core.specs.declared.request.Request.TheVariants as ask
use Rattle.cp_store.specs.Alike.{Alike, StepsAlike, RunsAlike}
use Rattle.cp_store.proofs.Blocks.{step_same}

pub alike_refl : (st : State) → Alike st st
alike_refl st = record { life = refl; phase = refl; published = refl; kept = refl; drawn = refl; contents = λ b. refl }

pub alike_sym : (a b : State) → Alike a b → Alike b a
alike_sym a b h = record { life = sym h.life; phase = sym h.phase; published = sym h.published; kept = sym h.kept; drawn = sym h.drawn; contents = λ block. sym (h.contents block) }

pub alike_trans : (a b c : State) → Alike a b → Alike b c → Alike a c
alike_trans a b c h k = record { life = h.life ∙ k.life; phase = h.phase ∙ k.phase; published = h.published ∙ k.published; kept = h.kept ∙ k.kept; drawn = h.drawn ∙ k.drawn; contents = λ block. h.contents block ∙ k.contents block }

pub alike_eq : (a b : State) → a ≡ b → Alike a b
alike_eq a b e = subst (Alike a) e (alike_refl a)

-- the same but for the contents
abbrev pub with_contents : State → List Content → State
with_contents st d = record st { contents = d }

abbrev SameContents : List Content → List Content → Type 0
SameContents c d = (block : ℕ) → content_at c block ≡ content_at d block

alike_with : (st : State) (d : List Content) → SameContents st.contents d → Alike st (with_contents st d)
alike_with st d same = record { life = refl; phase = refl; published = refl; kept = refl; drawn = refl; contents = same }

-- with the content of a call, at one block
pub more_at : (c d : List Content) (request : Request) (block : ℕ) → content_at c block ≡ content_at d block → content_at (with_content c (content_in request)) block ≡ content_at (with_content d (content_in request)) block
more_at c d (ask.Put r signature content) block same =
    let x : Content = record { block = r.block; bytes = content } in
    content_push c x block ∙ ap (cond (eqb x.block block) x.bytes) same ∙ sym (content_push d x block)
more_at c d (ask.Get r) block same = same

abbrev AlikeResults : Answer × State → Answer × State → Type 0
AlikeResults x y = (x.0 ≡ y.0) × Alike x.1 y.1

call_with : (st : State) (d : List Content) (request : Request) (o : Effect) → SameContents st.contents d → AlikeResults (after_call st request o) (after_call (with_contents st d) request o)
call_with st d request (Same answer) same = (refl, alike_with st d same)
call_with st d request (New answer row) same = (refl, record { life = refl; phase = refl; published = refl; kept = refl; drawn = refl; contents = λ block. more_at st.contents d request block (same block) })

step_with : (s : Store) (st : State) (d : List Content) (event : Event) (p : Phase) → SameContents st.contents d → AlikeResults (step_in s st event p) (step_in s (with_contents st d) event p)
unfolding step_in
step_with s st d (Call pass request) p same =
    subst (λ (o : Effect). AlikeResults (after_call st request (shard_step s.id s.pages s.families (items_of st.life (block_of request)) st.contents pass request (next_leaf s st.drawn))) (after_call (with_contents st d) request o))
    (step_same s.id s.pages s.families (items_of st.life (block_of request)) st.contents d pass request (next_leaf s st.drawn) (same (block_of request)))
    (call_with st d request (shard_step s.id s.pages s.families (items_of st.life (block_of request)) st.contents pass request (next_leaf s st.drawn)) same)
step_with s st d (Begin next) (Running e) same = go (eqb (e - 1) s.closings)
  where
    go : (b : Bool) → AlikeResults (cond {A = Answer × State} b (CloseRefused (refusal.ClosingsOver (e - 1) s.closings), st) (Done, begun s st e next)) (cond {A = Answer × State} b (CloseRefused (refusal.ClosingsOver (e - 1) s.closings), with_contents st d) (Done, begun s (with_contents st d) e next))
    go true = (refl, alike_with st d same)
    go false = (refl, alike_with (begun s st e next) d same)
step_with s st d (Freeze k) (Half e j) same = go (eqb k j)
  where
    after : State → State
    after x = record x { life = appended x.life k (freeze_item (record { epoch = e; next = x.kept })); phase = after_freeze e k }

    go : (b : Bool) → AlikeResults (cond {A = Answer × State} b (Done, after st) (NotNow (Half e j), st)) (cond {A = Answer × State} b (Done, after (with_contents st d)) (NotNow (Half e j), with_contents st d))
    go true = (refl, alike_with (after st) d same)
    go false = (refl, alike_with st d same)
step_with s st d Seal (Full e) same = (refl, record { life = refl; phase = refl; published = refl; kept = refl; drawn = refl; contents = same })
step_with s st d Publish (Sealed e) same = (refl, record { life = refl; phase = refl; published = refl; kept = refl; drawn = refl; contents = same })
step_with s st d (Read e) p same = go (leb e st.published)
  where
    go : (b : Bool) → AlikeResults (cond {A = Answer × State} b (Text e, st) (NotClosed st.published, st)) (cond {A = Answer × State} b (Text e, with_contents st d) (NotClosed st.published, with_contents st d))
    go true = (refl, alike_with st d same)
    go false = (refl, alike_with st d same)
step_with s st d (Begin next) (Half e j) same = (refl, alike_with st d same)
step_with s st d (Begin next) (Full e) same = (refl, alike_with st d same)
step_with s st d (Begin next) (Sealed e) same = (refl, alike_with st d same)
step_with s st d (Freeze k) (Running e) same = (refl, alike_with st d same)
step_with s st d (Freeze k) (Full e) same = (refl, alike_with st d same)
step_with s st d (Freeze k) (Sealed e) same = (refl, alike_with st d same)
step_with s st d Seal (Running e) same = (refl, alike_with st d same)
step_with s st d Seal (Half e j) same = (refl, alike_with st d same)
step_with s st d Seal (Sealed e) same = (refl, alike_with st d same)
step_with s st d Publish (Running e) same = (refl, alike_with st d same)
step_with s st d Publish (Half e j) same = (refl, alike_with st d same)
step_with s st d Publish (Full e) same = (refl, alike_with st d same)

pub is_with : (a b : State) → Alike a b → b ≡ with_contents a b.contents
is_with a b h = rw (h.life, h.phase, h.published, h.kept, h.drawn) refl

pub steps_alike : StepsAlike
steps_alike s a b event h =
    subst (λ (x : State). AlikeResults (step s a event) (step s x event)) (sym (is_with a b h)) (step_with s a b.contents event a.phase h.contents)

pub runs_alike : RunsAlike
runs_alike s a b [] h = h
runs_alike s a b (e ∷ es) h = runs_alike s (step s a e).1 (step s b e).1 es (steps_alike s a b e h).1
