-- A store by shards stands rightly after each call.
use Rattle.std.proofs.Common.{◌≡◌, ℕ, ◌+◌, ◌<◌, ◌≤◌, Bool, true, false, cond, eqb, List, [], ◌∷◌, ◌++◌, flat_map, get_or, set, Option, Some, None, Result, Ok, Err, refl, sym, ap, subst, ◌∙◌, arith}
use Rattle.std.proofs.lemmas.Bool.{eqb-true, eqb-false}
use Rattle.std.proofs.lemmas.List.{append-nil, set-get_or}
use Rattle.std.specs.Prelude.{IfOk, OnOk, OnErr}
use Rattle.cp_chain.proofs.Each.{each_last}
use Rattle.cp_core.proofs.ContentLemmas.{contents_other}
use Rattle.cp_core.proofs.LifeLemmas.{at_same}
use Rattle.cp_core.proofs.RowLemmas.{spells_reads}
use Rattle.cp_core.specs.Booking.{Booking}
use Rattle.cp_core.specs.Store.{Store, StoreFits}
use Rattle.cp_core.specs.Life.{RowItem, row_item, freezes, items_of, shard_of}
use Rattle.cp_core.specs.Requests.{block_of}
use Rattle.cp_core.specs.Calls.{Effect, content_at, latest_of, added, answer_in}
use Rattle.cp_core.specs.Calls.Effect.{Same, New}
use Rattle.cp_core.specs.Leaves.{numbers_below}
use Rattle.cp_core.specs.Honest.{Honest, IsItemOf, IsRowOf}
use Rattle.cp_core.specs.Kept.{Keeps, PhaseFits, IsContentOf}
use Rattle.cp_core.specs.Machine.{State, Admissible, step, with_row, next_leaf, content_in, with_content, appended}
use Rattle.cp_core.specs.declared.answer.Answer.{Answer}
use Rattle.cp_core.specs.declared.answer.Answer.TheVariants.{Booked, CallRefused}
use Rattle.cp_core.specs.declared.call_refusal.CallRefusal.{CallRefusal}
use Rattle.cp_core.specs.declared.call_refusal.CallRefusal.TheVariants as refusal
use Rattle.cp_core.specs.declared.chronicle.Chronicle.{Chronicle}
use Rattle.cp_core.specs.declared.content.Content.{Content}
use Rattle.cp_core.specs.declared.item.Item.{Item}
use Rattle.cp_core.specs.declared.event.Event.TheVariants.{Call}
use Rattle.cp_core.specs.declared.leaves_over.LeavesOver.{LeavesOver}
use Rattle.cp_core.specs.declared.phase.Phase.{Phase}
use Rattle.cp_core.specs.declared.phase.Phase.TheVariants.{Running}
use Rattle.cp_core.specs.declared.request.Request.{Request}
use Rattle.cp_closer.specs.Closer.{CloserState}
use Rattle.cp_closer.specs.Laws.{HaveFrozen, IsCloserOf}
use Rattle.cp_shard.specs.Model.{ShardModel}
use Rattle.cp_shard.specs.Steps.{contents_after, drawn, step_of, AddsBelow}
use Rattle.cp_store.specs.Alike.{Alike}
use Rattle.cp_store.specs.Shards.{AreMade, own_contents, state_of, IsStanding}
use Rattle.cp_store.specs.Served.{answered, IsBooked, IsRefused, IsServed}
use Rattle.cp_store.proofs.Alikes.{alike_refl, alike_sym, alike_eq, with_contents, is_with, more_at}
use Rattle.cp_closer.proofs.Growing.{closer_stays, frozen_fits}
use Rattle.cp_core.proofs.SealLemmas.{each_keeps, honest_stands}
use Rattle.cp_store.proofs.ShardContents.{contents_there}
use Rattle.cp_store.proofs.Serving.{given_none, given_one, settled_always, row_leaf, call_is, next_is, next_none, low, made_set, life_same, life_more, contents_set}

-- ---- what is kept is kept alike

keeps_with : (s : Store) (b : State) (c : List Content) → ((block : ℕ) → content_at c block ≡ content_at b.contents block) → Keeps s b → Keeps s (with_contents b c)
keeps_with s b c same k = record {
  honest = k.honest;
  phase = k.phase;
  kept = k.kept;
  drawn = k.drawn;
  drawn_within = k.drawn_within;
  counted = k.counted;
  contents = λ block. subst (IsContentOf (latest_of (items_of b.life block) block)) (sym (same block)) (k.contents block);
}

pub keeps_alike : (s : Store) (a b : State) → Alike a b → Keeps s b → Keeps s a
keeps_alike s a b h k = subst (Keeps s) (sym (is_with b a (alike_sym a b h))) (keeps_with s b a.contents h.contents k)

-- ---- the state after a call

-- what the shard's contents are after an outcome
abbrev After : ShardModel → ShardModel → Request → Effect → Type 0
After x y request o = (block : ℕ) → content_at y.contents block ≡ content_at (contents_after o request x.contents) block

same_alike : (s : Store) (shards : List ShardModel) (c : CloserState) (n k : ℕ) (d y : ShardModel) (request : Request) (answer : Answer) → AreMade s shards → AreMade s (set shards k y) → k < 16
    → y.items ≡ (get_or shards k d).items ++ [] → After (get_or shards k d) y request (Same answer) → Alike (state_of (set shards k y) c n) (state_of shards c n)
same_alike s shards c n k d y request answer made now lt items contents = record { life = life_same shards c n k d y s made lt items; phase = refl; published = refl; kept = refl; drawn = refl; contents = at }
  where
    go : (b : ℕ) (t : Bool) → eqb (shard_of b) k ≡ t → cond t (content_at y.contents b) (content_at (flat_map own_contents shards) b) ≡ content_at (flat_map own_contents shards) b
    go b true e = contents b ∙ ap (λ (i : ℕ). content_at (get_or shards i d).contents b) (sym (eqb-true (shard_of b) k e)) ∙ sym (contents_there s shards b d made)
    go b false e = refl

    at : (b : ℕ) → content_at (flat_map own_contents (set shards k y)) b ≡ content_at (flat_map own_contents shards) b
    at b = contents_set s shards k d y b made now lt ∙ go b (eqb (shard_of b) k) refl

new_alike : (s : Store) (shards : List ShardModel) (c : CloserState) (n : ℕ) (d y : ShardModel) (request : Request) (answer : Answer) (row : RowItem) → AreMade s shards → AreMade s (set shards (shard_of (block_of request)) y)
    → y.items ≡ (get_or shards (shard_of (block_of request)) d).items ++ row_item row ∷ [] → After (get_or shards (shard_of (block_of request)) d) y request (New answer row)
    → Alike (state_of (set shards (shard_of (block_of request)) y) c (n + 1)) (with_row (state_of shards c n) request (row_item row))
new_alike s shards c n d y request answer row made now items contents =
    record { life = life_more shards c (n + 1) n k d y (row_item row) s made lt items; phase = refl; published = refl; kept = refl; drawn = refl; contents = at }
  where
    k : ℕ
    k = shard_of (block_of request)

    lt : k < 16
    lt = low (block_of request)

    go : (b : ℕ) (t : Bool) → eqb (shard_of b) k ≡ t → cond t (content_at y.contents b) (content_at (flat_map own_contents shards) b) ≡ content_at (with_content (flat_map own_contents shards) (content_in request)) b
    go b true e =
        contents b
        ∙ more_at (get_or shards k d).contents (flat_map own_contents shards) request b
        (ap (λ (i : ℕ). content_at (get_or shards i d).contents b) (sym (eqb-true (shard_of b) k e)) ∙ sym (contents_there s shards b d made))
    go b false e = sym (contents_other (flat_map own_contents shards) request b (λ same. eqb-false (shard_of b) k e (ap shard_of (sym same))))

    at : (b : ℕ) → content_at (flat_map own_contents (set shards k y)) b ≡ content_at (with_content (flat_map own_contents shards) (content_in request)) b
    at b = contents_set s shards k d y b made now lt ∙ go b (eqb (shard_of b) k) refl

-- ---- the closer of the life with one more item

pub closer_more : (s : Store) (st : State) (c : CloserState) (k : ℕ) (item : Item) → Keeps s st → IsCloserOf s st.life c → c.phase ≡ st.phase → k < 16 → Honest s (appended st.life k item) → IsCloserOf s (appended st.life k item) c
closer_more s st c k item keeps of at lt honest =
    closer_stays s st.life c k (item ∷ []) of (subst (HaveFrozen st.life) (sym at) (frozen_fits s st.life st.kept st.phase st.published keeps.phase)) keeps.honest.sixteen lt (honest_stands s (appended st.life k item) honest)

-- ---- a call

-- what a call leads to: the store stands, and the answer and the state are the step's
pub record IsCalled (s : Store) (shards : List ShardModel) (c : CloserState) (n pass : ℕ) (request : Request) (shards' : List ShardModel) (n' : ℕ) (answer : Answer) : Type 0 where
  pub standing : IsStanding s shards' c n'
  pub answer_is : answer ≡ (step s (state_of shards c n) (Call pass request)).0
  pub alike : Alike (state_of shards' c n') (step s (state_of shards c n) (Call pass request)).1

called_same : (s : Store) (shards : List ShardModel) (c : CloserState) (n pass : ℕ) (request : Request) (d y : ShardModel) (answer : Answer) → IsStanding s shards c n
    → step_of (get_or shards (shard_of (block_of request)) d) pass request (next_leaf s n) ≡ Same answer → AreMade s (set shards (shard_of (block_of request)) y)
    → y.items ≡ (get_or shards (shard_of (block_of request)) d).items ++ [] → After (get_or shards (shard_of (block_of request)) d) y request (Same answer)
    → IsCalled s shards c n pass request (set shards (shard_of (block_of request)) y) n answer
called_same s shards c n pass request d y answer st o now items contents =
    let alike = same_alike s shards c n (shard_of (block_of request)) d y request answer st.made now (low (block_of request)) items contents in
    let is : step s (state_of shards c n) (Call pass request) ≡ (answer, state_of shards c n) = call_is s shards c n pass request d (Same answer) st.made o in
    record {
      standing = record { made = now; keeps = keeps_alike s _ (state_of shards c n) alike st.keeps; closer = subst (λ (r : Chronicle). IsCloserOf s r c) (sym alike.life) st.closer };
      answer_is = sym (ap (λ (x : Answer × State). x.0) is);
      alike = subst (λ (x : Answer × State). Alike (state_of (set shards (shard_of (block_of request)) y) c n) x.1) (sym is) alike;
    }

called_new : (s : Store) (shards : List ShardModel) (c : CloserState) (n e pass : ℕ) (request : Request) (d y : ShardModel) (answer : Answer) (row : RowItem) → StoreFits s → IsStanding s shards c n → c.phase ≡ Running e → Admissible s (Call pass request)
    → step_of (get_or shards (shard_of (block_of request)) d) pass request (next_leaf s n) ≡ New answer row → AreMade s (set shards (shard_of (block_of request)) y)
    → y.items ≡ (get_or shards (shard_of (block_of request)) d).items ++ row_item row ∷ [] → After (get_or shards (shard_of (block_of request)) d) y request (New answer row)
    → IsCalled s shards c n pass request (set shards (shard_of (block_of request)) y) (n + 1) answer
called_new s shards c n e pass request d y answer row fits st phase ok o now items contents =
    let k : ℕ = shard_of (block_of request) in
    let old : State = state_of shards c n in
    let new : State = with_row old request (row_item row) in
    let alike : Alike (state_of (set shards k y) c (n + 1)) new = new_alike s shards c n d y request answer row st.made now items contents in
    let is : step s old (Call pass request) ≡ (answer, new) = call_is s shards c n pass request d (New answer row) st.made o in
    let kept : Keeps s new = subst (λ (x : Answer × State). Keeps s x.1) is (each_keeps s old (Call pass request) fits st.keeps ok) in
    let closer : IsCloserOf s new.life c = closer_more s old c k (row_item row) st.keeps st.closer refl (low (block_of request)) kept.honest in
    record {
      standing = record { made = now; keeps = keeps_alike s _ new alike kept; closer = subst (λ (r : Chronicle). IsCloserOf s r c) (sym alike.life) closer };
      answer_is = sym (ap (λ (x : Answer × State). x.0) is);
      alike = subst (λ (x : Answer × State). Alike (state_of (set shards k y) c (n + 1)) x.1) (sym is) alike;
    }

-- ---- by what the shard answers

-- the store after the call
abbrev pub IsServedStore : Store → List ShardModel → CloserState → ℕ → ℕ → Request → ShardModel → ℕ → Option Answer → Type 0
IsServedStore s shards c n pass request y n' (Some answer) = IsCalled s shards c n pass request (set shards (shard_of (block_of request)) y) n' answer
IsServedStore s shards c n pass request y n' None = IsStanding s (set shards (shard_of (block_of request)) y) c n' × Alike (state_of (set shards (shard_of (block_of request)) y) c n') (state_of shards c n)

booked_case : (s : Store) (shards : List ShardModel) (c : CloserState) (n n' e pass : ℕ) (request : Request) (d y : ShardModel) (b : Booking) (o : Effect) → StoreFits s → IsStanding s shards c n → c.phase ≡ Running e → Admissible s (Call pass request)
    → IsBooked (get_or shards (shard_of (block_of request)) d) y n n' s.attestations pass request b → step_of (get_or shards (shard_of (block_of request)) d) pass request (Ok b.leaf) ≡ o
    → IsCalled s shards c n pass request (set shards (shard_of (block_of request)) y) n' (Booked b)
booked_case s shards c n n' e pass request d y b (Same answer) fits st phase ok h is =
    let k : ℕ = shard_of (block_of request) in
    let x : ShardModel = get_or shards k d in
    let now = made_set s shards k d y st.made (low (block_of request)) h.store h.index h.pages h.closings h.first in
    let none : n' ≡ n = given_none n n' (h.given ∙ ap (λ (o : Effect). numbers_below n ++ drawn o b.leaf) is ∙ append-nil _) in
    let answer_is : answer ≡ Booked b = sym (ap answer_in is) ∙ h.answer in
    let r = called_same s shards c n pass request d y answer st (settled_always x pass request b.leaf answer (next_leaf s n) is) now (h.items ∙ ap (λ (o : Effect). x.items ++ added o) is) (λ block. h.contents block ∙ ap (λ (o : Effect). content_at (contents_after o request x.contents) block) is) in
    subst (λ (m : ℕ). IsCalled s shards c n pass request (set shards k y) m (Booked b)) (sym none) (subst (IsCalled s shards c n pass request (set shards k y) n) answer_is r)
booked_case s shards c n n' e pass request d y b (New answer row) fits st phase ok h is =
    let k : ℕ = shard_of (block_of request) in
    let x : ShardModel = get_or shards k d in
    let now = made_set s shards k d y st.made (low (block_of request)) h.store h.index h.pages h.closings h.first in
    let one = given_one n n' b.leaf (h.given ∙ ap (λ (o : Effect). numbers_below n ++ drawn o b.leaf) is) in
    let below : row.leaf < s.attestations = subst (λ (o : Effect). AddsBelow o s.attestations) is h.below in
    let answer_is : answer ≡ Booked b = sym (ap answer_in is) ∙ h.answer in
    let lt : n < s.attestations = omega (arith, below, row_leaf x pass request b.leaf answer row is, one.1) in
    let next : Ok b.leaf ≡ next_leaf s n = ap Ok one.1 ∙ sym (next_is s n lt) in
    let r = called_new s shards c n e pass request d y answer row fits st phase ok (ap (step_of x pass request) (sym next) ∙ is) now (h.items ∙ ap (λ (o : Effect). x.items ++ added o) is) (λ block. h.contents block ∙ ap (λ (o : Effect). content_at (contents_after o request x.contents) block) is) in
    subst (λ (m : ℕ). IsCalled s shards c n pass request (set shards k y) m (Booked b)) (sym one.0) (subst (IsCalled s shards c n pass request (set shards k y) (n + 1)) answer_is r)

-- the shards where one is put back as it was
back : (shards : List ShardModel) (k : ℕ) (d y : ShardModel) → y ≡ get_or shards k d → set shards k y ≡ shards
back shards k d y same = ap (set shards k) same ∙ set-get_or shards k d

refused_called : (s : Store) (shards : List ShardModel) (c : CloserState) (n n' pass : ℕ) (request : Request) (d y : ShardModel) (answer : Answer) → IsStanding s shards c n → y ≡ get_or shards (shard_of (block_of request)) d → n' ≡ n
    → step_of (get_or shards (shard_of (block_of request)) d) pass request (next_leaf s n) ≡ Same answer → IsCalled s shards c n pass request (set shards (shard_of (block_of request)) y) n' answer
refused_called s shards c n n' pass request d y answer st same next o =
    let k : ℕ = shard_of (block_of request) in
    let is : step s (state_of shards c n) (Call pass request) ≡ (answer, state_of shards c n) = call_is s shards c n pass request d (Same answer) st.made o in
    let r : IsCalled s shards c n pass request shards n answer = record {
      standing = st;
      answer_is = sym (ap (λ (x : Answer × State). x.0) is);
      alike = subst (λ (x : Answer × State). Alike (state_of shards c n) x.1) (sym is) (alike_refl (state_of shards c n));
    } in
    subst (λ (m : ℕ). IsCalled s shards c n pass request (set shards k y) m answer) (sym next) (subst (λ (xs : List ShardModel). IsCalled s shards c n pass request xs n answer) (sym (back shards k d y same)) r)

-- all leaves were found drawn where all are
over_is : (s : Store) (n n' : ℕ) (over : LeavesOver) → n' ≡ n → over.drawn ≡ n' → over.limit ≡ s.attestations → s.attestations ≤ over.drawn → next_leaf s n ≡ Err over
over_is s n n' over same found limit le =
    next_none s n (omega (arith, same, found, le)) ∙ ap (λ (m : ℕ). Err (record { drawn = m; limit = s.attestations })) (sym (found ∙ same)) ∙ ap (λ (m : ℕ). Err (record { drawn = over.drawn; limit = m })) (sym limit)

refused_case : (s : Store) (shards : List ShardModel) (c : CloserState) (n n' pass : ℕ) (request : Request) (d y : ShardModel) (why : CallRefusal) → IsStanding s shards c n
    → IsRefused (get_or shards (shard_of (block_of request)) d) y n n' s.attestations pass request why → IsServedStore s shards c n pass request y n' (answered (Err why))
refused_case s shards c n n' pass request d y refusal.OutOfMemory st h =
    let same = back shards (shard_of (block_of request)) d y h.same in
    let next : n' ≡ n = given_none n n' h.given in (
      subst (λ (m : ℕ). IsStanding s (set shards (shard_of (block_of request)) y) c m) (sym next) (subst (λ (xs : List ShardModel). IsStanding s xs c n) (sym same) st),
      alike_eq _ _ (ap (λ (xs : List ShardModel). state_of xs c n') same ∙ ap (state_of shards c) next),
    )
refused_case s shards c n n' pass request d y (refusal.LeavesOver over) st h =
    let none : n' ≡ n = given_none n n' h.given in
    let next : next_leaf s n ≡ Err over = over_is s n n' over none h.refuses.1 h.refuses.2 h.refuses.3 in
    refused_called s shards c n n' pass request d y (CallRefused (refusal.LeavesOver over)) st h.same none (ap (step_of (get_or shards (shard_of (block_of request)) d) pass request) next ∙ h.refuses.0)
refused_case s shards c n n' pass request d y (refusal.WrongEpoch current) st h = refused_called s shards c n n' pass request d y (CallRefused (refusal.WrongEpoch current)) st h.same (given_none n n' h.given) (h.refuses (next_leaf s n))
refused_case s shards c n n' pass request d y (refusal.NotAWriter family client) st h = refused_called s shards c n n' pass request d y (CallRefused (refusal.NotAWriter family client)) st h.same (given_none n n' h.given) (h.refuses (next_leaf s n))
refused_case s shards c n n' pass request d y refusal.BadSignature st h = refused_called s shards c n n' pass request d y (CallRefused refusal.BadSignature) st h.same (given_none n n' h.given) (h.refuses (next_leaf s n))
refused_case s shards c n n' pass request d y (refusal.NonceUsed at) st h = refused_called s shards c n n' pass request d y (CallRefused (refusal.NonceUsed at)) st h.same (given_none n n' h.given) (h.refuses (next_leaf s n))
refused_case s shards c n n' pass request d y (refusal.Overtaken latest) st h = refused_called s shards c n n' pass request d y (CallRefused (refusal.Overtaken latest)) st h.same (given_none n n' h.given) (h.refuses (next_leaf s n))
refused_case s shards c n n' pass request d y (refusal.StaleVersion latest) st h = refused_called s shards c n n' pass request d y (CallRefused (refusal.StaleVersion latest)) st h.same (given_none n n' h.given) (h.refuses (next_leaf s n))
refused_case s shards c n n' pass request d y (refusal.PoolFull free need) st h = refused_called s shards c n n' pass request d y (CallRefused (refusal.PoolFull free need)) st h.same (given_none n n' h.given) (h.refuses (next_leaf s n))

pub served : (s : Store) (shards : List ShardModel) (c : CloserState) (n n' e pass : ℕ) (request : Request) (d y : ShardModel) (outcome : Result Booking CallRefusal) → StoreFits s → IsStanding s shards c n → c.phase ≡ Running e → Admissible s (Call pass request)
    → IsServed (get_or shards (shard_of (block_of request)) d) y n n' s.attestations pass request outcome → IsServedStore s shards c n pass request y n' (answered outcome)
served s shards c n n' e pass request d y (Ok b) fits st phase ok h = booked_case s shards c n n' e pass request d y b _ fits st phase ok h refl
served s shards c n n' e pass request d y (Err why) fits st phase ok h = refused_case s shards c n n' pass request d y why st h

-- ---- what a call returns

pub record IsReturned {E : Type 0} (s : Store) (shards : List ShardModel) (c : CloserState) (n pass : ℕ) (request : Request) (y : ShardModel) (n' : ℕ) (r : Result Answer E) : Type 0 where
  pub standing : IsStanding s (set shards (shard_of (block_of request)) y) c n'
  pub answer : IfOk r (λ a. a ≡ (step s (state_of shards c n) (Call pass request)).0)
  pub after : OnOk r (Alike (state_of (set shards (shard_of (block_of request)) y) c n') (step s (state_of shards c n) (Call pass request)).1)
  pub unchanged : OnErr r (Alike (state_of (set shards (shard_of (block_of request)) y) c n') (state_of shards c n))

pub returned : {E : Type 0} (s : Store) (shards : List ShardModel) (c : CloserState) (n pass : ℕ) (request : Request) (y : ShardModel) (n' : ℕ) (o : Option Answer) (r : Result Answer E) → IsServedStore s shards c n pass request y n' o
    → IfOk r (λ a. o ≡ Some a) → OnErr r (o ≡ None) → IsReturned s shards c n pass request y n' r
returned s shards c n pass request y n' o (Ok a) h said memory =
    let called : IsCalled s shards c n pass request (set shards (shard_of (block_of request)) y) n' a = subst (IsServedStore s shards c n pass request y n') said h in
    record { standing = called.standing; answer = called.answer_is; after = called.alike; unchanged = tt }
returned s shards c n pass request y n' o (Err e) h said memory =
    let same : IsServedStore s shards c n pass request y n' None = subst (IsServedStore s shards c n pass request y n') memory h in
    record { standing = same.0; answer = tt; after = tt; unchanged = same.1 }
