-- A call by shards, as its code goes.
use Rattle.std.proofs.Common.{◌≡◌, ℕ, List, ◌++◌, get_or, set, Some, None, Result, Ok, Err, refl, sym, ap, subst, ◌∙◌}
use Rattle.std.specs.Prelude.{IfOk, IfErr, OnOk, OnErr}
use Rattle.std.specs.Vec.{with_item}
use Rattle.cp_statements.specs.View.{put_request_view}
use Rattle.cp_statements.specs.declared.get_request.GetRequest.{GetRequest}
use Rattle.cp_statements.specs.declared.put_request.PutRequest.{PutRequest}
use Rattle.cp_families.specs.Checking.{SignedPut}
use Rattle.cp_core.specs.Booking.{Booking}
use Rattle.cp_core.specs.Leaves.{numbers_below}
use Rattle.cp_core.specs.Life.{shard_of}
use Rattle.cp_core.specs.Requests.{block_of}
use Rattle.cp_core.specs.Calls.{Effect, content_at, added, answer_in}
use Rattle.cp_core.specs.Calls.Effect.{Same, New}
use Rattle.cp_core.specs.Machine.{Admissible, next_leaf, step}
use Rattle.cp_core.specs.View.{Standing}
use Rattle.cp_core.specs.declared.answer.Answer.{Answer}
use Rattle.cp_core.specs.declared.answer.Answer.TheVariants.{Booked, CallRefused}
use Rattle.cp_core.specs.declared.call_refusal.CallRefusal.{CallRefusal}
use Rattle.cp_core.specs.declared.content.Content.{Content}
use Rattle.cp_core.specs.declared.event.Event.TheVariants.{Call}
use Rattle.cp_core.specs.declared.leaves_over.LeavesOver.{LeavesOver}
use Rattle.cp_core.specs.declared.request.Request.{Request}
use Rattle.cp_core.specs.declared.request.Request.TheVariants as ask
use Rattle.cp_shard.specs.Model.{ShardModel}
use Rattle.cp_shard.specs.Steps.{contents_after, drawn, step_of, put_of, AddsBelow, Refuses}
use Rattle.cp_store.specs.Alike.{Alike}
use Rattle.cp_store.specs.Shards.{state_of}
use Rattle.cp_store.specs.Served.{answered, IsServed, RefusesPut}
use Rattle.cp_store.specs.Inside.{store_of, standing_of, IsSharded}
use Rattle.cp_store.specs.declared.sharded.Sharded.TheInside.{Inside}
use Rattle.cp_store.proofs.Serving.{call_is}
use Rattle.cp_store.proofs.Standings.{served, IsReturned, returned}

-- ---- by the shard's clauses

get_contents : (o : Effect) (r : GetRequest) (cs : List Content) → contents_after o (ask.Get r) cs ≡ cs
get_contents (Same answer) r cs = refl
get_contents (New answer row) r cs = refl

pub get_served : (x y : ShardModel) (n n' limit pass : ℕ) (r : GetRequest) (o : Result Booking CallRefusal) → IfOk o (λ b. answer_in (step_of x pass (ask.Get r) (Ok b.leaf)) ≡ Booked b)
    → IfOk o (λ b. y ≡ record x { items = x.items ++ added (step_of x pass (ask.Get r) (Ok b.leaf)) }) → IfOk o (λ b. AddsBelow (step_of x pass (ask.Get r) (Ok b.leaf)) limit) → IfOk o (λ b. numbers_below n' ≡ numbers_below n ++ drawn (step_of x pass (ask.Get r) (Ok b.leaf)) b.leaf)
    → IfErr o (Refuses (step_of x pass (ask.Get r)) limit n') → OnErr o (y ≡ x) → OnErr o (numbers_below n' ≡ numbers_below n) → IsServed x y n n' limit pass (ask.Get r) o
get_served x y n n' limit pass r (Ok b) answer items below given refused unchanged none = record {
  answer = answer;
  items = ap (λ (z : ShardModel). z.items) items;
  contents = λ block. ap (λ (z : ShardModel). content_at z.contents block) items ∙ ap (λ (cs : List Content). content_at cs block) (sym (get_contents (step_of x pass (ask.Get r) (Ok b.leaf)) r x.contents));
  below = below;
  given = given;
  store = ap (λ (z : ShardModel). z.store) items;
  index = ap (λ (z : ShardModel). z.index) items;
  pages = ap (λ (z : ShardModel). z.pages) items;
  closings = ap (λ (z : ShardModel). z.closings) items;
  first = ap (λ (z : ShardModel). z.first) items;
}
get_served x y n n' limit pass r (Err why) answer items below given refused unchanged none = record { same = unchanged; given = none; refuses = refused }

pub put_served : (x y : ShardModel) (n n' limit pass : ℕ) (request : Request) (o : Result Booking CallRefusal) → IfOk o (λ b. answer_in (step_of x pass request (Ok b.leaf)) ≡ Booked b)
    → IfOk o (λ b. y.items ≡ x.items ++ added (step_of x pass request (Ok b.leaf)))
    → IfOk o (λ b. (block : ℕ) → content_at y.contents block ≡ content_at (contents_after (step_of x pass request (Ok b.leaf)) request x.contents) block)
    → IfOk o (λ b. AddsBelow (step_of x pass request (Ok b.leaf)) limit)
    → IfOk o (λ b. numbers_below n' ≡ numbers_below n ++ drawn (step_of x pass request (Ok b.leaf)) b.leaf)
    → y.store ≡ x.store → y.index ≡ x.index → y.pages ≡ x.pages → y.closings ≡ x.closings → y.first ≡ x.first
    → IfErr o (Refuses (step_of x pass request) limit n') → OnErr o (y ≡ x) → OnErr o (numbers_below n' ≡ numbers_below n) → IsServed x y n n' limit pass request o
put_served x y n n' limit pass request (Ok b) answer items contents below given store index pages closings first refused unchanged none = record { answer = answer; items = items; contents = contents; below = below; given = given; store = store; index = index; pages = pages; closings = closings; first = first }
put_served x y n n' limit pass request (Err why) answer items contents below given store index pages closings first refused unchanged none = record { same = unchanged; given = none; refuses = refused }

pub put_is : (p : SignedPut) (r : PutRequest) (signature content : List ℕ) → p.request ≡ put_request_view r → p.signature ≡ signature → put_of p content ≡ ask.Put r signature content
put_is p r signature content request signed = rw (request, signed) refl

-- ---- the whole call

-- the store after it
abbrev pub next_inside : Inside → ℕ → ShardModel → ℕ → Inside
next_inside a k y n = record { store = a.store; families = a.families; attestations = a.attestations; closings = a.closings; pages = a.pages; shards = with_item a.shards k y; leaves = n; closer = a.closer }

pub record IsCallOf {E : Type 0} (a : Inside) (self : Standing) (y : ShardModel) (n pass : ℕ) (request : Request) (r : Result Answer E) : Type 0 where
  pub sharded : IsSharded (next_inside a (shard_of (block_of request)) y n)
  pub store : store_of (next_inside a (shard_of (block_of request)) y n) ≡ self.store
  pub answer : IfOk r (λ answer. answer ≡ (step self.store self.state (Call pass request)).0)
  pub after : OnOk r (Alike (state_of (set a.shards.items (shard_of (block_of request)) y) a.closer n) (step self.store self.state (Call pass request)).1)
  pub unchanged : OnErr r (Alike (state_of (set a.shards.items (shard_of (block_of request)) y) a.closer n) self.state)

inside_called : {E : Type 0} (a : Inside) (x y : ShardModel) (n pass : ℕ) (request : Request) (o : Result Booking CallRefusal) (r : Result Answer E) → IsSharded a → Admissible (store_of a) (Call pass request) → x ≡ get_or a.shards.items (shard_of (block_of request)) x
    → IsServed x y a.leaves n a.attestations pass request o → IfOk r (λ answer. answered o ≡ Some answer) → OnErr r (answered o ≡ None) → IsCallOf a (standing_of a) y n pass request r
inside_called a x y n pass request o r h ok at serves said memory =
    let k : ℕ = shard_of (block_of request) in
    let now : IsServed (get_or a.shards.items k x) y a.leaves n a.attestations pass request o = subst (λ (z : ShardModel). IsServed z y a.leaves n a.attestations pass request o) at serves in
    let back : IsReturned (store_of a) a.shards.items a.closer a.leaves pass request y n r =
    returned (store_of a) a.shards.items a.closer a.leaves pass request y n (answered o) r
    (served (store_of a) a.shards.items a.closer a.leaves n h.between.running.0 pass request x y o h.between.fits h.standing h.between.running.1 ok now) said memory in
    record {
      sharded = record { standing = back.standing; between = record { running = h.between.running; fits = h.between.fits; few = h.between.few } };
      store = refl;
      answer = back.answer;
      after = back.after;
      unchanged = back.unchanged;
    }

pub called : {E : Type 0} (a : Inside) (self : Standing) (x y : ShardModel) (n pass : ℕ) (request : Request) (o : Result Booking CallRefusal) (r : Result Answer E) → standing_of a ≡ self → IsSharded a → Admissible self.store (Call pass request) → x ≡ get_or a.shards.items (shard_of (block_of request)) x
    → IsServed x y a.leaves n a.attestations pass request o → IfOk r (λ answer. answered o ≡ Some answer) → OnErr r (answered o ≡ None) → IsCallOf a self y n pass request r
called a self x y n pass request o r is h ok at serves said memory =
    subst (λ (z : Standing). IsCallOf a z y n pass request r) is
    (inside_called a x y n pass request o r h (subst (λ (z : Standing). Admissible z.store (Call pass request)) (sym is) ok) at serves said memory)

-- ---- a put that the shard's first rules refuse

refused_inside : (a : Inside) (x : ShardModel) (pass : ℕ) (request : Request) (why : CallRefusal) → IsSharded a → x ≡ get_or a.shards.items (shard_of (block_of request)) x → ((leaf : Result ℕ LeavesOver) → step_of x pass request leaf ≡ Same (CallRefused why))
    → step (store_of a) (standing_of a).state (Call pass request) ≡ (CallRefused why, (standing_of a).state)
refused_inside a x pass request why h at refuses =
    call_is (store_of a) a.shards.items a.closer a.leaves pass request x (Same (CallRefused why)) h.standing.made
    (subst (λ (z : ShardModel). step_of z pass request (next_leaf (store_of a) a.leaves) ≡ Same (CallRefused why)) at (refuses (next_leaf (store_of a) a.leaves)))

-- the store's step refuses it so, and changes nothing
pub refused : (a : Inside) (self : Standing) (x : ShardModel) (pass : ℕ) (r : PutRequest) (signature content : List ℕ) (why : CallRefusal) → standing_of a ≡ self → IsSharded a → x ≡ get_or a.shards.items (shard_of r.block) x → RefusesPut x r signature why
    → step self.store self.state (Call pass (ask.Put r signature content)) ≡ (CallRefused why, self.state)
refused a self x pass r signature content why is h at refuses =
    subst (λ (z : Standing). step z.store z.state (Call pass (ask.Put r signature content)) ≡ (CallRefused why, z.state)) is
    (refused_inside a x pass (ask.Put r signature content) why h at (refuses pass content))
