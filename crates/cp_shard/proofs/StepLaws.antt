-- The shard's step, split into the calls that need no new entry and those that do.
use Rattle.std.proofs.Common.{◌≡◌, ℕ, ◌+◌, ◌-◌, Bool, true, false, cond, not, eqb, ltb, ◌&&◌, List, [], Option, Some, None, Result, refl, sym, ap, ◌∙◌, arith}
use Rattle.std.specs.Prelude.{bytes_eq}
use Rattle.std.proofs.lemmas.Bool.{eqb-true, eq-eqb, ne_eqb, not-false, false≢true}
use Rattle.cp_statements.specs.Attestation.{Attestation, attestation_text}
use Rattle.cp_statements.specs.Entry.{Entry}
use Rattle.cp_statements.specs.PutRequest.{put_request_text}
use Rattle.cp_statements.specs.PutRequest as put_spec
use Rattle.cp_statements.specs.GetRequest as get_spec
use Rattle.cp_statements.specs.declared.kind.Kind.{Kind}
use Rattle.cp_statements.specs.declared.kind.Kind.TheVariants.{Put, Get}
use Rattle.cp_statements.specs.GetRequest.{get_request_text}
use Rattle.cp_statements.specs.View.{kind_byte, attestation_view, put_request_view, get_request_view}
use Rattle.cp_statements.specs.declared.put_request.PutRequest.{PutRequest}
use Rattle.cp_statements.specs.declared.get_request.GetRequest.{GetRequest}
use Rattle.cp_tips.specs.Tip.{fresh}
use Rattle.cp_families.specs.Checking.{SignedPut, IsSigned}
use Rattle.cp_chain.specs.Legal.{latest}
use Rattle.cp_core.specs.Booking.{Booking}
use Rattle.cp_core.specs.Life.{RowItem, tip_after}
use Rattle.cp_core.specs.Requests.{epoch_of, block_of, client_of, nonce_of, pages_of, request_text}
use Rattle.cp_core.specs.Calls.{Effect, epoch_now, latest_of, writers_key, unsigned_by, unwritten, or_else, found, is_stale, again_entry, is_overtaken, asked_text, text_again, attested, content_for, content_at, pages_free, shard_step, with_leaf, at_found, first_refused, settled, unless_settled}
use Rattle.cp_core.specs.declared.content.Content.{Content}
use Rattle.cp_core.specs.Calls.Effect.{Same}
use Rattle.cp_core.specs.declared.item.Item.{Item}
use Rattle.cp_core.specs.declared.request.Request.{Request}
use Rattle.cp_core.specs.declared.request.Request.TheVariants as ask
use Rattle.cp_core.specs.declared.leaves_over.LeavesOver.{LeavesOver}
use Rattle.cp_core.specs.declared.call_refusal.CallRefusal.TheVariants as refusal
use Rattle.cp_core.specs.declared.answer.Answer.{Answer}
use Rattle.cp_core.specs.declared.answer.Answer.TheVariants.{Booked, CallRefused}
use Rattle.cp_shard.specs.declared.key.Key.{Key}
use Rattle.cp_shard.specs.declared.call.Call.{Call}
use Rattle.cp_shard.specs.Asked.{asked_by}
use Rattle.cp_shard.specs.Kept.{tip_of}
use Rattle.cp_shard.specs.Places.{found_at, head_before, IsCallAt}
use Rattle.cp_shard.specs.Model.{ShardModel}
use Rattle.cp_shard.specs.Steps.{IsByWriter, early_at, early}
use Rattle.cp_shard.proofs.Texts.{put_is_no_get, get_is_no_put}

-- ---- the split

-- what is asked of the leaf source, or refused for want of pages
abbrev pub late : List ℕ → ℕ → List Item → List Content → ℕ → Request → Result ℕ LeavesOver → Effect
late store pages items contents pass request leaf = cond (ltb (pages_free pages items) (pages_of request)) (Same (CallRefused (refusal.PoolFull (pages_free pages items) (pages_of request)))) (with_leaf store items contents pass request leaf)

full : ℕ → List Item → Request → Option Answer
full pages items request = cond (ltb (pages_free pages items) (pages_of request)) (Some (CallRefused (refusal.PoolFull (pages_free pages items) (pages_of request)))) None

abbrev pub or_late : Option Answer → Effect → Effect
or_late (Some a) outcome = Same a
or_late None outcome = outcome

full_late : (store : List ℕ) (pages : ℕ) (items : List Item) (contents : List Content) (pass : ℕ) (request : Request) (leaf : Result ℕ LeavesOver) → unless_settled (full pages items request) (with_leaf store items contents pass request leaf) ≡ late store pages items contents pass request leaf
unfolding full
full_late store pages items contents pass request leaf = go (ltb (pages_free pages items) (pages_of request))
  where
    go : (t : Bool) → unless_settled (cond t (Some (CallRefused (refusal.PoolFull (pages_free pages items) (pages_of request)))) None) (with_leaf store items contents pass request leaf)
        ≡ cond t (Same (CallRefused (refusal.PoolFull (pages_free pages items) (pages_of request)))) (with_leaf store items contents pass request leaf)
    go true = refl
    go false = refl

at_split : (store : List ℕ) (pages : ℕ) (items : List Item) (contents : List Content) (pass : ℕ) (request : Request) (leaf : Result ℕ LeavesOver) (o : Option RowItem) → unless_settled (at_found store pages items contents request o) (with_leaf store items contents pass request leaf) ≡ or_late (early_at store items contents request o) (late store pages items contents pass request leaf)
unfolding first_refused full
at_split store pages items contents pass request leaf (Some r) = refl
at_split store pages items contents pass request leaf None = go (is_stale items request) (full_late store pages items contents pass request leaf)
  where
    go : (t : Bool) → unless_settled (full pages items request) (with_leaf store items contents pass request leaf) ≡ late store pages items contents pass request leaf
        → unless_settled (cond t (Some (CallRefused (refusal.StaleVersion (latest_of items (block_of request)).version))) (full pages items request)) (with_leaf store items contents pass request leaf)
        ≡ or_late (cond t (Some (CallRefused (refusal.StaleVersion (latest_of items (block_of request)).version))) None) (late store pages items contents pass request leaf)
    go true h = refl
    go false h = h

-- who may make the call in the shard's epoch: anyone a get, and a put the writer whose key signed it
abbrev pub MayWrite : List ℕ → List Item → Request → Type 0
MayWrite list items request = epoch_of request ≡ epoch_now items → unwritten list items request ≡ None

pub get_may : (list : List ℕ) (items : List Item) (r : GetRequest) → MayWrite list items (ask.Get r)
unfolding unwritten
get_may list items r same = refl

pub put_may : (s : ShardModel) (p : SignedPut) (r : PutRequest) (content : List ℕ) → put_request_view r ≡ p.request → IsSigned p → IsByWriter s p → MayWrite s.first s.items (ask.Put r p.signature content)
unfolding unwritten
put_may s p r content is signed by same =
    let key : writers_key s.first s.items p.request ≡ Some p.key = by (ap (λ (x : put_spec.PutRequest). x.epoch) (sym is) ∙ same) in
    ap (λ x. unsigned_by x p.signature (writers_key s.first s.items x)) is ∙ ap (unsigned_by p.request p.signature) key ∙ ap (λ t. cond t None (Some (CallRefused refusal.BadSignature))) signed

pub split : (store : List ℕ) (pages : ℕ) (list : List ℕ) (items : List Item) (contents : List Content) (pass : ℕ) (request : Request) (leaf : Result ℕ LeavesOver) → MayWrite list items request
    → shard_step store pages list items contents pass request leaf ≡ or_late (early store items contents request) (late store pages items contents pass request leaf)
unfolding shard_step settled early
split store pages list items contents pass request leaf may = go (not (eqb (epoch_of request) (epoch_now items))) refl (found items request) (at_split store pages items contents pass request leaf (found items request))
  where
    go : (t : Bool) → not (eqb (epoch_of request) (epoch_now items)) ≡ t → (o : Option RowItem)
        → unless_settled (at_found store pages items contents request o) (with_leaf store items contents pass request leaf) ≡ or_late (early_at store items contents request o) (late store pages items contents pass request leaf)
        → unless_settled (cond t (Some (CallRefused (refusal.WrongEpoch (epoch_now items)))) (or_else (unwritten list items request) (at_found store pages items contents request o))) (with_leaf store items contents pass request leaf)
        ≡ or_late (cond t (Some (CallRefused (refusal.WrongEpoch (epoch_now items)))) (early_at store items contents request o)) (late store pages items contents pass request leaf)
    go true q o h = refl
    go false q o h = ap (λ u. unless_settled (or_else u (at_found store pages items contents request o)) (with_leaf store items contents pass request leaf)) (may (eqb-true _ _ (not-false _ q))) ∙ h

-- what a call that needs a new entry has passed
pub record IsPassed (items : List Item) (request : Request) : Type 0 where
  pub epoch : epoch_of request ≡ epoch_now items
  pub first : found items request ≡ None
  pub fresh : is_stale items request ≡ false

pub passed : (store : List ℕ) (items : List Item) (contents : List Content) (request : Request) → early store items contents request ≡ None → IsPassed items request
unfolding early
passed store items contents request none = go (not (eqb (epoch_of request) (epoch_now items))) refl (found items request) refl none
  where
    at : (o : Option RowItem) → found items request ≡ o → early_at store items contents request o ≡ None → (found items request ≡ None) × (is_stale items request ≡ false)
    at (Some r) is h = absurd cc
    at None is h = (is, stale (is_stale items request) h)
      where
        stale : (t : Bool) → cond t (Some (CallRefused (refusal.StaleVersion (latest_of items (block_of request)).version))) None ≡ None → t ≡ false
        stale true h = absurd cc
        stale false h = refl

    go : (t : Bool) → not (eqb (epoch_of request) (epoch_now items)) ≡ t → (o : Option RowItem) → found items request ≡ o → cond t (Some (CallRefused (refusal.WrongEpoch (epoch_now items)))) (early_at store items contents request o) ≡ None → IsPassed items request
    go true q o is h = absurd cc
    go false q o is h = let both = at o is h in record { epoch = eqb-true _ _ (not-false _ q); first = both.0; fresh = both.1 }

-- ---- early answers

pub early_epoch : (store : List ℕ) (items : List Item) (contents : List Content) (request : Request) → (epoch_of request ≡ epoch_now items → ⊥) → early store items contents request ≡ Some (CallRefused (refusal.WrongEpoch (epoch_now items)))
unfolding early
early_epoch store items contents request other = ap (λ t. cond (not t) (Some (CallRefused (refusal.WrongEpoch (epoch_now items)))) (early_at store items contents request (found items request))) (ne_eqb _ _ other)

abbrev pub key_in : Request → Key
key_in request = record { block = block_of request; client = client_of request; nonce = nonce_of request }

pub found_is : (items : List Item) (request : Request) → found items request ≡ found_at items (key_in request)
unfolding found
found_is items request = refl

pub early_in : (store : List ℕ) (items : List Item) (contents : List Content) (request : Request) (o : Option RowItem) → epoch_of request ≡ epoch_now items → found_at items (key_in request) ≡ o → early store items contents request ≡ early_at store items contents request o
unfolding early
early_in store items contents request o same is = ap (λ t. cond (not t) (Some (CallRefused (refusal.WrongEpoch (epoch_now items)))) (early_at store items contents request (found items request))) (eq-eqb _ _ same) ∙ ap (early_at store items contents request) (found_is items request ∙ is)

asked_same : (store prev : List ℕ) (e : Entry) (a : Attestation) → a ≡ attested store prev e → (asked_by a ≡ asked_text store e) × (a.kind ≡ e.kind) × (a.position ≡ e.position) × (a.version ≡ e.version)
unfolding attested
asked_same store prev e a same = (ap asked_by same, ap (λ (a : Attestation). a.kind) same, ap (λ (a : Attestation). a.position) same, ap (λ (a : Attestation). a.version) same)

-- a request of one kind is none of the other
put_kind : (a : Attestation) (x : put_spec.PutRequest) → bytes_eq (asked_by a) (put_request_text x) ≡ true → eqb a.kind 1 ≡ true
put_kind a x same = go (eqb a.kind 1) refl
  where
    go : (t : Bool) → eqb a.kind 1 ≡ t → eqb a.kind 1 ≡ true
    go true k = k
    go false k = absurd (false≢true (sym (get_is_no_put _ x) ∙ ap (λ t. bytes_eq (cond t (put_request_text (record { store = a.store; epoch = a.epoch; block = a.block; client = a.client; nonce = a.nonce; version = a.version; content = a.content })) (get_request_text (record { store = a.store; epoch = a.epoch; block = a.block; client = a.client; nonce = a.nonce }))) (put_request_text x)) (sym k) ∙ same))

get_kind : (a : Attestation) (x : get_spec.GetRequest) → bytes_eq (asked_by a) (get_request_text x) ≡ true → eqb a.kind 1 ≡ false
get_kind a x same = go (eqb a.kind 1) refl
  where
    go : (t : Bool) → eqb a.kind 1 ≡ t → eqb a.kind 1 ≡ false
    go false k = k
    go true k = absurd (false≢true (sym (put_is_no_get _ x) ∙ ap (λ t. bytes_eq (cond t (put_request_text (record { store = a.store; epoch = a.epoch; block = a.block; client = a.client; nonce = a.nonce; version = a.version; content = a.content })) (get_request_text (record { store = a.store; epoch = a.epoch; block = a.block; client = a.client; nonce = a.nonce }))) (get_request_text x)) (sym k) ∙ same))

byte_two : (k : Kind) → eqb (kind_byte k) 1 ≡ false → eqb (kind_byte k) 2 ≡ true
byte_two Put h = absurd (false≢true (sym h))
byte_two Get h = refl

one_not_two : (n : ℕ) → eqb n 1 ≡ true → eqb n 2 ≡ false
one_not_two n h = let one : n ≡ 1 = eqb-true n 1 h in ne_eqb n 2 (λ two. absurd (omega (arith, one, two)))

abbrev pub signed : Call → Attestation
signed c = attestation_view c.attestation

module _ (store : List ℕ) (items : List Item) (contents : List Content) (k : Key) (c : Call) (h : IsCallAt store items k c) where
  same : (asked_by (signed c) ≡ asked_text store h.entry) × ((signed c).kind ≡ h.entry.kind) × ((signed c).position ≡ h.entry.position) × ((signed c).version ≡ h.entry.version)
  same = asked_same store (head_before items h.entry) h.entry (signed c) h.attestation

  -- what the entry is answered, by the tests in their order
  again : (request : Request) (t u : Bool) → bytes_eq (asked_by (signed c)) (request_text request) ≡ t → is_overtaken items h.entry ≡ u
      → early_at store items contents request (Some h.row) ≡ Some (cond t (cond u (CallRefused (refusal.Overtaken (latest_of items h.entry.block).version)) (Booked (record { leaf = c.leaf; text = attestation_text (signed c); content = content_for contents h.entry.kind h.entry.block }))) (CallRefused (refusal.NonceUsed (signed c).position)))
  unfolding again_entry text_again
  again request t u test over =
      ap (λ read. Some (again_entry store items contents request h.row.leaf read)) h.reads
      ∙ ap (λ t. Some (cond (not t) (CallRefused (refusal.NonceUsed h.entry.position)) (cond (is_overtaken items h.entry) (CallRefused (refusal.Overtaken (latest_of items h.entry.block).version)) (Booked booking)))) (ap (λ text. bytes_eq text (request_text request)) (sym same.0) ∙ test)
      ∙ ap (λ u. Some (cond (not t) (CallRefused (refusal.NonceUsed h.entry.position)) (cond u (CallRefused (refusal.Overtaken (latest_of items h.entry.block).version)) (Booked booking)))) over
      ∙ go t u
    where
      booking : Booking
      booking = record { leaf = h.row.leaf; text = attestation_text (attested store (head_before items h.entry) h.entry); content = content_for contents h.entry.kind h.entry.block }

      seen : Booked booking ≡ Booked (record { leaf = c.leaf; text = attestation_text (signed c); content = content_for contents h.entry.kind h.entry.block })
      seen = ap (λ n. Booked (record { leaf = n; text = attestation_text (attested store (head_before items h.entry) h.entry); content = content_for contents h.entry.kind h.entry.block })) (sym h.leaf)
          ∙ ap (λ x. Booked (record { leaf = c.leaf; text = attestation_text x; content = content_for contents h.entry.kind h.entry.block })) (sym h.attestation)

      go : (t u : Bool) → Some (cond (not t) (CallRefused (refusal.NonceUsed h.entry.position)) (cond u (CallRefused (refusal.Overtaken (latest_of items h.entry.block).version)) (Booked booking)))
          ≡ Some (cond t (cond u (CallRefused (refusal.Overtaken (latest_of items h.entry.block).version)) (Booked (record { leaf = c.leaf; text = attestation_text (signed c); content = content_for contents h.entry.kind h.entry.block }))) (CallRefused (refusal.NonceUsed (signed c).position)))
      go false u = ap (λ n. Some (CallRefused (refusal.NonceUsed n))) (sym same.2)
      go true true = refl
      go true false = ap (λ x. Some x) seen

  pub used_put : (r : PutRequest) (signature content : List ℕ) → false ≡ bytes_eq (asked_by (signed c)) (put_request_text (put_request_view r)) → early_at store items contents (ask.Put r signature content) (Some h.row) ≡ Some (CallRefused (refusal.NonceUsed c.attestation.position))
  used_put r signature content test = again (ask.Put r signature content) false _ (sym test) refl

  pub again_put : (r : PutRequest) (signature content : List ℕ) → true ≡ bytes_eq (asked_by (signed c)) (put_request_text (put_request_view r)) → early_at store items contents (ask.Put r signature content) (Some h.row) ≡ Some (Booked (record { leaf = c.leaf; text = attestation_text (signed c); content = [] }))
  again_put r signature content test =
      let kind : eqb h.entry.kind 1 ≡ true = ap (λ n. eqb n 1) (sym same.1) ∙ put_kind (signed c) (put_request_view r) (sym test) in
      let two : eqb h.entry.kind 2 ≡ false = one_not_two h.entry.kind kind in
      again (ask.Put r signature content) true false (sym test) (ap (λ t. t && not (eqb h.entry.version (latest_of items h.entry.block).version)) two)
      ∙ ap (λ t. Some (Booked (record { leaf = c.leaf; text = attestation_text (signed c); content = cond t (content_at contents h.entry.block) [] }))) two

  pub used_get : (r : GetRequest) → false ≡ bytes_eq (asked_by (signed c)) (get_request_text (get_request_view r)) → early_at store items contents (ask.Get r) (Some h.row) ≡ Some (CallRefused (refusal.NonceUsed c.attestation.position))
  used_get r test = again (ask.Get r) false _ (sym test) refl

  two_get : (r : GetRequest) → true ≡ bytes_eq (asked_by (signed c)) (get_request_text (get_request_view r)) → eqb h.entry.kind 2 ≡ true
  two_get r test = ap (λ n. eqb n 2) (sym same.1) ∙ byte_two c.attestation.kind (get_kind (signed c) (get_request_view r) (sym test))

  pub over_get : (r : GetRequest) (latest : ℕ) → true ≡ bytes_eq (asked_by (signed c)) (get_request_text (get_request_view r)) → latest ≡ (latest_of items k.block).version → (c.attestation.version ≡ latest → ⊥) → early_at store items contents (ask.Get r) (Some h.row) ≡ Some (CallRefused (refusal.Overtaken latest))
  over_get r latest test is other =
      let now : (latest_of items h.entry.block).version ≡ latest = ap (λ b. (latest_of items b).version) h.block ∙ sym is in
      let differs : eqb h.entry.version (latest_of items h.entry.block).version ≡ false = ne_eqb _ _ (λ e. other (same.3 ∙ e ∙ now)) in
      again (ask.Get r) true true (sym test) (ap (λ t. t && not (eqb h.entry.version (latest_of items h.entry.block).version)) (two_get r test) ∙ ap not differs)
      ∙ ap (λ n. Some (CallRefused (refusal.Overtaken n))) now

  pub again_get : (r : GetRequest) (latest : ℕ) (content : List ℕ) → true ≡ bytes_eq (asked_by (signed c)) (get_request_text (get_request_view r)) → latest ≡ (latest_of items k.block).version → c.attestation.version ≡ latest → content ≡ content_at contents k.block
      → early_at store items contents (ask.Get r) (Some h.row) ≡ Some (Booked (record { leaf = c.leaf; text = attestation_text (signed c); content = content }))
  again_get r latest content test is at reads =
      let now : h.entry.version ≡ (latest_of items h.entry.block).version = sym same.3 ∙ at ∙ is ∙ ap (λ b. (latest_of items b).version) (sym h.block) in
      again (ask.Get r) true false (sym test) (ap (λ t. t && not (eqb h.entry.version (latest_of items h.entry.block).version)) (two_get r test) ∙ ap not (eq-eqb _ _ now))
      ∙ ap (λ t. Some (Booked (record { leaf = c.leaf; text = attestation_text (signed c); content = cond t (content_at contents h.entry.block) [] }))) (two_get r test)
      ∙ ap (λ x. Some (Booked (record { leaf = c.leaf; text = attestation_text (signed c); content = x }))) (ap (content_at contents) h.block ∙ sym reads)

-- ---- the tip's version

pub tip_version : (items : List Item) (b : ℕ) → (tip_of items b).version ≡ (latest_of items b).version
unfolding tip_after
tip_version items b = refl

pub stale_put : (store : List ℕ) (items : List Item) (contents : List Content) (r : PutRequest) (signature content : List ℕ) (latest : ℕ) → latest ≡ (latest_of items r.block).version → false ≡ eqb r.version (latest + 1)
    → early_at store items contents (ask.Put r signature content) None ≡ Some (CallRefused (refusal.StaleVersion latest))
stale_put store items contents r signature content latest is test =
    ap (λ n. cond (not (eqb r.version (n + 1))) (Some (CallRefused (refusal.StaleVersion n))) None) (sym is)
    ∙ ap (λ t. cond (not t) (Some (CallRefused (refusal.StaleVersion latest))) None) (sym test)

pub next_put : (store : List ℕ) (items : List Item) (contents : List Content) (r : PutRequest) (signature content : List ℕ) (latest : ℕ) → latest ≡ (latest_of items r.block).version → true ≡ eqb r.version (latest + 1)
    → early_at store items contents (ask.Put r signature content) None ≡ None
next_put store items contents r signature content latest is test =
    ap (λ n. cond (not (eqb r.version (n + 1))) (Some (CallRefused (refusal.StaleVersion n))) None) (sym is)
    ∙ ap (λ t. cond (not t) (Some (CallRefused (refusal.StaleVersion latest))) None) (sym test)
