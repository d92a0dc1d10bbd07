-- A call that the shard takes appends an entry that may come next.
use Rattle.std.proofs.Common.{◌≡◌, ℕ, ◌+◌, ◌-◌, ◌^◌, ◌<◌, Bool, true, false, cond, not, ◌||◌, eqb, ltb, List, [], ◌∷◌, ◌++◌, length, Option, Some, None, Result, Ok, Err, inl, inr, refl, sym, ap, subst, ◌∙◌, arith, lit<, lit≤}
use Rattle.std.specs.List.{list_any, find, cons_option}
use Rattle.std.proofs.lemmas.List.{map-append, length-map}
use Rattle.std.proofs.lemmas.Bool.{cases_eq, eqb-true, not-false}
use Rattle.cp_core.specs.declared.request.Request.TheVariants as ask
use Rattle.cp_chain.proofs.Chain.{latest-append}
use Rattle.cp_chain.proofs.Each.{each_front, each_last, snoc}
use Rattle.cp_chain.specs.Each.{Each}
use Rattle.cp_chain.specs.Legal.{Follows, Put, is_call, last_or, latest, put_at, put_by}
use Rattle.cp_core.proofs.EpochLemmas.{Ordered, count_after, count_law, freeze_rows, ordered, put_after, put_law, row_other, row_same}
use Rattle.cp_core.proofs.RowLemmas.{spells_reads}
use Rattle.cp_core.proofs.ShardLemmas.{honest_row}
use Rattle.cp_core.specs.Calls.{Effect, at_found, booked, epoch_now, first_refused, found, is_stale, latest_of, new_entry, new_row, or_else, pages_free, settled, shard_step, unless_settled, unsigned_by, unwritten, with_leaf, writers_key}
use Rattle.cp_core.specs.Calls.Effect.{New}
use Rattle.cp_core.specs.Honest.{HonestShard, IsItemOf, IsRowOf, SpellsEntry, epoch_side}
use Rattle.cp_core.specs.Laws.{SignedAlike}
use Rattle.cp_core.specs.Life.{RowItem, cut, entries, in_epoch, row_item, rows_of, shard_of}
use Rattle.cp_core.specs.Requests.{RequestFits, block_of, epoch_of, pages_of, store_of}
use Rattle.cp_core.specs.Store.{Store, list_at}
use Rattle.cp_core.specs.declared.answer.Answer.{Answer}
use Rattle.cp_core.specs.declared.answer.Answer.TheVariants.{Booked, CallRefused}
use Rattle.cp_core.specs.declared.call_refusal.CallRefusal.TheVariants as refusal
use Rattle.cp_core.specs.declared.content.Content.{Content}
use Rattle.cp_core.specs.declared.item.Item.{Item}
use Rattle.cp_core.specs.declared.item.Item.TheVariants.{Frozen, Row}
use Rattle.cp_core.specs.declared.leaves_over.LeavesOver.{LeavesOver}
use Rattle.cp_core.specs.declared.request.Request.{Request}
use Rattle.cp_families.specs.Families.{FamilyRow}
use Rattle.cp_families.specs.Writers.{signed_request, verified_by, writer}
use Rattle.lms_tree.specs.Verifying.{verifies}
use Rattle.cp_statements.specs.PutRequest.{PutRequest, put_request_text}
use Rattle.cp_statements.specs.View.{put_request_view}
use Rattle.cp_statements.specs.declared.put_request.PutRequest as put
use Rattle.cp_statements.specs.Entry.{Entry, EntryFits, entry_of}
use Rattle.cp_tips.specs.Tip.{fresh}

-- ---- what a new row shows

pub record NewRow (store list : List ℕ) (items : List Item) (contents : List Content) (pass : ℕ) (request : Request) (leaf : Result ℕ LeavesOver) (answer : Answer) (row : RowItem) : Type 0 where
  pub epoch : epoch_of request ≡ epoch_now items
  pub writes : unwritten list items request ≡ None
  pub first : found items request ≡ None
  pub not_stale : is_stale items request ≡ false
  pub number : ℕ
  pub drawn : leaf ≡ Ok number
  pub row_is : row ≡ new_row items pass request number
  pub answer_is : answer ≡ Booked (booked store items contents request number)

not_settled : (o : Option Answer) (outcome : Effect) (answer : Answer) (row : RowItem) → unless_settled o outcome ≡ New answer row → (o ≡ None) × (outcome ≡ New answer row)
not_settled (Some a) outcome answer row e = absurd cc
not_settled None outcome answer row e = (refl, e)

passed : (b : Bool) (a : Answer) (o : Option Answer) → cond b (Some a) o ≡ None → (b ≡ false) × (o ≡ None)
passed true a o e = absurd cc
passed false a o e = (refl, e)

new_is : (a : Answer) (r : RowItem) (answer : Answer) (row : RowItem) → New a r ≡ New answer row → (answer ≡ a) × (row ≡ r)
new_is a r answer row e = (cc, cc)

with_leaf_new : (store : List ℕ) (items : List Item) (contents : List Content) (pass : ℕ) (request : Request) (leaf : Result ℕ LeavesOver) (answer : Answer) (row : RowItem) → with_leaf store items contents pass request leaf ≡ New answer row
    → (q : ℕ) × (leaf ≡ Ok q) × (answer ≡ Booked (booked store items contents request q)) × (row ≡ new_row items pass request q)
with_leaf_new store items contents pass request (Err over) answer row e = absurd cc
with_leaf_new store items contents pass request (Ok q) answer row e = let both = new_is _ _ answer row e in (q, refl, both.0, both.1)

-- what it shows that the rules before the leaf settle nothing
pub record IsNewCall (pages : ℕ) (list : List ℕ) (items : List Item) (request : Request) : Type 0 where
  pub epoch : epoch_of request ≡ epoch_now items
  pub writes : unwritten list items request ≡ None
  pub first : found items request ≡ None
  pub not_stale : is_stale items request ≡ false
  pub room : ltb (pages_free pages items) (pages_of request) ≡ false

at_found_new : (store : List ℕ) (pages : ℕ) (items : List Item) (contents : List Content) (request : Request) (f : Option RowItem) → at_found store pages items contents request f ≡ None
    → (f ≡ None) × (is_stale items request ≡ false) × (ltb (pages_free pages items) (pages_of request) ≡ false)
unfolding first_refused
at_found_new store pages items contents request (Some r) e = absurd cc
at_found_new store pages items contents request None e =
    let p = passed (is_stale items request) _ _ e in
    let q = passed (ltb (pages_free pages items) (pages_of request)) _ _ p.1 in
    (refl, p.0, q.0)

neither : (a b : Option Answer) → or_else a b ≡ None → (a ≡ None) × (b ≡ None)
neither (Some x) b e = absurd cc
neither None b e = (refl, e)

pub settled_none : (store : List ℕ) (pages : ℕ) (list : List ℕ) (items : List Item) (contents : List Content) (request : Request) → settled store pages list items contents request ≡ None → IsNewCall pages list items request
unfolding settled
settled_none store pages list items contents request e =
    let a = passed (not (eqb (epoch_of request) (epoch_now items))) _ _ e in
    let w = neither (unwritten list items request) _ a.1 in
    let b = at_found_new store pages items contents request (found items request) w.1 in
    record { epoch = eqb-true _ _ (not-false _ a.0); writes = w.0; first = b.0; not_stale = b.1; room = b.2 }

pub step_new : (store : List ℕ) (pages : ℕ) (list : List ℕ) (items : List Item) (contents : List Content) (pass : ℕ) (request : Request) (leaf : Result ℕ LeavesOver) (answer : Answer) (row : RowItem) → shard_step store pages list items contents pass request leaf ≡ New answer row → NewRow store list items contents pass request leaf answer row
unfolding shard_step
step_new store pages list items contents pass request leaf answer row e =
    let a = not_settled (settled store pages list items contents request) _ answer row e in
    let b = settled_none store pages list items contents request a.0 in
    let c = with_leaf_new store items contents pass request leaf answer row a.1 in
    record { epoch = b.epoch; writes = b.writes; first = b.first; not_stale = b.not_stale; number = c.0; drawn = c.1; answer_is = c.2; row_is = c.3 }

-- ---- the latest put

-- what a put may hold
pub record PutFits (p : Put) : Type 0 where
  pub version : p.version < 2 ^ 64
  pub content : length p.content ≡ 32

pub latest_one : (p : Put) (text : List ℕ) (e : Entry) → entry_of text ≡ Ok e → latest p (text ∷ []) ≡ cond (eqb e.kind 1) (record { version = e.version; content = e.content }) p
unfolding latest
latest_one p text e h = rw h (go (eqb e.kind 1))
  where
    go : (b : Bool) → last_or p (cons_option (cond b (Some (record { version = e.version; content = e.content })) None) []) ≡ cond b (record { version = e.version; content = e.content }) p
    go true = refl
    go false = refl

pub entry_put : (e : Entry) → EntryFits e → PutFits (record { version = e.version; content = e.content })
entry_put e f = record { version = f.fields.1.1.1.1.1.1.0; content = f.fields.1.1.1.1.1.1.1.0 }

pub cond_fits : (b : Bool) (p q : Put) → PutFits p → PutFits q → PutFits (cond b p q)
cond_fits true p q hp hq = hp
cond_fits false p q hp hq = hq

none_fits : (b : ℕ) → PutFits (latest_of [] b)
unfolding latest rows_of
none_fits b = record { version = lit< tt; content = refl }

-- the latest put with one more row of the block, or of another
pub latest_push : (items : List Item) (r : RowItem) (e : Entry) (b : ℕ) → entry_of r.entry ≡ Ok e → e.block ≡ b → latest_of (items ++ row_item r ∷ []) b ≡ cond (eqb e.kind 1) (put_by e) (latest_of items b)
latest_push items r e b reads same =
    let texts : entries (rows_of (items ++ row_item r ∷ []) b) ≡ entries (rows_of items b) ++ r.entry ∷ [] = ap entries (row_same items r e b reads same) ∙ map-append (λ (x : RowItem). x.entry) (rows_of items b) (r ∷ []) in
    ap (latest (put_at (fresh b))) texts ∙ latest-append (put_at (fresh b)) (entries (rows_of items b)) (r.entry ∷ []) ∙ latest_one (latest_of items b) r.entry e reads

pub latest_other : (items : List Item) (r : RowItem) (e : Entry) (b : ℕ) → entry_of r.entry ≡ Ok e → (e.block ≡ b → ⊥) → latest_of (items ++ row_item r ∷ []) b ≡ latest_of items b
latest_other items r e b reads other = ap (λ (rs : List RowItem). latest (put_at (fresh b)) (entries rs)) (row_other items r e b reads other)

pub latest_freeze : (items : List Item) (m : ℕ) (next : List ℕ) (b : ℕ) → latest_of (items ++ Frozen m next ∷ []) b ≡ latest_of items b
latest_freeze items m next b = ap (λ (rs : List RowItem). latest (put_at (fresh b)) (entries rs)) (freeze_rows items m next b)

pub latest_fits : (k : ℕ) (items : List Item) (b : ℕ) → Each (IsItemOf k) items → PutFits (latest_of items b)
latest_fits k items b each = snoc (λ xs. Each (IsItemOf k) xs → PutFits (latest_of xs b)) (λ each. none_fits b) step items each
  where
    step : (xs : List Item) (x : Item) → (Each (IsItemOf k) xs → PutFits (latest_of xs b)) → Each (IsItemOf k) (xs ++ x ∷ []) → PutFits (latest_of (xs ++ x ∷ []) b)
    step xs (Row pass leaf pages entry) so_far each =
        let r : RowItem = record { pass = pass; leaf = leaf; pages = pages; entry = entry } in
        let f : IsRowOf k xs r = each_last (IsItemOf k) xs (row_item r) each in
        let before = so_far (each_front (IsItemOf k) xs (row_item r ∷ []) each) in
        let reads = spells_reads r.entry f.entry f.spells in
        elim (cases_eq f.entry.block b) [
          | inl same ↦ subst PutFits (sym (latest_push xs r f.entry b reads same)) (cond_fits (eqb f.entry.kind 1) _ _ (entry_put f.entry f.spells.fits) before)
          | inr other ↦ subst PutFits (sym (latest_other xs r f.entry b reads other)) before
        ]
    step xs (Frozen m next) so_far each = subst PutFits (sym (latest_freeze xs m next b)) (so_far (each_front (IsItemOf k) xs (Frozen m next ∷ []) each))

-- ---- the new entry

entry_block : (items : List Item) (request : Request) → (new_entry items request).block ≡ block_of request
unfolding new_entry
entry_block items (ask.Put r signature content) = refl
entry_block items (ask.Get r) = refl

entry_epoch : (items : List Item) (request : Request) → (new_entry items request).epoch ≡ epoch_of request
unfolding new_entry
entry_epoch items (ask.Put r signature content) = refl
entry_epoch items (ask.Get r) = refl

entry_position : (items : List Item) (request : Request) → (new_entry items request).position ≡ length (rows_of items (block_of request))
unfolding new_entry
entry_position items (ask.Put r signature content) = refl
entry_position items (ask.Get r) = refl

pub entry_fits : (k : ℕ) (items : List Item) (request : Request) → Each (IsItemOf k) items → RequestFits request → length (rows_of items (block_of request)) < 2 ^ 64 → EntryFits (new_entry items request)
unfolding new_entry
entry_fits k items (ask.Put r signature content) each fits room =
    let f = fits.0 in
    record { fields = ((lit≤ tt, lit≤ tt), (f.1.0, (f.1.1.0, (room, (f.1.1.1.0, (f.1.1.1.1.0, (f.1.1.1.1.1.0, (f.1.1.1.1.1.1.0, tt)))))))); put = λ kind. fits.1; get = λ kind. absurd (omega (arith, kind)) }
entry_fits k items (ask.Get r) each f room =
    let l = latest_fits k items r.block each in
    record { fields = ((lit≤ tt, lit≤ tt), (f.1.0, (f.1.1.0, (room, (f.1.1.1.0, (f.1.1.1.1.0, (l.version, (l.content, tt)))))))); put = λ kind. absurd (omega (arith, kind)); get = λ kind. refl }

-- ---- what the rules let pass may come next

none_found : (p : List ℕ → Bool) (rs : List RowItem) → find (λ r. p r.entry) rs ≡ None → list_any p (entries rs) ≡ false
none_found p [] e = refl
none_found p (r ∷ rs) e = go (p r.entry) e (λ h. none_found p rs h)
  where
    go : (b : Bool) → cond b (Some r) (find (λ r. p r.entry) rs) ≡ None → (find (λ r. p r.entry) rs ≡ None → list_any p (entries rs) ≡ false) → (b || list_any p (entries rs)) ≡ false
    go true e rest = absurd cc
    go false e rest = rest e

-- in the epoch that the shard is in, the latest put of the segment is that of the block's whole life
pub latest_now : (items : List Item) (b : ℕ) → Ordered items b → latest (put_at (cut items b (epoch_now items - 1))) (entries (in_epoch items b (epoch_now items))) ≡ latest_of items b
latest_now items b o = put_law items b (epoch_now items) o ∙ put_after b _ ∙ ap (λ (rs : List RowItem). latest (put_at (fresh b)) (entries rs)) (o.all (epoch_now items) (omega arith))

count_now : (items : List Item) (b : ℕ) → Ordered items b → (cut items b (epoch_now items - 1)).count + length (entries (in_epoch items b (epoch_now items))) ≡ length (rows_of items b)
count_now items b o =
    sym (count_law items b (epoch_now items) o) ∙ count_after b _ ∙ ap (λ (rs : List RowItem). length (entries rs)) (o.all (epoch_now items) (omega arith)) ∙ length-map (rows_of items b) (λ (r : RowItem). r.entry)

-- the request that is rebuilt from a put's entry is the one that was signed
pub writer_is : (s : Store) (families : List FamilyRow) (items : List Item) (request : Request) → store_of request ≡ s.id → SignedAlike s families items request
unfolding writer new_entry
writer_is s families items (ask.Put r signature content) names = ap (λ (store : List ℕ). signed_request families (record { store = store; epoch = r.epoch; block = r.block; client = r.client; nonce = r.nonce; version = r.version; content = r.content }) signature) (sym names)
writer_is s families items (ask.Get r) names = tt

-- a put that no rule on writers refuses is signed by one of the shard's epoch
signed_by_key : (r : PutRequest) (signature : List ℕ) (key : Option (List ℕ)) → unsigned_by r signature key ≡ None → verified_by key (put_request_text r) signature ≡ true
signed_by_key r signature None e = absurd cc
signed_by_key r signature (Some key) e = go (verifies key (put_request_text r) signature) refl e
  where
    go : (b : Bool) → verifies key (put_request_text r) signature ≡ b → (let o : Option Answer = cond b None (Some (CallRefused refusal.BadSignature)) in o) ≡ None → verifies key (put_request_text r) signature ≡ true
    go true is e = is
    go false is e = absurd cc

pub written_signed : (list : List ℕ) (items : List Item) (r : put.PutRequest) (signature content : List ℕ) → unwritten list items (ask.Put r signature content) ≡ None → signed_request (list_at list items (epoch_now items)) (put_request_view r) signature ≡ true
unfolding unwritten
written_signed list items r signature content e = signed_by_key (put_request_view r) signature (writers_key list items (put_request_view r)) e

follows_now : (s : Store) (k : ℕ) (items : List Item) (request : Request) → Each (IsItemOf k) items → store_of request ≡ s.id → unwritten s.families items request ≡ None → epoch_of request ≡ epoch_now items → found items request ≡ None → is_stale items request ≡ false
    → Follows (epoch_side s items (block_of request) (epoch_now items)) (entries (in_epoch items (block_of request) (epoch_now items))) (new_entry items request)
unfolding new_entry found
follows_now s k items (ask.Put r signature content) each names writes epoch first fresh_version =
    let o = ordered k items r.block each in
    let w : writer (list_at s.families items (epoch_now items)) s.id (new_entry items (ask.Put r signature content)) ≡ true = writer_is s (list_at s.families items (epoch_now items)) items (ask.Put r signature content) names ∙ written_signed s.families items r signature content writes in
    record {
      block = refl;
      epoch = epoch;
      position = sym (count_now items r.block o);
      version = λ kind. eqb-true _ _ (not-false _ fresh_version) ∙ ap (λ (p : Put). p.version + 1) (sym (latest_now items r.block o));
      writer_signed = λ kind. w;
      latest_put = λ kind. absurd (omega (arith, kind));
      no_repeat = none_found (is_call r.client r.nonce) (in_epoch items r.block (epoch_now items)) first;
    }
follows_now s k items (ask.Get r) each names writes epoch first fresh_version =
    let o = ordered k items r.block each in
    record {
      block = refl;
      epoch = epoch;
      position = sym (count_now items r.block o);
      version = λ kind. absurd (omega (arith, kind));
      writer_signed = λ kind. absurd (omega (arith, kind));
      latest_put = λ kind. sym (latest_now items r.block o);
      no_repeat = none_found (is_call r.client r.nonce) (in_epoch items r.block (epoch_now items)) first;
    }

-- ---- the hard lemma of a call: a shard that takes it stays honest

pub honest_call : (s : Store) (k : ℕ) (items : List Item) (pass : ℕ) (request : Request) (contents : List Content) (leaf : Result ℕ LeavesOver) (answer : Answer) (row : RowItem) → HonestShard s k items → shard_of (block_of request) ≡ k
    → RequestFits request → store_of request ≡ s.id → length (rows_of items (block_of request)) < 2 ^ 64 → NewRow s.id s.families items contents pass request leaf answer row → HonestShard s k (items ++ row_item row ∷ [])
honest_call s k items pass request contents leaf answer row h at fits names room new =
    let e = new_entry items request in
    let spells : SpellsEntry row.entry e = record { spelled = ap (λ (r : RowItem). r.entry) new.row_is; fits = entry_fits k items request h.each fits room } in
    let blocks = entry_block items request in
    let epochs : e.epoch ≡ epoch_now items = entry_epoch items request ∙ new.epoch in
    let f : IsRowOf k items row = record { entry = e; spells = spells; shard = ap shard_of blocks ∙ at; epoch = epochs; position = entry_position items request ∙ ap (λ (b : ℕ). length (rows_of items b)) (sym blocks) } in
    let follows = follows_now s k items request h.each names new.writes new.epoch new.first new.not_stale in
    honest_row s k items row h f
    (subst (λ (n : ℕ). Follows (epoch_side s items e.block n) (entries (in_epoch items e.block n)) e) (sym epochs)
    (subst (λ (b : ℕ). Follows (epoch_side s items b (epoch_now items)) (entries (in_epoch items b (epoch_now items))) e) (sym blocks) follows))

-- the row's text reads as the new entry
pub new_reads : (k : ℕ) (items : List Item) (pass : ℕ) (request : Request) (number : ℕ) (row : RowItem) → Each (IsItemOf k) items → RequestFits request → length (rows_of items (block_of request)) < 2 ^ 64 → row ≡ new_row items pass request number → entry_of row.entry ≡ Ok (new_entry items request)
new_reads k items pass request number row each fits room is = spells_reads row.entry (new_entry items request) (record { spelled = ap (λ (r : RowItem). r.entry) is; fits = entry_fits k items request each fits room })
