-- A whole call is the shard's step.
use Rattle.std.proofs.Common.{◌≡◌, ℕ, ◌+◌, ◌-◌, ◌^◌, ◌<◌, ◌≤◌, Bool, true, false, cond, not, eqb, List, [], length, Option, Some, None, Result, Ok, Err, refl, sym, ap, subst, ◌∙◌, arith}
use Rattle.std.proofs.lemmas.Bool.{and_parts, leb-true, lt-ltb, le-ltb, eqb-true, not-false}
use Rattle.std.proofs.lemmas.List.{length-map}
use Rattle.std.specs.Prelude.{bytes_eq}
use Rattle.lms_ots.specs.declared.ots_type.OtsType.{OtsType}
use Rattle.lms_ots.specs.declared.ots_type.OtsType.TheVariants.{W1, W2, W4, W8}
use Rattle.lms_ots.specs.Parameters.{sig_len_of}
use Rattle.lms_tree.specs.Verifying.{verifies}
use Rattle.lms_tree.specs.PublicKey.{key_reads, key_lms, key_type, key_height}
use Rattle.lms_tree.proofs.Testing.{verifies_tells}
use Rattle.cp_statements.specs.Attestation.{Attestation, attestation_text}
use Rattle.cp_statements.specs.Entry.{Entry, EntryFits, entry_of, entry_text}
use Rattle.cp_statements.specs.View.{put_request_view}
use Rattle.cp_statements.specs.PutRequest as put_spec
use Rattle.cp_statements.specs.declared.put_request.PutRequest.{PutRequest}
use Rattle.cp_statements.specs.declared.get_request.GetRequest.{GetRequest}
use Rattle.cp_tips.specs.Tip.{Tip}
use Rattle.cp_chain.specs.Legal.{put_by}
use Rattle.cp_families.specs.Checking.{SignedPut}
use Rattle.cp_core.specs.Booking.{Booking}
use Rattle.cp_core.specs.Life.{RowItem, rows_of, tip_after, shard_of}
use Rattle.cp_core.specs.Requests.{epoch_of, block_of, client_of, nonce_of, pages_of, request_text}
use Rattle.cp_core.specs.Calls.{epoch_now, latest_of, head_of, found, is_stale, again_entry, asked_text, is_overtaken, attested, new_entry, content_for, content_at, pages_free, with_leaf, booked}
use Rattle.cp_core.specs.Calls.Effect.{Same, New}
use Rattle.cp_core.specs.Machine.{content_in, with_content}
use Rattle.cp_core.proofs.ContentLemmas.{content_push}
use Rattle.cp_core.specs.declared.content.Content.{Content}
use Rattle.cp_core.specs.declared.item.Item.{Item}
use Rattle.cp_core.specs.declared.request.Request.{Request}
use Rattle.cp_core.specs.declared.request.Request.TheVariants as ask
use Rattle.cp_core.specs.declared.leaves_over.LeavesOver.{LeavesOver}
use Rattle.cp_core.specs.declared.call_refusal.CallRefusal.{CallRefusal}
use Rattle.cp_core.specs.declared.call_refusal.CallRefusal.TheVariants as refusal
use Rattle.cp_core.specs.declared.answer.Answer.{Answer}
use Rattle.cp_core.specs.declared.answer.Answer.TheVariants as spoken
use Rattle.cp_shard.specs.Model.{ShardModel}
use Rattle.cp_shard.specs.Kept.{tip_of, IsNext, key_of}
use Rattle.cp_shard.specs.Places.{found_at}
use Rattle.cp_shard.specs.Refusals.{IsLate}
use Rattle.cp_shard.specs.Steps.{early_at, early, put_of, step_of, Refuses, OnMemory, IsSaid}
use Rattle.cp_shard.proofs.StepLaws.{MayWrite, late, or_late, split, passed, found_is}

-- ---- which refusals come early

abbrev pub IsEarlyWhy : CallRefusal → Type 0
IsEarlyWhy refusal.OutOfMemory = ⊥
IsEarlyWhy (refusal.PoolFull free need) = ⊥
IsEarlyWhy (refusal.LeavesOver over) = ⊥
IsEarlyWhy why = Unit {0}

abbrev pub IsEarlyAnswer : Answer → Type 0
IsEarlyAnswer (spoken.CallRefused why) = IsEarlyWhy why
IsEarlyAnswer answer = Unit {0}

abbrev pub IsEarly : Option Answer → Type 0
IsEarly None = Unit {0}
IsEarly (Some answer) = IsEarlyAnswer answer

again_early : (store : List ℕ) (items : List Item) (contents : List Content) (request : Request) (leaf : ℕ) (read : Result Entry ℕ) → IsEarlyAnswer (again_entry store items contents request leaf read)
unfolding again_entry
again_early store items contents request leaf (Err left) = tt
again_early store items contents request leaf (Ok e) = go (not (bytes_eq (asked_text store e) (request_text request))) (is_overtaken items e) e.position (latest_of items e.block).version _
  where
    go : (t u : Bool) (p l : ℕ) (b : Booking) → IsEarlyAnswer (cond t (spoken.CallRefused (refusal.NonceUsed p)) (cond u (spoken.CallRefused (refusal.Overtaken l)) (spoken.Booked b)))
    go true u p l b = tt
    go false true p l b = tt
    go false false p l b = tt

at_early : (store : List ℕ) (items : List Item) (contents : List Content) (request : Request) (o : Option RowItem) → IsEarly (early_at store items contents request o)
at_early store items contents request (Some r) = again_early store items contents request r.leaf (entry_of r.entry)
at_early store items contents request None = go (is_stale items request) (latest_of items (block_of request)).version
  where
    go : (t : Bool) (n : ℕ) → IsEarly (cond t (Some (spoken.CallRefused (refusal.StaleVersion n))) None)
    go true n = tt
    go false n = tt

pub is_early : (store : List ℕ) (items : List Item) (contents : List Content) (request : Request) → IsEarly (early store items contents request)
unfolding early
is_early store items contents request = go (not (eqb (epoch_of request) (epoch_now items))) (epoch_now items) (early_at store items contents request (found items request)) (at_early store items contents request (found items request))
  where
    go : (t : Bool) (n : ℕ) (o : Option Answer) → IsEarly o → IsEarly (cond t (Some (spoken.CallRefused (refusal.WrongEpoch n))) o)
    go true n o h = tt
    go false n o h = h

-- ---- a call that needs no new entry

pub settled_step : (s : ShardModel) (pass : ℕ) (request : Request) (may : MayWrite s.first s.items request) (answer : Answer) (leaf : Result ℕ LeavesOver) → early s.store s.items s.contents request ≡ Some answer → step_of s pass request leaf ≡ Same answer
settled_step s pass request may answer leaf e = split s.store s.pages s.first s.items s.contents pass request leaf may ∙ ap (λ o. or_late o (late s.store s.pages s.items s.contents pass request leaf)) e

refuses_why : (s : ShardModel) (pass : ℕ) (request : Request) (limit found : ℕ) (why : CallRefusal) → IsEarlyWhy why → ((leaf : Result ℕ LeavesOver) → step_of s pass request leaf ≡ Same (spoken.CallRefused why)) → Refuses (step_of s pass request) limit found why
refuses_why s pass request limit found (refusal.WrongEpoch current) w h = h
refuses_why s pass request limit found (refusal.NotAWriter family client) w h = h
refuses_why s pass request limit found refusal.BadSignature w h = h
refuses_why s pass request limit found (refusal.NonceUsed position) w h = h
refuses_why s pass request limit found (refusal.Overtaken latest) w h = h
refuses_why s pass request limit found (refusal.StaleVersion latest) w h = h
refuses_why s pass request limit found refusal.OutOfMemory w h = absurd w
refuses_why s pass request limit found (refusal.PoolFull free need) w h = absurd w
refuses_why s pass request limit found (refusal.LeavesOver over) w h = absurd w

pub refuses_early : (s : ShardModel) (pass : ℕ) (request : Request) (may : MayWrite s.first s.items request) (limit found : ℕ) (why : CallRefusal) → early s.store s.items s.contents request ≡ Some (spoken.CallRefused why) → Refuses (step_of s pass request) limit found why
refuses_early s pass request may limit found why e =
    refuses_why s pass request limit found why (subst IsEarly e (is_early s.store s.items s.contents request)) (λ leaf. settled_step s pass request may (spoken.CallRefused why) leaf e)

pub memory_early : (store : List ℕ) (items : List Item) (contents : List Content) (request : Request) (P : Type 0) (why : CallRefusal) → early store items contents request ≡ Some (spoken.CallRefused why) → OnMemory P why
memory_early store items contents request P why e = go why (subst IsEarly e (is_early store items contents request))
  where
    go : (why : CallRefusal) → IsEarlyWhy why → OnMemory P why
    go (refusal.WrongEpoch current) w = tt
    go (refusal.NotAWriter family client) w = tt
    go refusal.BadSignature w = tt
    go (refusal.NonceUsed position) w = tt
    go (refusal.Overtaken latest) w = tt
    go (refusal.StaleVersion latest) w = tt
    go refusal.OutOfMemory w = absurd w
    go (refusal.PoolFull free need) w = tt
    go (refusal.LeavesOver over) w = tt

-- a get's, where memory may be wanted
pub refuses_said : (s : ShardModel) (pass : ℕ) (request : Request) (may : MayWrite s.first s.items request) (limit found : ℕ) (why : CallRefusal) → IsSaid (early s.store s.items s.contents request) (Err why) → Refuses (step_of s pass request) limit found why
refuses_said s pass request may limit found refusal.OutOfMemory h = tt
refuses_said s pass request may limit found (refusal.WrongEpoch current) h = refuses_early s pass request may limit found (refusal.WrongEpoch current) h
refuses_said s pass request may limit found (refusal.NotAWriter family client) h = refuses_early s pass request may limit found (refusal.NotAWriter family client) h
refuses_said s pass request may limit found refusal.BadSignature h = refuses_early s pass request may limit found refusal.BadSignature h
refuses_said s pass request may limit found (refusal.NonceUsed position) h = refuses_early s pass request may limit found (refusal.NonceUsed position) h
refuses_said s pass request may limit found (refusal.Overtaken latest) h = refuses_early s pass request may limit found (refusal.Overtaken latest) h
refuses_said s pass request may limit found (refusal.StaleVersion latest) h = refuses_early s pass request may limit found (refusal.StaleVersion latest) h
refuses_said s pass request may limit found (refusal.PoolFull free need) h = refuses_early s pass request may limit found (refusal.PoolFull free need) h
refuses_said s pass request may limit found (refusal.LeavesOver over) h = refuses_early s pass request may limit found (refusal.LeavesOver over) h

-- ---- a call that needs a new entry

late_step : (s : ShardModel) (pass : ℕ) (request : Request) (may : MayWrite s.first s.items request) (leaf : Result ℕ LeavesOver) → early s.store s.items s.contents request ≡ None → step_of s pass request leaf ≡ late s.store s.pages s.items s.contents pass request leaf
late_step s pass request may leaf e = split s.store s.pages s.first s.items s.contents pass request leaf may ∙ ap (λ o. or_late o (late s.store s.pages s.items s.contents pass request leaf)) e

fits_step : (s : ShardModel) (pass : ℕ) (request : Request) (may : MayWrite s.first s.items request) (leaf : Result ℕ LeavesOver) → early s.store s.items s.contents request ≡ None → pages_of request ≤ pages_free s.pages s.items → step_of s pass request leaf ≡ with_leaf s.store s.items s.contents pass request leaf
fits_step s pass request may leaf e fits =
    late_step s pass request may leaf e
    ∙ ap (λ t. cond t (Same (spoken.CallRefused (refusal.PoolFull (pages_free s.pages s.items) (pages_of request)))) (with_leaf s.store s.items s.contents pass request leaf)) (le-ltb _ _ fits)

full_step : (s : ShardModel) (pass : ℕ) (request : Request) (may : MayWrite s.first s.items request) (leaf : Result ℕ LeavesOver) → early s.store s.items s.contents request ≡ None → pages_free s.pages s.items < pages_of request → step_of s pass request leaf ≡ Same (spoken.CallRefused (refusal.PoolFull (pages_free s.pages s.items) (pages_of request)))
full_step s pass request may leaf e full =
    late_step s pass request may leaf e
    ∙ ap (λ t. cond t (Same (spoken.CallRefused (refusal.PoolFull (pages_free s.pages s.items) (pages_of request)))) (with_leaf s.store s.items s.contents pass request leaf)) (lt-ltb _ _ full)

-- what refuses its appending
pub refuses_late : (s : ShardModel) (pass : ℕ) (request : Request) (may : MayWrite s.first s.items request) (limit found free need : ℕ) (why : CallRefusal) → early s.store s.items s.contents request ≡ None → need ≡ pages_of request → (free < need → free ≡ pages_free s.pages s.items) → (need ≤ free → need ≤ pages_free s.pages s.items)
    → IsLate free need limit found why → Refuses (step_of s pass request) limit found why
refuses_late s pass request may limit found free need refusal.OutOfMemory e pages same fits h = tt
refuses_late s pass request may limit found free need (refusal.PoolFull f n) e pages same fits h =
    let at : free ≡ pages_free s.pages s.items = same h.2 in
    λ leaf. full_step s pass request may leaf e (omega (arith, h.2, at, pages))
    ∙ ap (λ f. Same (spoken.CallRefused (refusal.PoolFull f (pages_of request)))) (sym (h.0 ∙ at)) ∙ ap (λ n. Same (spoken.CallRefused (refusal.PoolFull f n))) (sym (h.1 ∙ pages))
refuses_late s pass request may limit found free need (refusal.LeavesOver over) e pages same fits h =
    (fits_step s pass request may (Err over) e (let room : need ≤ pages_free s.pages s.items = fits h.0 in omega (arith, room, pages)), h.1, h.2, h.3)
refuses_late s pass request may limit found free need (refusal.WrongEpoch current) e pages same fits h = absurd h
refuses_late s pass request may limit found free need (refusal.NotAWriter family client) e pages same fits h = absurd h
refuses_late s pass request may limit found free need refusal.BadSignature e pages same fits h = absurd h
refuses_late s pass request may limit found free need (refusal.NonceUsed position) e pages same fits h = absurd h
refuses_late s pass request may limit found free need (refusal.Overtaken latest) e pages same fits h = absurd h
refuses_late s pass request may limit found free need (refusal.StaleVersion latest) e pages same fits h = absurd h

-- what it leads to
pub new_step : (s : ShardModel) (pass : ℕ) (request : Request) (may : MayWrite s.first s.items request) (leaf : ℕ) (e : Entry) (a : Attestation) (text content : List ℕ) → early s.store s.items s.contents request ≡ None → pages_of request ≤ pages_free s.pages s.items
    → e ≡ new_entry s.items request → a ≡ attested s.store (head_of s.items (block_of request)) e → text ≡ entry_text e → content ≡ content_for s.contents (new_entry s.items request).kind (block_of request)
    → step_of s pass request (Ok leaf) ≡ New (spoken.Booked (record { leaf = leaf; text = attestation_text a; content = content })) (record { pass = pass; leaf = leaf; pages = pages_of request; entry = text })
unfolding booked
new_step s pass request may leaf e a text content none fits entry signed spelled reads =
    let signs : attested s.store (head_of s.items (block_of request)) (new_entry s.items request) ≡ a = ap (attested s.store (head_of s.items (block_of request))) (sym entry) ∙ sym signed in
    let spells : entry_text (new_entry s.items request) ≡ text = ap entry_text (sym entry) ∙ sym spelled in
    fits_step s pass request may (Ok leaf) none fits
    ∙ ap (λ t. New (spoken.Booked (record { leaf = leaf; text = attestation_text (attested s.store (head_of s.items (block_of request)) (new_entry s.items request)); content = content_for s.contents (new_entry s.items request).kind (block_of request) })) (record { pass = pass; leaf = leaf; pages = pages_of request; entry = t })) spells
    ∙ ap (λ x. New (spoken.Booked (record { leaf = leaf; text = attestation_text x; content = content_for s.contents (new_entry s.items request).kind (block_of request) })) (record { pass = pass; leaf = leaf; pages = pages_of request; entry = text })) signs
    ∙ ap (λ x. New (spoken.Booked (record { leaf = leaf; text = attestation_text a; content = x })) (record { pass = pass; leaf = leaf; pages = pages_of request; entry = text })) (sym reads)

-- ---- the new entry

tip_count : (items : List Item) (b : ℕ) → (tip_of items b).count ≡ length (rows_of items b)
unfolding tip_after
tip_count items b = length-map (rows_of items b) (λ (r : RowItem). r.entry)

pub tip_head : (items : List Item) (b : ℕ) → (tip_of items b).head ≡ head_of items b
unfolding tip_after
tip_head items b = refl

pub tip_put : (items : List Item) (b : ℕ) → ((tip_of items b).version ≡ (latest_of items b).version) × ((tip_of items b).content ≡ (latest_of items b).content)
unfolding tip_after
tip_put items b = (refl, refl)

pub put_entry : (items : List Item) (r : PutRequest) (signature content : List ℕ) (tip : Tip) → tip ≡ tip_of items r.block
    → ◌≡◌ {A = Entry} (record { kind = 1; epoch = r.epoch; block = r.block; position = tip.count; client = r.client; nonce = r.nonce; version = r.version; content = r.content; signature = signature }) (new_entry items (ask.Put r signature content))
unfolding new_entry
put_entry items r signature content tip same = ap (λ n. record { kind = 1; epoch = r.epoch; block = r.block; position = n; client = r.client; nonce = r.nonce; version = r.version; content = r.content; signature = signature }) (ap (λ (t : Tip). t.count) same ∙ tip_count items r.block)

pub get_entry : (items : List Item) (r : GetRequest) (tip : Tip) → tip ≡ tip_of items r.block
    → ◌≡◌ {A = Entry} (record { kind = 2; epoch = r.epoch; block = r.block; position = tip.count; client = r.client; nonce = r.nonce; version = tip.version; content = tip.content; signature = [] }) (new_entry items (ask.Get r))
unfolding new_entry
get_entry items r tip same =
    let put = tip_put items r.block in
    ap (λ (t : Tip). record { kind = 2; epoch = r.epoch; block = r.block; position = t.count; client = r.client; nonce = r.nonce; version = t.version; content = t.content; signature = [] }) same
    ∙ ap (λ n. record { kind = 2; epoch = r.epoch; block = r.block; position = n; client = r.client; nonce = r.nonce; version = (tip_of items r.block).version; content = (tip_of items r.block).content; signature = [] }) (tip_count items r.block)
    ∙ ap (λ v. record { kind = 2; epoch = r.epoch; block = r.block; position = length (rows_of items r.block); client = r.client; nonce = r.nonce; version = v; content = (tip_of items r.block).content; signature = [] }) put.0
    ∙ ap (λ h. record { kind = 2; epoch = r.epoch; block = r.block; position = length (rows_of items r.block); client = r.client; nonce = r.nonce; version = (latest_of items r.block).version; content = h; signature = [] }) put.1

pub signed_at : (a : Attestation) (s store h head : List ℕ) (e : Entry) → a ≡ attested s h e → s ≡ store → h ≡ head → a ≡ attested store head e
signed_at a s store h head e signed same at = signed ∙ ap (λ s. attested s h e) same ∙ ap (λ h. attested store h e) at

pub get_content : (items : List Item) (contents : List Content) (r : GetRequest) (content : List ℕ) → content ≡ content_at contents r.block → content ≡ content_for contents (new_entry items (ask.Get r)).kind r.block
unfolding new_entry
get_content items contents r content same = same

pub no_content : (items : List Item) (contents : List Content) (r : PutRequest) (signature bytes none : List ℕ) → none ≡ [] → none ≡ content_for contents (new_entry items (ask.Put r signature bytes)).kind r.block
unfolding new_entry
no_content items contents r signature bytes none same = same

parts : (items : List Item) (request : Request) → ((new_entry items request).block ≡ block_of request) × ((new_entry items request).epoch ≡ epoch_of request) × ((new_entry items request).position ≡ length (rows_of items (block_of request))) × (key_of (new_entry items request) ≡ record { block = block_of request; client = client_of request; nonce = nonce_of request })
unfolding new_entry
parts items (ask.Put r signature content) = (refl, refl, refl, refl)
parts items (ask.Get r) = (refl, refl, refl, refl)

latest_got : (items : List Item) (request : Request) → (new_entry items request).kind ≡ 2 → put_by (new_entry items request) ≡ latest_of items (block_of request)
unfolding new_entry
latest_got items (ask.Put r signature content) kind = absurd (omega (arith, kind))
latest_got items (ask.Get r) kind = refl

-- it may come next
pub next_is : (store : List ℕ) (index : ℕ) (items : List Item) (contents : List Content) (request : Request) (e : Entry) (a : Attestation) (text : List ℕ) → early store items contents request ≡ None → shard_of (block_of request) ≡ index
    → e ≡ new_entry items request → EntryFits e → a ≡ attested store (head_of items (block_of request)) e → text ≡ entry_text e → IsNext store index items a text
next_is store index items contents request e a text none shard entry fits signed spelled =
    let p = passed store items contents request none in
    let q = parts items request in
    let block : (new_entry items request).block ≡ block_of request = q.0 in
    record {
      entry = new_entry items request;
      spells = record { spelled = spelled ∙ ap entry_text entry; fits = subst EntryFits entry fits };
      attestation = signed ∙ ap (attested store (head_of items (block_of request))) entry ∙ ap (λ b. attested store (head_of items b) (new_entry items request)) (sym block);
      shard = ap shard_of block ∙ shard;
      epoch = q.1 ∙ p.epoch;
      position = q.2 ∙ ap (λ b. length (rows_of items b)) (sym block);
      is_new = ap (found_at items) q.3 ∙ sym (found_is items request) ∙ p.first;
      get = λ kind. latest_got items request kind ∙ ap (latest_of items) (sym block);
    }

-- ---- a put's request

pub early_any : (store : List ℕ) (items : List Item) (contents : List Content) (r : PutRequest) (signature content : List ℕ) → early store items contents (ask.Put r signature content) ≡ early store items contents (ask.Put r [] [])
unfolding early found again_entry
early_any store items contents r signature content = refl

pub put_is : (p : SignedPut) (r : PutRequest) (content : List ℕ) → put_request_view r ≡ p.request → ask.Put r p.signature content ≡ put_of p content
put_is p r content same = ap (λ (q : put_spec.PutRequest). ask.Put (record { store = q.store; epoch = q.epoch; block = q.block; client = q.client; nonce = q.nonce; version = q.version; content = q.content }) p.signature content) same

pub put_version : (store : List ℕ) (items : List Item) (contents : List Content) (r : PutRequest) (signature content : List ℕ) → early store items contents (ask.Put r signature content) ≡ None → r.version ≡ (latest_of items r.block).version + 1
put_version store items contents r signature content none =
    let p = passed store items contents (ask.Put r signature content) none in eqb-true _ _ (not-false _ p.fresh)

pub epoch_some : (store : List ℕ) (items : List Item) (contents : List Content) (request : Request) → early store items contents request ≡ None → 1 ≤ epoch_of request
epoch_some store items contents request none = let p = passed store items contents request none in omega (arith, p.epoch)

-- ---- a signature that verifies is short

few_chains : (t : OtsType) → sig_len_of t ≤ 8516
few_chains W1 = omega arith
few_chains W2 = omega arith
few_chains W4 = omega arith
few_chains W8 = omega arith

code_few : (key : List ℕ) → key_reads key ≡ true → key_lms key ≤ 9
unfolding key_reads
code_few key reads =
    let codes = and_parts _ _ (and_parts _ _ reads).1 in
    let lms = and_parts _ _ codes.0 in
    leb-true _ _ lms.1

pub signature_few : (key text signature : List ℕ) → verifies key text signature ≡ true → length signature < 2 ^ 32
signature_few key text signature verified =
    let v = verifies_tells key text signature verified in
    let code : key_lms key ≤ 9 = code_few key v.key_reads in
    let chains : sig_len_of (key_type key) ≤ 8516 = few_chains (key_type key) in
    let few : key_height key ≤ 25 = omega (arith, code) in
    omega (arith, v.long, few, chains)

-- after a put each block reads as its content, or as before
pub put_reads : (contents : List Content) (r : PutRequest) (signature bytes : List ℕ) (b : ℕ) → cond (eqb r.block b) bytes (content_at contents b) ≡ content_at (with_content contents (content_in (ask.Put r signature bytes))) b
put_reads contents r signature bytes b = sym (content_push contents (record { block = r.block; bytes = bytes }) b)

pub put_memory : (P : Type 0) → P → (why : CallRefusal) → OnMemory P why
put_memory P h refusal.OutOfMemory = h
put_memory P h (refusal.WrongEpoch current) = tt
put_memory P h (refusal.NotAWriter family client) = tt
put_memory P h refusal.BadSignature = tt
put_memory P h (refusal.NonceUsed position) = tt
put_memory P h (refusal.Overtaken latest) = tt
put_memory P h (refusal.StaleVersion latest) = tt
put_memory P h (refusal.PoolFull free need) = tt
put_memory P h (refusal.LeavesOver over) = tt
