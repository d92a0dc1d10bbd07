-- The attestation and the content of what is booked.
use Rattle.std.proofs.Common.{◌≡◌, ℕ, ◌<◌, ◌^◌, Bool, true, false, cond, not, ◌&&◌, eqb, List, [], ◌∷◌, ◌++◌, length, get_or, Option, Some, None, Result, Ok, Err, refl, sym, ap, subst, ◌∙◌, arith}
use Rattle.std.specs.List.{find}
use Rattle.std.proofs.lemmas.List.{append-nil, map-append}
use Rattle.std.proofs.lemmas.Bool.{eqb-true, eqb-false, eq-eqb, not-false}
use Rattle.cp_core.specs.declared.request.Request.TheVariants as ask
use Rattle.cp_core.proofs.SignedLemmas.IsBooked.{Repeat, First}
use Rattle.cp_statements.specs.declared.put_request.PutRequest.{PutRequest}
use Rattle.cp_statements.specs.declared.get_request.GetRequest.{GetRequest}
use Rattle.cp_bytes.specs.Hashes.{genesis, head_after}
use Rattle.cp_chain.proofs.Chain.{head_after_length, head_length}
use Rattle.cp_chain.specs.Each.{Each}
use Rattle.cp_chain.specs.Legal.{LegalFrom, Put, latest, put_at, put_by}
use Rattle.cp_core.proofs.CallLemmas.{entry_fits, latest_now}
use Rattle.cp_core.proofs.ContentLemmas.{new_block}
use Rattle.cp_core.proofs.EpochLemmas.{ordered}
use Rattle.cp_core.proofs.GrowthLemmas.{versions_grow}
use Rattle.cp_core.proofs.LifeLemmas.{at_same, rows_of_few}
use Rattle.cp_core.proofs.RowLemmas.{spells_same}
use Rattle.cp_core.proofs.RuleLemmas.{in_split}
use Rattle.cp_core.proofs.SealLemmas.{genesis_length}
use Rattle.cp_core.proofs.SearchLemmas.{found_first, found_in}
use Rattle.cp_core.proofs.SignedLemmas.{Again, IsBooked, booked_answer, settled_booked}
use Rattle.cp_core.specs.Booking.{Booking}
use Rattle.cp_core.specs.Calls.{added, answer_in, asked_text, attested, booked, content_at, content_for, epoch_now, found, head_of, is_overtaken, latest_of, new_entry, new_row, settled, shard_step, text_again, unless_settled, with_leaf}
use Rattle.cp_core.specs.Honest.{HonestShard, IsItemOf, IsSignedIn, SignedRow, epoch_side}
use Rattle.cp_core.specs.Kept.{IsContentOf, Keeps}
use Rattle.cp_core.specs.Laws.{Attests, BookingsAreSigned, ContentFits}
use Rattle.cp_core.specs.Life.{RowItem, as_row, entries, in_epoch, items_of, row_item, rows_of, shard_of}
use Rattle.cp_core.specs.Machine.{State, with_row}
use Rattle.cp_core.specs.Requests.{RequestFits, block_of, request_text}
use Rattle.cp_core.specs.Running.{item_is_call}
use Rattle.cp_core.specs.Store.{Store, StoreFits}
use Rattle.cp_core.specs.declared.chronicle.Chronicle.{Chronicle}
use Rattle.cp_core.specs.declared.content.Content.{Content}
use Rattle.cp_core.specs.declared.item.Item.{Item}
use Rattle.cp_core.specs.declared.item.Item.TheVariants.{Frozen, Row}
use Rattle.cp_core.specs.declared.leaves_over.LeavesOver.{LeavesOver}
use Rattle.cp_core.specs.declared.answer.Answer.{Answer}
use Rattle.cp_core.specs.declared.answer.Answer.TheVariants.{Booked}
use Rattle.cp_core.specs.declared.request.Request.{Request}
use Rattle.cp_families.specs.Writers.{request_of}
use Rattle.cp_statements.proofs.FixedTexts.{attestation_again}
use Rattle.cp_statements.proofs.TextLengths.{length-get_request_text, length-put_request_text}
use Rattle.cp_statements.specs.Attestation.{AttestationFits, attestation_of, attestation_text}
use Rattle.cp_statements.specs.Entry.{Entry, EntryFits, entry_text}
use Rattle.cp_statements.specs.GetRequest.{get_request_text}
use Rattle.cp_statements.specs.PutRequest.{put_request_text}
use Rattle.cp_statements.specs.View.{get_request_view, put_request_view}

row_of_item : (x : Item) (r : RowItem) → as_row x ≡ Some r → x ≡ row_item r
row_of_item (Row pass leaf pages entry) r e = let same : record { pass = pass; leaf = leaf; pages = pages; entry = entry } ≡ r = cc in ap row_item same
row_of_item (Frozen n next) r e = absurd cc

-- the row that the call made lies behind some items
pub found_lies : (request : Request) (n : ℕ) (items : List Item) (r : RowItem) → found_in request n items ≡ Some r → (front : List Item) × (back : List Item) × (items ≡ front ++ row_item r ∷ back)
found_lies request n [] r e = absurd cc
found_lies request n (x ∷ xs) r e = go (item_is_call request n x) e (λ h. found_lies request n xs r h)
  where
    go : (t : Bool) → cond t (as_row x) (found_in request n xs) ≡ Some r → (found_in request n xs ≡ Some r → (front : List Item) × (back : List Item) × (xs ≡ front ++ row_item r ∷ back)) → (front : List Item) × (back : List Item) × (x ∷ xs ≡ front ++ row_item r ∷ back)
    go true h more = ([], xs, ap (λ (y : Item). y ∷ xs) (row_of_item x r h))
    go false h more = let w = more h in (x ∷ w.0, w.1, ap (λ (l : List Item). x ∷ l) w.2)

-- ---- what was signed

-- in one shard: a call that was made before
signed_in_again : (store : List ℕ) (k : ℕ) (items : List Item) (contents : List Content) (request : Request) (b : Booking) → Each (IsItemOf k) items → (w : Again store items contents request b) → (x : IsSignedIn store items b.leaf b.text) × (x.entry ≡ w.entry)
unfolding text_again
signed_in_again store k items contents request b each w =
    let lies = found_lies request (epoch_now items) items w.row (sym (found_first request items) ∙ w.found_row) in
    let p = in_split k items lies.0 lies.1 w.row w.entry each lies.2 w.reads in (
      record {
        front = lies.0;
        row = w.row;
        back = lies.1;
        entry = w.entry;
        at = lies.2;
        spells = p.spells;
        leaf_is = ap (λ (x : Booking). x.leaf) w.booking;
        text_is = ap (λ (x : Booking). x.text) w.booking ∙ ap (λ (ts : List (List ℕ)). attestation_text (attested store (head_after (genesis w.entry.block) ts) w.entry)) p.before;
      },
      refl,
    )

-- and a new one
signed_in_new : (store : List ℕ) (k : ℕ) (items : List Item) (contents : List Content) (pass : ℕ) (request : Request) (leaf : ℕ) (b : Booking) → Each (IsItemOf k) items → RequestFits request → length (rows_of items (block_of request)) < 2 ^ 64 → b ≡ booked store items contents request leaf
    → (x : IsSignedIn store (items ++ row_item (new_row items pass request leaf) ∷ []) b.leaf b.text) × (x.entry ≡ new_entry items request)
unfolding booked
signed_in_new store k items contents pass request leaf b each fits room is =
    let e = new_entry items request in (
      record {
        front = items;
        row = new_row items pass request leaf;
        back = [];
        entry = e;
        at = refl;
        spells = record { spelled = refl; fits = entry_fits k items request each fits room };
        leaf_is = ap (λ (x : Booking). x.leaf) is;
        text_is = ap (λ (x : Booking). x.text) is ∙ ap (λ (d : ℕ). attestation_text (attested store (head_of items d) e)) (sym (new_block items request));
      },
      refl,
    )

-- a row of one shard of a life
in_life : (s : Store) (r : Chronicle) (k : ℕ) (items : List Item) (leaf : ℕ) (text : List ℕ) → k < 16 → get_or r.shards k [] ≡ items → (x : IsSignedIn s.id items leaf text) → (y : SignedRow s r leaf text) × (y.entry ≡ x.entry)
in_life s r k items leaf text lt is x =
    (record { shard = k; front = x.front; row = x.row; entry = x.entry; at = (lt, x.back, is ∙ x.at); spells = x.spells; leaf_is = x.leaf_is; text_is = x.text_is }, refl)

pub signed_again : (s : Store) (st : State) (request : Request) (b : Booking) → Keeps s st → (w : Again s.id (items_of st.life (block_of request)) st.contents request b) → (x : SignedRow s st.life b.leaf b.text) × (x.entry ≡ w.entry)
signed_again s st request b keeps w =
    let items = items_of st.life (block_of request) in
    let k = shard_of (block_of request) in
    let x = signed_in_again s.id k items st.contents request b (keeps.honest.shards k (omega arith)).each w in
    let y = in_life s st.life k items b.leaf b.text (omega arith) refl x.0 in
    (y.0, y.1 ∙ x.1)

pub signed_new : (s : Store) (st : State) (pass : ℕ) (request : Request) (b : Booking) → StoreFits s → Keeps s st → RequestFits request → b ≡ booked s.id (items_of st.life (block_of request)) st.contents request st.drawn
    → (x : SignedRow s (with_row st request (row_item (new_row (items_of st.life (block_of request)) pass request st.drawn))).life b.leaf b.text) × (x.entry ≡ new_entry (items_of st.life (block_of request)) request)
signed_new s st pass request b small keeps fits is =
    let items = items_of st.life (block_of request) in
    let k = shard_of (block_of request) in
    let row = row_item (new_row items pass request st.drawn) in
    let room : length (rows_of items (block_of request)) < 2 ^ 64 = omega (arith, rows_of_few items (block_of request), keeps.counted k (omega arith), keeps.drawn_within, small.leaves) in
    let x = signed_in_new s.id k items st.contents pass request st.drawn b (keeps.honest.shards k (omega arith)).each fits room is in
    let y = in_life s (with_row st request row).life k (items ++ row ∷ []) b.leaf b.text (omega arith) (at_same st.life k row keeps.honest.sixteen (omega arith)) x.0 in
    (y.0, y.1 ∙ x.1)

-- ---- one shard

pub shard_signed : BookingsAreSigned
unfolding shard_step
shard_signed s k items contents pass request leaf b h fits few e = go (settled s.id s.pages s.families items contents request) refl leaf e
  where
    room : length (rows_of items (block_of request)) < 2 ^ 64
    room = omega (arith, rows_of_few items (block_of request), few)

    go : (o : Option Answer) → settled s.id s.pages s.families items contents request ≡ o → (leaf : Result ℕ LeavesOver) → answer_in (unless_settled o (with_leaf s.id items contents pass request leaf)) ≡ Booked b
        → IsSignedIn s.id (items ++ added (unless_settled o (with_leaf s.id items contents pass request leaf))) b.leaf b.text
    go None is (Ok q) e = (signed_in_new s.id k items contents pass request q b h.each fits room (sym (booked_answer _ b e))).0
    go None is (Err over) e = absurd cc
    go (Some a) is leaf e =
        subst (λ (l : List Item). IsSignedIn s.id l b.leaf b.text) (sym (append-nil items))
        (signed_in_again s.id k items contents request b h.each (settled_booked s.id s.pages s.families items contents request b (is ∙ ap (λ (x : Answer). Some x) e))).0

-- ---- what it reads as

attested_fits : (store prev : List ℕ) (e : Entry) → length store ≡ 32 → length prev ≡ 32 → EntryFits e → AttestationFits (attested store prev e)
unfolding attested
attested_fits store prev e id wide f =
    let g = f.fields in
    (id, (g.0, (g.1.0, (g.1.1.0, (g.1.1.1.0, (g.1.1.1.1.0, (g.1.1.1.1.1.0, (g.1.1.1.1.1.1.0, (g.1.1.1.1.1.1.1.0, (wide, (head_length prev (entry_text e), tt)))))))))))

-- what the content must be, by the entry
abbrev pub EntryContent : Request → Entry → List ℕ → Type 0
EntryContent (ask.Put r signature content) e given = given ≡ []
EntryContent (ask.Get r) e given = IsContentOf (put_by e) given

content_by : (store prev : List ℕ) (request : Request) (e : Entry) (given : List ℕ) → EntryContent request e given → ContentFits request (attested store prev e) given
unfolding attested
content_by store prev (ask.Put r signature content) e given h = h
content_by store prev (ask.Get r) e given h = h

pub attests : (s : Store) (r : Chronicle) (request : Request) (b : Booking) → StoreFits s → (w : SignedRow s r b.leaf b.text) → EntryContent request w.entry b.content → Attests request b
attests s r request b small w content =
    let prev = head_of w.front w.entry.block in
    let wide : length prev ≡ 32 = head_after_length (genesis w.entry.block) (entries (rows_of w.front w.entry.block)) (genesis_length w.entry.block) in
    record {
      attestation = attested s.id prev w.entry;
      reads = ap attestation_of w.text_is ∙ attestation_again (attested s.id prev w.entry) (attested_fits s.id prev w.entry small.id wide w.spells.fits);
      content = content_by s.id prev request w.entry b.content content;
    }

-- ---- which content it is

pub content_first : (s : Store) (st : State) (request : Request) (b : Booking) → Keeps s st → b ≡ booked s.id (items_of st.life (block_of request)) st.contents request st.drawn → EntryContent request (new_entry (items_of st.life (block_of request)) request) b.content
unfolding booked new_entry
content_first s st (ask.Put r signature content) b keeps is = ap (λ (x : Booking). x.content) is
content_first s st (ask.Get r) b keeps is = subst (IsContentOf (latest_of (items_of st.life r.block) r.block)) (sym (ap (λ (x : Booking). x.content) is)) (keeps.contents r.block)

asked_put : (store : List ℕ) (e : Entry) → e.kind ≡ 1 → asked_text store e ≡ put_request_text (request_of store e)
asked_put store e k = rw (eq-eqb e.kind 1 k) refl

asked_get : (store : List ℕ) (e : Entry) → eqb e.kind 1 ≡ false → asked_text store e ≡ get_request_text (record { store = store; epoch = e.epoch; block = e.block; client = e.client; nonce = e.nonce })
asked_get store e k = rw k refl

asked_put_length : (store : List ℕ) (e : Entry) → length store ≡ 32 → EntryFits e → e.kind ≡ 1 → length (asked_text store e) ≡ 104
asked_put_length store e id f k = let g = f.fields in ap length (asked_put store e k) ∙ length-put_request_text (request_of store e) (id, (g.1.0, (g.1.1.0, (g.1.1.1.1.0, (g.1.1.1.1.1.0, (g.1.1.1.1.1.1.0, (g.1.1.1.1.1.1.1.0, tt)))))))

asked_get_length : (store : List ℕ) (e : Entry) → length store ≡ 32 → EntryFits e → eqb e.kind 1 ≡ false → length (asked_text store e) ≡ 64
asked_get_length store e id f k = let g = f.fields in ap length (asked_get store e k) ∙ length-get_request_text (record { store = store; epoch = e.epoch; block = e.block; client = e.client; nonce = e.nonce }) (id, (g.1.0, (g.1.1.0, (g.1.1.1.1.0, (g.1.1.1.1.1.0, tt)))))

-- a put's request is answered by a put, and a get's by a get
put_kind : (store : List ℕ) (e : Entry) (r : PutRequest) (signature content : List ℕ) → length store ≡ 32 → EntryFits e → RequestFits (ask.Put r signature content) → asked_text store e ≡ request_text (ask.Put r signature content) → e.kind ≡ 1
put_kind store e r signature content id f fits same = go (eqb e.kind 1) refl
  where
    go : (t : Bool) → eqb e.kind 1 ≡ t → e.kind ≡ 1
    go true k = eqb-true _ _ k
    go false k = absurd (omega (arith, ap length same, asked_get_length store e id f k, length-put_request_text (put_request_view r) fits.0))

get_kind : (store : List ℕ) (e : Entry) (r : GetRequest) → length store ≡ 32 → EntryFits e → RequestFits (ask.Get r) → asked_text store e ≡ request_text (ask.Get r) → e.kind ≡ 2
get_kind store e r id f fits same = go (eqb e.kind 1) refl
  where
    go : (t : Bool) → eqb e.kind 1 ≡ t → e.kind ≡ 2
    go true k = absurd (omega (arith, ap length same, asked_put_length store e id f (eqb-true _ _ k), length-get_request_text (get_request_view r) fits))
    go false k = let ne = eqb-false _ _ k in omega (arith, ne, f.fields.0.0, f.fields.0.1)

find_lies : (p : RowItem → Bool) (xs : List RowItem) (r : RowItem) → find p xs ≡ Some r → (front : List RowItem) × (back : List RowItem) × (xs ≡ front ++ r ∷ back)
find_lies p [] r e = absurd cc
find_lies p (x ∷ xs) r e = go (p x) e (λ h. find_lies p xs r h)
  where
    go : (t : Bool) → cond t (Some x) (find p xs) ≡ Some r → (find p xs ≡ Some r → (front : List RowItem) × (back : List RowItem) × (xs ≡ front ++ r ∷ back)) → (front : List RowItem) × (back : List RowItem) × (x ∷ xs ≡ front ++ r ∷ back)
    go true h more = let same : x ≡ r = cc in ([], xs, ap (λ (y : RowItem). y ∷ xs) same)
    go false h more = let w = more h in (x ∷ w.0, w.1, ap (λ (l : List RowItem). x ∷ l) w.2)

-- a get whose version is still the latest has the latest put
same_put_still : (s : Store) (k : ℕ) (items : List Item) (contents : List Content) (r : GetRequest) (b : Booking) → HonestShard s k items → (w : Again s.id items contents (ask.Get r) b) → w.entry.kind ≡ 2 → (put_by w.entry ≡ latest_of items r.block) × (w.entry.block ≡ r.block)
unfolding found
same_put_still s k items contents r b h w kind =
    let n = epoch_now items in
    let side = epoch_side s items r.block n in
    let lies = find_lies _ (in_epoch items r.block n) w.row w.found_row in
    let texts : entries (in_epoch items r.block n) ≡ entries lies.0 ++ w.row.entry ∷ entries lies.1 = ap entries lies.2 ∙ map-append (λ (x : RowItem). x.entry) lies.0 (w.row ∷ lies.1) in
    let each : LegalFrom side (entries (in_epoch items r.block n)) = (h.legal r.block n).each in
    let f = each (entries lies.0) w.row.entry (entries lies.1) texts in
    let same : f.0 ≡ w.entry = spells_same w.row.entry f.0 w.entry f.1 w.reads in
    let block : w.entry.block ≡ r.block = ap (λ (d : Entry). d.block) (sym same) ∙ f.2.block in
    let at : put_by w.entry ≡ latest (put_at side.before) (entries lies.0) = ap put_by (sym same) ∙ f.2.latest_put (ap (λ (d : Entry). d.kind) same ∙ kind) in
    let end : latest (put_at side.before) (entries lies.0 ++ w.row.entry ∷ entries lies.1) ≡ latest_of items r.block = ap (latest (put_at side.before)) (sym texts) ∙ latest_now items r.block (ordered k items r.block h.each) in
    let g = versions_grow side (entries lies.0) (w.row.entry ∷ entries lies.1) (subst (LegalFrom side) texts each) in
    let still : w.entry.version ≡ (latest_of items w.entry.block).version = still_latest items w.entry kind w.latest in
    let versions : (latest (put_at side.before) (entries lies.0)).version ≡ (latest (put_at side.before) (entries lies.0 ++ w.row.entry ∷ entries lies.1)).version =
    ap (λ (p : Put). p.version) (sym at) ∙ still ∙ ap (λ (d : ℕ). (latest_of items d).version) block ∙ ap (λ (p : Put). p.version) (sym end) in
    (at ∙ g.same versions ∙ end, block)
  where
    still_latest : (items : List Item) (e : Entry) → e.kind ≡ 2 → is_overtaken items e ≡ false → e.version ≡ (latest_of items e.block).version
    still_latest items e kind not_over = eqb-true _ _ (not-false _ (sym (ap (λ (t : Bool). t && not (eqb e.version (latest_of items e.block).version)) (eq-eqb e.kind 2 kind)) ∙ not_over))

served_put : (contents : List Content) (kind block : ℕ) → kind ≡ 1 → content_for contents kind block ≡ []
served_put contents kind block one = rw one refl

served_get : (contents : List Content) (kind block : ℕ) → kind ≡ 2 → content_for contents kind block ≡ content_at contents block
served_get contents kind block two = rw two refl

pub content_again : (s : Store) (st : State) (request : Request) (b : Booking) → StoreFits s → Keeps s st → RequestFits request → (w : Again s.id (items_of st.life (block_of request)) st.contents request b) → EntryFits w.entry → EntryContent request w.entry b.content
content_again s st (ask.Put r signature content) b small keeps fits w f =
    ap (λ (x : Booking). x.content) w.booking ∙ served_put st.contents w.entry.kind w.entry.block (put_kind s.id w.entry r signature content small.id f fits w.asked)
content_again s st (ask.Get r) b small keeps fits w f =
    let kind : w.entry.kind ≡ 2 = get_kind s.id w.entry r small.id f fits w.asked in
    let still = same_put_still s (shard_of r.block) (items_of st.life r.block) st.contents r b (keeps.honest.shards (shard_of r.block) (omega arith)) w kind in
    let served : b.content ≡ content_at st.contents r.block = ap (λ (x : Booking). x.content) w.booking ∙ served_get st.contents w.entry.kind w.entry.block kind ∙ ap (content_at st.contents) still.1 in
    subst (λ (p : Put). IsContentOf p b.content) (sym still.0) (subst (IsContentOf (latest_of (items_of st.life r.block) r.block)) (sym served) (keeps.contents r.block))

-- ---- both laws

pub booked_signed : (s : Store) (st : State) (pass : ℕ) (request : Request) (b : Booking) (after : State) → StoreFits s → Keeps s st → RequestFits request → IsBooked s st pass request b after → SignedRow s after.life b.leaf b.text
booked_signed s st pass request b after small keeps fits (Repeat w is) = subst (λ (x : State). SignedRow s x.life b.leaf b.text) (sym is) (signed_again s st request b keeps w).0
booked_signed s st pass request b after small keeps fits (First new lt booking is) = subst (λ (x : State). SignedRow s x.life b.leaf b.text) (sym is) (signed_new s st pass request b small keeps fits booking).0

pub booked_attests : (s : Store) (st : State) (pass : ℕ) (request : Request) (b : Booking) (after : State) → StoreFits s → Keeps s st → RequestFits request → IsBooked s st pass request b after → Attests request b
booked_attests s st pass request b after small keeps fits (Repeat w is) =
    let x = signed_again s st request b keeps w in
    let fit : EntryFits w.entry = subst EntryFits x.1 x.0.spells.fits in
    attests s st.life request b small x.0 (subst (λ (e : Entry). EntryContent request e b.content) (sym x.1) (content_again s st request b small keeps fits w fit))
booked_attests s st pass request b after small keeps fits (First new lt booking is) =
    let x = signed_new s st pass request b small keeps fits booking in
    attests s _ request b small x.0 (subst (λ (e : Entry). EntryContent request e b.content) (sym x.1) (content_first s st request b keeps booking))
