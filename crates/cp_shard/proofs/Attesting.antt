-- What one honest shard books reads as an attestation, and its content is the attested one.
use Rattle.std.proofs.Common.{◌≡◌, ℕ, ◌<◌, ◌^◌, Bool, true, false, cond, not, ◌&&◌, eqb, List, [], ◌∷◌, ◌++◌, length, Option, Some, None, Result, Ok, Err, refl, sym, ap, subst, ◌∙◌, arith}
use Rattle.std.specs.Prelude.{bytes_eq}
use Rattle.std.specs.List.{find}
use Rattle.std.proofs.lemmas.List.{map-append}
use Rattle.std.proofs.lemmas.Bool.{eqb-true, eqb-false, eq-eqb, not-false, false≢true}
use Rattle.std.proofs.lemmas.Slice.Eq.{bytes_eq-Decides}
use Rattle.cp_bytes.specs.Hashes.{genesis, head_after}
use Rattle.cp_statements.specs.Attestation.{attestation_text}
use Rattle.cp_statements.specs.Entry.{Entry, EntryFits}
use Rattle.cp_statements.specs.PutRequest.{put_request_text}
use Rattle.cp_statements.specs.GetRequest.{get_request_text}
use Rattle.cp_statements.specs.View.{put_request_view, get_request_view}
use Rattle.cp_statements.specs.declared.put_request.PutRequest.{PutRequest}
use Rattle.cp_statements.specs.declared.get_request.GetRequest.{GetRequest}
use Rattle.cp_families.specs.Writers.{request_of}
use Rattle.cp_chain.specs.Each.{Each}
use Rattle.cp_chain.specs.Legal.{LegalFrom, Put, latest, put_at, put_by}
use Rattle.cp_core.specs.Booking.{Booking}
use Rattle.cp_core.specs.Store.{Store, StoreFits}
use Rattle.cp_core.specs.Life.{RowItem, row_item, rows_in, rows_of, in_epoch, entries}
use Rattle.cp_core.specs.Requests.{RequestFits, block_of, request_text}
use Rattle.cp_core.specs.Calls.{answer_in, asked_text, attested, booked, content_at, content_for, epoch_now, found, head_of, is_overtaken, latest_of, new_entry, new_row, settled, shard_step, text_again, unless_settled, with_leaf}
use Rattle.cp_core.specs.Honest.{HonestShard, IsItemOf, SignedRow, epoch_side}
use Rattle.cp_core.specs.Kept.{IsContentOf}
use Rattle.cp_core.specs.Laws.{Attests}
use Rattle.cp_core.specs.declared.chronicle.Chronicle.{Chronicle}
use Rattle.cp_core.specs.declared.content.Content.{Content}
use Rattle.cp_core.specs.declared.item.Item.{Item}
use Rattle.cp_core.specs.declared.leaves_over.LeavesOver.{LeavesOver}
use Rattle.cp_core.specs.declared.request.Request.{Request}
use Rattle.cp_core.specs.declared.request.Request.TheVariants as ask
use Rattle.cp_core.specs.declared.answer.Answer.{Answer}
use Rattle.cp_core.specs.declared.answer.Answer.TheVariants.{Booked}
use Rattle.cp_core.proofs.AttestedLemmas.{EntryContent, attests, found_lies}
use Rattle.cp_core.proofs.CallLemmas.{entry_fits, latest_now}
use Rattle.cp_core.proofs.ContentLemmas.{new_block}
use Rattle.cp_core.proofs.EpochLemmas.{ordered}
use Rattle.cp_core.proofs.GrowthLemmas.{versions_grow}
use Rattle.cp_core.proofs.LifeLemmas.{rows_of_few}
use Rattle.cp_core.proofs.RowLemmas.{spells_same}
use Rattle.cp_core.proofs.RuleLemmas.{in_split}
use Rattle.cp_core.proofs.SearchLemmas.{found_first}
use Rattle.cp_core.proofs.SignedLemmas.{Again, booked_answer, settled_booked}
use Rattle.cp_shard.specs.Laws.{BookingsAttest}
use Rattle.cp_shard.proofs.Texts.{put_is_no_get, get_is_no_put}

-- ---- the row that is signed

-- a life that has these items alone
abbrev pub alone : List Item → Chronicle
alone items = record { shards = items ∷ []; seals = [] }

row_again : (s : Store) (k : ℕ) (items : List Item) (contents : List Content) (request : Request) (b : Booking) → Each (IsItemOf k) items → (w : Again s.id items contents request b) → (x : SignedRow s (alone items) b.leaf b.text) × (x.entry ≡ w.entry)
unfolding text_again
row_again s k items contents request b each w =
    let lies = found_lies request (epoch_now items) items w.row (sym (found_first request items) ∙ w.found_row) in
    let p = in_split k items lies.0 lies.1 w.row w.entry each lies.2 w.reads in (
      record {
        shard = 0;
        front = lies.0;
        row = w.row;
        entry = w.entry;
        at = (omega arith, lies.1, lies.2);
        spells = p.spells;
        leaf_is = ap (λ (x : Booking). x.leaf) w.booking;
        text_is = ap (λ (x : Booking). x.text) w.booking ∙ ap (λ (ts : List (List ℕ)). attestation_text (attested s.id (head_after (genesis w.entry.block) ts) w.entry)) p.before;
      },
      refl,
    )

row_new : (s : Store) (k : ℕ) (items : List Item) (contents : List Content) (pass : ℕ) (request : Request) (leaf : ℕ) (b : Booking) → Each (IsItemOf k) items → RequestFits request → length (rows_of items (block_of request)) < 2 ^ 64 → b ≡ booked s.id items contents request leaf
    → (x : SignedRow s (alone (items ++ row_item (new_row items pass request leaf) ∷ [])) b.leaf b.text) × (x.entry ≡ new_entry items request)
unfolding booked
row_new s k items contents pass request leaf b each fits room is =
    let e = new_entry items request in (
      record {
        shard = 0;
        front = items;
        row = new_row items pass request leaf;
        entry = e;
        at = (omega arith, [], refl);
        spells = record { spelled = refl; fits = entry_fits k items request each fits room };
        leaf_is = ap (λ (x : Booking). x.leaf) is;
        text_is = ap (λ (x : Booking). x.text) is ∙ ap (λ (d : ℕ). attestation_text (attested s.id (head_of items d) e)) (sym (new_block items request));
      },
      refl,
    )

-- ---- the content

content_new : (store : List ℕ) (items : List Item) (contents : List Content) (request : Request) (leaf : ℕ) (b : Booking) → ((block : ℕ) → IsContentOf (latest_of items block) (content_at contents block)) → b ≡ booked store items contents request leaf
    → EntryContent request (new_entry items request) b.content
unfolding booked new_entry
content_new store items contents (ask.Put r signature content) leaf b held is = ap (λ (x : Booking). x.content) is
content_new store items contents (ask.Get r) leaf b held is = subst (IsContentOf (latest_of items r.block)) (sym (ap (λ (x : Booking). x.content) is)) (held r.block)

-- a put's request is answered by a put, and a get's by a get
same_bytes : (xs ys : List ℕ) → xs ≡ ys → bytes_eq xs ys ≡ true
same_bytes xs ys same = (bytes_eq-Decides xs ys).1 same

by_put : (store : List ℕ) (e : Entry) (r : PutRequest) → asked_text store e ≡ put_request_text (put_request_view r) → e.kind ≡ 1
by_put store e r same = go (eqb e.kind 1) refl
  where
    go : (t : Bool) → eqb e.kind 1 ≡ t → e.kind ≡ 1
    go true is = eqb-true _ _ is
    go false is =
        absurd (false≢true (sym (get_is_no_put _ (put_request_view r))
        ∙ same_bytes (get_request_text (record { store = store; epoch = e.epoch; block = e.block; client = e.client; nonce = e.nonce })) (put_request_text (put_request_view r))
        (sym (ap (λ t. cond t (put_request_text (request_of store e)) (get_request_text (record { store = store; epoch = e.epoch; block = e.block; client = e.client; nonce = e.nonce }))) is) ∙ same)))

by_get : (store : List ℕ) (e : Entry) (r : GetRequest) → EntryFits e → asked_text store e ≡ get_request_text (get_request_view r) → e.kind ≡ 2
by_get store e r f same = go (eqb e.kind 1) refl
  where
    go : (t : Bool) → eqb e.kind 1 ≡ t → e.kind ≡ 2
    go false is = let ne = eqb-false _ _ is in omega (arith, ne, f.fields.0.0, f.fields.0.1)
    go true is =
        absurd (false≢true (sym (put_is_no_get _ (get_request_view r))
        ∙ same_bytes (put_request_text (request_of store e)) (get_request_text (get_request_view r))
        (sym (ap (λ t. cond t (put_request_text (request_of store e)) (get_request_text (record { store = store; epoch = e.epoch; block = e.block; client = e.client; nonce = e.nonce }))) is) ∙ same)))

find_lies : (p : RowItem → Bool) (xs : List RowItem) (r : RowItem) → find p xs ≡ Some r → (front : List RowItem) × (back : List RowItem) × (xs ≡ front ++ r ∷ back)
find_lies p [] r e = absurd cc
find_lies p (x ∷ xs) r e = go (p x) e (λ h. find_lies p xs r h)
  where
    go : (t : Bool) → cond t (Some x) (find p xs) ≡ Some r → (find p xs ≡ Some r → (front : List RowItem) × (back : List RowItem) × (xs ≡ front ++ r ∷ back)) → (front : List RowItem) × (back : List RowItem) × (x ∷ xs ≡ front ++ r ∷ back)
    go true h more = let same : x ≡ r = cc in ([], xs, ap (λ (y : RowItem). y ∷ xs) same)
    go false h more = let w = more h in (x ∷ w.0, w.1, ap (λ (l : List RowItem). x ∷ l) w.2)

still_latest : (items : List Item) (e : Entry) → e.kind ≡ 2 → is_overtaken items e ≡ false → e.version ≡ (latest_of items e.block).version
still_latest items e kind not_over = eqb-true _ _ (not-false _ (sym (ap (λ (t : Bool). t && not (eqb e.version (latest_of items e.block).version)) (eq-eqb e.kind 2 kind)) ∙ not_over))

-- a get whose version is still the latest has the latest put
same_put : (s : Store) (k : ℕ) (items : List Item) (contents : List Content) (r : GetRequest) (b : Booking) → HonestShard s k items → (w : Again s.id items contents (ask.Get r) b) → w.entry.kind ≡ 2 → (put_by w.entry ≡ latest_of items r.block) × (w.entry.block ≡ r.block)
unfolding found
same_put s k items contents r b h w kind =
    let n = epoch_now items in
    let side = epoch_side s items r.block n in
    let lies = find_lies _ (in_epoch items r.block n) w.row w.found_row in
    let texts : entries (in_epoch items r.block n) ≡ entries lies.0 ++ w.row.entry ∷ entries lies.1 = ap entries lies.2 ∙ map-append (λ (x : RowItem). x.entry) lies.0 (w.row ∷ lies.1) in
    let each : LegalFrom side (entries (in_epoch items r.block n)) = (h.legal r.block n).each in
    let f = each (entries lies.0) w.row.entry (entries lies.1) texts in
    let same : f.0 ≡ w.entry = spells_same w.row.entry f.0 w.entry f.1 w.reads in
    let block : w.entry.block ≡ r.block = ap (λ (d : Entry). d.block) (sym same) ∙ f.2.block in
    let at : put_by w.entry ≡ latest (put_at side.before) (entries lies.0) = ap put_by (sym same) ∙ f.2.latest_put (ap (λ (d : Entry). d.kind) same ∙ kind) in
    let end : latest (put_at side.before) (entries lies.0 ++ w.row.entry ∷ entries lies.1) ≡ latest_of items r.block = ap (latest (put_at side.before)) (sym texts) ∙ latest_now items r.block (ordered k items r.block h.each) in
    let g = versions_grow side (entries lies.0) (w.row.entry ∷ entries lies.1) (subst (LegalFrom side) texts each) in
    let still : w.entry.version ≡ (latest_of items w.entry.block).version = still_latest items w.entry kind w.latest in
    let versions : (latest (put_at side.before) (entries lies.0)).version ≡ (latest (put_at side.before) (entries lies.0 ++ w.row.entry ∷ entries lies.1)).version =
    ap (λ (p : Put). p.version) (sym at) ∙ still ∙ ap (λ (d : ℕ). (latest_of items d).version) block ∙ ap (λ (p : Put). p.version) (sym end) in
    (at ∙ g.same versions ∙ end, block)

served_put : (contents : List Content) (kind block : ℕ) → kind ≡ 1 → content_for contents kind block ≡ []
served_put contents kind block one = rw one refl

served_get : (contents : List Content) (kind block : ℕ) → kind ≡ 2 → content_for contents kind block ≡ content_at contents block
served_get contents kind block two = rw two refl

content_again : (s : Store) (k : ℕ) (items : List Item) (contents : List Content) (request : Request) (b : Booking) → HonestShard s k items → ((block : ℕ) → IsContentOf (latest_of items block) (content_at contents block)) → (w : Again s.id items contents request b) → EntryFits w.entry → EntryContent request w.entry b.content
content_again s k items contents (ask.Put r signature content) b h held w f =
    ap (λ (x : Booking). x.content) w.booking ∙ served_put contents w.entry.kind w.entry.block (by_put s.id w.entry r w.asked)
content_again s k items contents (ask.Get r) b h held w f =
    let kind : w.entry.kind ≡ 2 = by_get s.id w.entry r f w.asked in
    let still = same_put s k items contents r b h w kind in
    let served : b.content ≡ content_at contents r.block = ap (λ (x : Booking). x.content) w.booking ∙ served_get contents w.entry.kind w.entry.block kind ∙ ap (content_at contents) still.1 in
    subst (λ (p : Put). IsContentOf p b.content) (sym still.0) (subst (IsContentOf (latest_of items r.block)) (sym served) (held r.block))

-- ---- the law

pub bookings_attest : BookingsAttest
unfolding shard_step
bookings_attest s k items contents pass request leaf b h held small fits few e = go (settled s.id s.pages s.families items contents request) refl leaf e
  where
    room : length (rows_of items (block_of request)) < 2 ^ 64
    room = omega (arith, rows_of_few items (block_of request), few)

    go : (o : Option Answer) → settled s.id s.pages s.families items contents request ≡ o → (leaf : Result ℕ LeavesOver) → answer_in (unless_settled o (with_leaf s.id items contents pass request leaf)) ≡ Booked b → Attests request b
    go None is (Ok q) e =
        let booking : b ≡ booked s.id items contents request q = sym (booked_answer _ b e) in
        let x = row_new s k items contents pass request q b h.each fits room booking in
        attests s _ request b small x.0 (subst (λ (d : Entry). EntryContent request d b.content) (sym x.1) (content_new s.id items contents request q b held booking))
    go None is (Err over) e = absurd cc
    go (Some a) is leaf e =
        let w = settled_booked s.id s.pages s.families items contents request b (is ∙ ap (λ (x : Answer). Some x) e) in
        let x = row_again s k items contents request b h.each w in
        let fit : EntryFits w.entry = subst EntryFits x.1 x.0.spells.fits in
        attests s _ request b small x.0 (subst (λ (d : Entry). EntryContent request d b.content) (sym x.1) (content_again s k items contents request b h held w fit))
