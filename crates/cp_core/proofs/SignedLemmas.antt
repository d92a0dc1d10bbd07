-- What is booked was signed, and its content is the attested one.
use Rattle.std.proofs.Common.{◌≡◌, ℕ, ◌<◌, Bool, true, false, cond, not, eqb, ltb, List, Option, Some, None, Result, Ok, Err, refl, sym, ap, ◌∙◌}
use Rattle.std.specs.Prelude.{bytes_eq}
use Rattle.std.proofs.lemmas.Bool.{eqb-true, not-false, ltb-true}
use Rattle.std.proofs.lemmas.Slice.Eq.{bytes_eq-Decides}
use Rattle.cp_core.specs.declared.call_refusal.CallRefusal.{CallRefusal}
use Rattle.cp_core.specs.declared.call_refusal.CallRefusal.TheVariants as refusal
use Rattle.cp_core.specs.declared.request.Request.TheVariants as ask
use Rattle.lms_tree.specs.Verifying.{verifies}
use Rattle.cp_statements.specs.PutRequest.{PutRequest, put_request_text}
use Rattle.cp_statements.specs.View.{put_request_view}
use Rattle.cp_core.proofs.CallLemmas.{IsNewCall, settled_none}
use Rattle.cp_core.specs.Booking.{Booking}
use Rattle.cp_core.specs.Calls.{again_entry, asked_text, at_found, booked, content_for, epoch_now, first_refused, found, is_overtaken, is_stale, new_row, or_else, pages_free, settled, shard_step, text_again, unless_settled, unsigned_by, unwritten, with_leaf, writers_key}
use Rattle.cp_core.specs.Life.{RowItem, items_of, row_item}
use Rattle.cp_core.specs.Machine.{State, after_call, next_leaf, step, step_in, with_row}
use Rattle.cp_core.specs.Requests.{block_of, epoch_of, pages_of, request_text}
use Rattle.cp_core.specs.Store.{Store}
use Rattle.cp_core.specs.declared.answer.Answer.{Answer}
use Rattle.cp_core.specs.declared.answer.Answer.TheVariants.{Booked, CallRefused}
use Rattle.cp_core.specs.declared.content.Content.{Content}
use Rattle.cp_core.specs.declared.event.Event.TheVariants.{Call}
use Rattle.cp_core.specs.declared.item.Item.{Item}
use Rattle.cp_core.specs.declared.request.Request.{Request}
use Rattle.cp_statements.specs.Entry.{Entry, entry_of}

-- ---- a call that was made before

-- what it shows that the answer to it is booked
pub record Again (store : List ℕ) (items : List Item) (contents : List Content) (request : Request) (b : Booking) : Type 0 where
  pub row : RowItem
  pub entry : Entry
  pub found_row : found items request ≡ Some row
  pub now : epoch_of request ≡ epoch_now items
  pub reads : entry_of row.entry ≡ Ok entry
  pub asked : asked_text store entry ≡ request_text request
  pub latest : is_overtaken items entry ≡ false
  pub booking : b ≡ record { leaf = row.leaf; text = text_again store items entry; content = content_for contents entry.kind entry.block }

some_answer : (a b : Answer) → (let o : Option Answer = Some a in o) ≡ Some b → a ≡ b
some_answer a b e = cc

pub booked_answer : (a b : Booking) → (let x : Answer = Booked a in x) ≡ Booked b → a ≡ b
booked_answer a b e = cc

passed_by : (t : Bool) (why : CallRefusal) (a : Answer) (b : Booking) → cond t (CallRefused why) a ≡ Booked b → (t ≡ false) × (a ≡ Booked b)
passed_by true why a b e = absurd cc
passed_by false why a b e = (refl, e)

again_booked : (store : List ℕ) (items : List Item) (contents : List Content) (request : Request) (leaf : ℕ) (read : Result Entry ℕ) (b : Booking) → again_entry store items contents request leaf read ≡ Booked b
    → (e : Entry) × (read ≡ Ok e) × (asked_text store e ≡ request_text request) × (is_overtaken items e ≡ false) × (b ≡ record { leaf = leaf; text = text_again store items e; content = content_for contents e.kind e.block })
unfolding again_entry
again_booked store items contents request leaf (Err left) b h = absurd cc
again_booked store items contents request leaf (Ok e) b h =
    let p = passed_by (not (bytes_eq (asked_text store e) (request_text request))) _ _ b h in
    let q = passed_by (is_overtaken items e) _ _ b p.1 in
    (e, refl, (bytes_eq-Decides _ _).0 (not-false _ p.0), q.0, sym (booked_answer _ b q.1))

refused_or : (t : Bool) (why : CallRefusal) (o : Option Answer) (b : Booking) → cond t (Some (CallRefused why)) o ≡ Some (Booked b) → (t ≡ false) × (o ≡ Some (Booked b))
refused_or true why o b e = absurd cc
refused_or false why o b e = (refl, e)

never_first : (pages : ℕ) (items : List Item) (request : Request) (b : Booking) → first_refused pages items request ≡ Some (Booked b) → ⊥
unfolding first_refused
never_first pages items request b e =
    let p = refused_or (is_stale items request) _ _ b e in
    let q = refused_or (ltb (pages_free pages items) (pages_of request)) _ _ b p.1 in
    let h = q.1 in
    cc

at_found_booked : (store : List ℕ) (pages : ℕ) (items : List Item) (contents : List Content) (request : Request) (f : Option RowItem) (b : Booking) → epoch_of request ≡ epoch_now items → found items request ≡ f → at_found store pages items contents request f ≡ Some (Booked b) → Again store items contents request b
at_found_booked store pages items contents request None b now is e = absurd (never_first pages items request b e)
at_found_booked store pages items contents request (Some r) b now is e =
    let w = again_booked store items contents request r.leaf (entry_of r.entry) b (some_answer _ _ e) in
    record { row = r; entry = w.0; found_row = is; now = now; reads = w.1; asked = w.2; latest = w.3; booking = w.4 }

-- no rule on writers books
never_unsigned : (r : PutRequest) (signature : List ℕ) (key : Option (List ℕ)) (b : Booking) → unsigned_by r signature key ≡ Some (Booked b) → ⊥
never_unsigned r signature None b e = cc
never_unsigned r signature (Some key) b e = go (verifies key (put_request_text r) signature) e
  where
    go : (t : Bool) → (let o : Option Answer = cond t None (Some (CallRefused refusal.BadSignature)) in o) ≡ Some (Booked b) → ⊥
    go true e = cc
    go false e = cc

never_unwritten : (list : List ℕ) (items : List Item) (request : Request) (b : Booking) → unwritten list items request ≡ Some (Booked b) → ⊥
unfolding unwritten
never_unwritten list items (ask.Put r signature content) b e = never_unsigned (put_request_view r) signature (writers_key list items (put_request_view r)) b e
never_unwritten list items (ask.Get r) b e = cc

neither_booked : (x y : Option Answer) (b : Booking) → (x ≡ Some (Booked b) → ⊥) → or_else x y ≡ Some (Booked b) → y ≡ Some (Booked b)
neither_booked (Some a) y b never e = absurd (never e)
neither_booked None y b never e = e

pub settled_booked : (store : List ℕ) (pages : ℕ) (list : List ℕ) (items : List Item) (contents : List Content) (request : Request) (b : Booking) → settled store pages list items contents request ≡ Some (Booked b) → Again store items contents request b
unfolding settled
settled_booked store pages list items contents request b e =
    let p = refused_or (not (eqb (epoch_of request) (epoch_now items))) _ _ b e in
    at_found_booked store pages items contents request (found items request) b (eqb-true _ _ (not-false _ p.0)) refl (neither_booked (unwritten list items request) _ b (never_unwritten list items request b) p.1)

-- ---- what was booked

-- either again, or new
pub data IsBooked (s : Store) (st : State) (pass : ℕ) (request : Request) (b : Booking) (after : State) : Type 0 where
  Repeat : Again s.id (items_of st.life (block_of request)) st.contents request b → after ≡ st → IsBooked s st pass request b after
  First : IsNewCall s.pages s.families (items_of st.life (block_of request)) request → st.drawn < s.attestations → b ≡ booked s.id (items_of st.life (block_of request)) st.contents request st.drawn → after ≡ with_row st request (row_item (new_row (items_of st.life (block_of request)) pass request st.drawn)) → IsBooked s st pass request b after

pub step_booked : (s : Store) (st : State) (pass : ℕ) (request : Request) (b : Booking) → (step s st (Call pass request)).0 ≡ Booked b → IsBooked s st pass request b (step s st (Call pass request)).1
unfolding step_in shard_step
step_booked s st pass request b e = go (settled s.id s.pages s.families (items_of st.life (block_of request)) st.contents request) refl e
  where
    leafed : (t : Bool) → ltb st.drawn s.attestations ≡ t → settled s.id s.pages s.families (items_of st.life (block_of request)) st.contents request ≡ None
        → (after_call st request (with_leaf s.id (items_of st.life (block_of request)) st.contents pass request (cond t (Ok st.drawn) (Err (record { drawn = st.drawn; limit = s.attestations }))))).0 ≡ Booked b
        → IsBooked s st pass request b (after_call st request (with_leaf s.id (items_of st.life (block_of request)) st.contents pass request (cond t (Ok st.drawn) (Err (record { drawn = st.drawn; limit = s.attestations }))))).1
    leafed true lt none h = First (settled_none s.id s.pages s.families (items_of st.life (block_of request)) st.contents request none) (ltb-true _ _ lt) (sym (booked_answer _ b h)) refl
    leafed false lt none h = absurd cc

    go : (o : Option Answer) → settled s.id s.pages s.families (items_of st.life (block_of request)) st.contents request ≡ o
        → (after_call st request (unless_settled o (with_leaf s.id (items_of st.life (block_of request)) st.contents pass request (next_leaf s st.drawn)))).0 ≡ Booked b
        → IsBooked s st pass request b (after_call st request (unless_settled o (with_leaf s.id (items_of st.life (block_of request)) st.contents pass request (next_leaf s st.drawn)))).1
    go None is h = leafed (ltb st.drawn s.attestations) refl is h
    go (Some a) is h = Repeat (settled_booked s.id s.pages s.families (items_of st.life (block_of request)) st.contents request b (is ∙ ap (λ (x : Answer). Some x) h)) refl
