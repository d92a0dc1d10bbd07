-- A call that was made before, at the row that it made.
use Rattle.std.proofs.Common.{◌≡◌, ℕ, ◌+◌, ◌<◌, Bool, true, false, cond, not, ◌&&◌, eqb, List, ◌∷◌, ◌++◌, length, Option, Some, None, Ok, refl, sym, ap, subst, ◌∙◌, take, drop}
use Rattle.std.specs.Prelude.{get_or}
use Rattle.std.proofs.lemmas.List.{drop_more, map-append, length-map, take_at, take-append-drop}
use Rattle.std.proofs.lemmas.Bool.{eq-eqb}
use Rattle.cp_core.specs.declared.request.Request.TheVariants as ask
use Rattle.cp_statements.specs.declared.put_request.PutRequest.{PutRequest}
use Rattle.cp_bytes.specs.Hashes.{genesis, head_after}
use Rattle.cp_chain.proofs.Each.{each_front}
use Rattle.cp_chain.specs.Each.{Each}
use Rattle.cp_chain.specs.Legal.{Put}
use Rattle.cp_core.proofs.RowLemmas.{rows_of-append, spells_reads, spells_same}
use Rattle.cp_core.proofs.RunningLemmas.{head_now, put_now}
use Rattle.cp_core.specs.Calls.{again_entry, attested, epoch_now, first_refused, found, is_overtaken, is_stale, latest_of, settled, text_again, unwritten}
use Rattle.cp_core.specs.Honest.{IsItemOf, IsRowOf, SpellsEntry}
use Rattle.cp_core.specs.Life.{RowItem, as_row, entries, row_item, rows_of}
use Rattle.cp_core.specs.Requests.{block_of, epoch_of}
use Rattle.cp_core.specs.Running.{IsFoundAt, IsRowAt, Stands, tip_of}
use Rattle.cp_core.specs.declared.answer.Answer.{Answer}
use Rattle.cp_core.specs.declared.content.Content.{Content}
use Rattle.cp_core.specs.declared.item.Item.{Item}
use Rattle.cp_core.specs.declared.item.Item.TheVariants.{Row}
use Rattle.cp_core.specs.declared.request.Request.{Request}
use Rattle.cp_statements.specs.Attestation.{attestation_text}
use Rattle.cp_statements.specs.Entry.{Entry, entry_of}
use Rattle.cp_tips.specs.Tip.{Tip}

any_default : {A : Type 0} (xs : List A) (i : ℕ) (a b : A) → i < length xs → get_or xs i a ≡ get_or xs i b
any_default xs i a b lt = let p = drop_more xs i a lt in let q = drop_more xs i b lt in cc

pub same_place : (items : List Item) (i : ℕ) (x : Item) (r : RowItem) → x ≡ get_or items i x → i < length items → get_or items i (row_item r) ≡ row_item r → x ≡ row_item r
same_place items i x r is lt at = is ∙ any_default items i x (row_item r) lt ∙ at

pub row_at : (items : List Item) (i : ℕ) (x : Item) (pass leaf pages : ℕ) (text given : List ℕ) → i < length items → x ≡ get_or items i x → x ≡ Row pass leaf pages text → given ≡ text → IsRowAt items i leaf given
row_at items i x pass leaf pages text given lt is row same =
    (lt, record { pass = pass; leaf = leaf; pages = pages; entry = text }, sym (sym row ∙ is ∙ any_default items i x (Row pass leaf pages text) lt), refl, sym same)

-- ---- the row in its place

pub stands_before : (items : List Item) (i : ℕ) → i < length items → Stands items → Stands (take i items)
stands_before items i lt stands = (stands.0, each_front (IsItemOf stands.0) (take i items) (drop i items) (subst (Each (IsItemOf stands.0)) (sym (take-append-drop i items)) stands.1))

-- what a row behind these items is
pub record InPlace (items front : List Item) (text : List ℕ) (e : Entry) : Type 0 where
  pub spells : SpellsEntry text e
  pub position : e.position ≡ length (rows_of front e.block)
  pub before : take e.position (entries (rows_of items e.block)) ≡ entries (rows_of front e.block)

pub in_split : (k : ℕ) (items front back : List Item) (r : RowItem) (e : Entry) → Each (IsItemOf k) items → items ≡ front ++ row_item r ∷ back → entry_of r.entry ≡ Ok e → InPlace items front r.entry e
in_split k items front back r e each split reads =
    let f : IsRowOf k front r = each front (row_item r) back split in
    let same : f.entry ≡ e = spells_same r.entry f.entry e (spells_reads r.entry f.entry f.spells) reads in
    let position : e.position ≡ length (rows_of front e.block) = subst (λ (d : Entry). d.position ≡ length (rows_of front d.block)) same f.position in
    let rows : rows_of items e.block ≡ rows_of front e.block ++ rows_of (row_item r ∷ back) e.block = ap (λ (l : List Item). rows_of l e.block) split ∙ rows_of-append front (row_item r ∷ back) e.block in
    let texts : entries (rows_of items e.block) ≡ entries (rows_of front e.block) ++ entries (rows_of (row_item r ∷ back) e.block) = ap entries rows ∙ map-append (λ (x : RowItem). x.entry) (rows_of front e.block) (rows_of (row_item r ∷ back) e.block) in
    record {
      spells = subst (SpellsEntry r.entry) same f.spells;
      position = position;
      before = ap (take e.position) texts ∙ take_at (entries (rows_of front e.block)) _ e.position (length-map (rows_of front e.block) (λ (x : RowItem). x.entry) ∙ sym position);
    }

pub in_place : (items : List Item) (i leaf : ℕ) (text : List ℕ) (e : Entry) → Stands items → IsRowAt items i leaf text → entry_of text ≡ Ok e → InPlace items (take i items) text e
in_place items i leaf text e stands at reads =
    let r : RowItem = at.1 in
    let split : items ≡ take i items ++ row_item r ∷ drop (i + 1) items = sym (take-append-drop i items) ∙ ap (λ (l : List Item). take i items ++ l) (drop_more items i (row_item r) at.0 ∙ ap (λ (x : Item). x ∷ drop (i + 1) items) at.2) in
    subst (λ (t : List ℕ). InPlace items (take i items) t e) at.4 (in_split stands.0 items (take i items) (drop (i + 1) items) r e stands.1 split (ap entry_of at.4 ∙ reads))

pub again_text : (store : List ℕ) (items : List Item) (i leaf : ℕ) (text : List ℕ) (e : Entry) → Stands items → IsRowAt items i leaf text → entry_of text ≡ Ok e → text_again store items e ≡ attestation_text (attested store (tip_of (take i items) e.block).head e)
unfolding text_again
again_text store items i leaf text e stands at reads =
    let p = in_place items i leaf text e stands at reads in
    ap (λ (ts : List (List ℕ)). attestation_text (attested store (head_after (genesis e.block) ts) e)) p.before ∙ ap (λ (h : List ℕ). attestation_text (attested store h e)) (sym (head_now (take i items) e.block))

-- ---- versions

pub version_now : (items : List Item) (b : ℕ) (t : Tip) → t ≡ tip_of items b → t.version ≡ (latest_of items b).version
version_now items b t is = ap (λ (u : Tip). u.version) is ∙ ap (λ (p : Put). p.version) (put_now items b)

stale_of : (t v : ℕ) (b : Bool) → eqb v (t + 1) ≡ b → (let o : Option ℕ = cond b None (Some t) in o) ≡ cond (not (eqb v (t + 1))) (Some t) None
stale_of t v true e = rw e refl
stale_of t v false e = rw e refl

pub put_stale : (items : List Item) (request : Request) (r : PutRequest) (signature content : List ℕ) (t : ℕ) (b : Bool) → request ≡ ask.Put r signature content → t ≡ (latest_of items r.block).version → eqb r.version (t + 1) ≡ b
    → (let o : Option ℕ = cond b None (Some t) in o) ≡ cond (is_stale items request) (Some (latest_of items (block_of request)).version) None
put_stale items request r signature content t b is now test =
    stale_of t r.version b test ∙ ap (λ (n : ℕ). cond (not (eqb r.version (n + 1))) (Some n) None) now
    ∙ ap (λ (q : Request). cond (is_stale items q) (Some (latest_of items (block_of q)).version) None) (sym is)

overtaken_of : (k t v : ℕ) (b : Bool) → k ≡ 2 → eqb v t ≡ b → (let o : Option ℕ = cond b None (Some t) in o) ≡ cond (eqb k 2 && not (eqb v t)) (Some t) None
overtaken_of k t v true two e = rw (eq-eqb k 2 two, e) refl
overtaken_of k t v false two e = rw (eq-eqb k 2 two, e) refl

pub get_overtaken : (items : List Item) (e : Entry) (t : ℕ) (b : Bool) → e.kind ≡ 2 → t ≡ (latest_of items e.block).version → eqb e.version t ≡ b
    → (let o : Option ℕ = cond b None (Some t) in o) ≡ cond (is_overtaken items e) (Some (latest_of items e.block).version) None
get_overtaken items e t b two now test = overtaken_of e.kind t e.version b two test ∙ ap (λ (n : ℕ). cond (eqb e.kind 2 && not (eqb e.version n)) (Some n) None) now

-- ---- what is settled

pub settled_first : (store : List ℕ) (pages : ℕ) (list : List ℕ) (items : List Item) (contents : List Content) (request : Request) → epoch_of request ≡ epoch_now items → unwritten list items request ≡ None → found items request ≡ None → settled store pages list items contents request ≡ first_refused pages items request
unfolding settled
settled_first store pages list items contents request now writes none = rw (eq-eqb (epoch_of request) (epoch_now items) now, writes, none) refl

pub settled_written : (store : List ℕ) (pages : ℕ) (list : List ℕ) (items : List Item) (contents : List Content) (request : Request) (answer : Answer) → epoch_of request ≡ epoch_now items → unwritten list items request ≡ Some answer → Some answer ≡ settled store pages list items contents request
unfolding settled
settled_written store pages list items contents request answer now writes = rw (eq-eqb (epoch_of request) (epoch_now items) now, writes) refl

pub settled_again : (store : List ℕ) (pages : ℕ) (list : List ℕ) (items : List Item) (contents : List Content) (request : Request) (r : RowItem) → epoch_of request ≡ epoch_now items → unwritten list items request ≡ None → found items request ≡ Some r → settled store pages list items contents request ≡ Some (again_entry store items contents request r.leaf (entry_of r.entry))
unfolding settled
settled_again store pages list items contents request r now writes some = rw (eq-eqb (epoch_of request) (epoch_now items) now, writes, some) refl

row_parts : (items : List Item) (i : ℕ) (x : Item) (r : RowItem) (pass leaf pages : ℕ) (text : List ℕ) → x ≡ get_or items i x → i < length items → get_or items i (row_item r) ≡ row_item r → x ≡ Row pass leaf pages text → r ≡ record { pass = pass; leaf = leaf; pages = pages; entry = text }
row_parts items i x r pass leaf pages text is lt at row =
    let both : Some r ≡ Some (record { pass = pass; leaf = leaf; pages = pages; entry = text }) = ap as_row (sym (same_place items i x r is lt at) ∙ row) in
    cc

pub settled_at : (store : List ℕ) (pages : ℕ) (list : List ℕ) (items : List Item) (contents : List Content) (request : Request) (i : ℕ) (x : Item) (pass leaf held : ℕ) (text given : List ℕ) (answer : Answer) → epoch_of request ≡ epoch_now items → unwritten list items request ≡ None → IsFoundAt items request (Some i) → x ≡ get_or items i x → x ≡ Row pass leaf held text → given ≡ text
    → answer ≡ again_entry store items contents request leaf (entry_of given) → Some answer ≡ settled store pages list items contents request
settled_at store pages list items contents request i x pass leaf held text given answer now writes at is row same answers =
    let parts : at.1 ≡ record { pass = pass; leaf = leaf; pages = held; entry = text } = row_parts items i x at.1 pass leaf held text is at.0 at.3 row in
    ap (λ (a : Answer). Some a) (answers ∙ ap (λ (t : List ℕ). again_entry store items contents request leaf (entry_of t)) same ∙ ap (λ (r : RowItem). again_entry store items contents request r.leaf (entry_of r.entry)) (sym parts))
    ∙ sym (settled_again store pages list items contents request at.1 now writes at.2)
