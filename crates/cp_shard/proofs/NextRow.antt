-- What the appending of an entry rests on.
use Rattle.std.proofs.Common.{◌≡◌, ℕ, suc, ◌+◌, ◌-◌, ◌≤◌, Bool, true, false, cond, eqb, List, [], ◌∷◌, ◌++◌, length, Option, Some, None, Result, Ok, refl, sym, ap, ◌∙◌, arith}
use Rattle.std.specs.Prelude.{filter_map}
use Rattle.std.specs.List.{cons_option}
use Rattle.std.specs.BTreeMap.{BTreeMap, get}
use Rattle.std.proofs.lemmas.List.Elements.{filter_map-append}
use Rattle.std.proofs.lemmas.List.{append-nil}
use Rattle.cp_statements.specs.Attestation.{Attestation}
use Rattle.cp_statements.specs.Entry.{Entry, entry_of}
use Rattle.cp_core.specs.Life.{RowItem, row_item, rows_in, rows_of, is_of_block}
use Rattle.cp_core.specs.Calls.{content_at, attested, head_of}
use Rattle.cp_core.specs.declared.content.Content.{Content}
use Rattle.cp_core.specs.declared.item.Item.{Item}
use Rattle.cp_core.specs.declared.item.Item.TheVariants.{Row, Frozen}
use Rattle.cp_core.proofs.RowLemmas.{spells_reads}
use Rattle.cp_pages.specs.Extent.{Extent}
use Rattle.cp_pages.specs.Pages.{Pages}
use Rattle.cp_shard.specs.declared.key.Key.{Key}
use Rattle.cp_shard.specs.declared.call.Call.{Call}
use Rattle.cp_shard.specs.Model.{ShardModel}
use Rattle.cp_shard.specs.Booked.{key_by}
use Rattle.cp_shard.specs.Contents.{block_put, puts, put_blocks, contents_of, HasContents}
use Rattle.cp_shard.specs.Kept.{IsNext, key_of}
use Rattle.cp_shard.specs.Places.{key_cmp, found_at, IsPlace}
use Rattle.cp_shard.specs.Standings.{content_in}
use Rattle.cp_shard.proofs.Holding.{rows_row, view_same, content_seen}

-- ---- the place of a new call is free

pub no_place : (store : List ℕ) (items : List Item) (calls : List Call) (k : Key) (o : Option ℕ) → IsPlace store items calls k o → found_at items k ≡ None → o ≡ None
no_place store items calls k None h e = refl
no_place store items calls k (Some p) h e = absurd (let both : None ≡ Some h.2.row = sym e ∙ h.2.found in cc)

names : (store prev : List ℕ) (e : Entry) (a : Attestation) → a ≡ attested store prev e → (key_by a ≡ key_of e) × (a.position ≡ e.position)
unfolding attested
names store prev e a same = (ap key_by same, ap (λ (a : Attestation). a.position) same)

pub next_free : (store : List ℕ) (index : ℕ) (items : List Item) (calls : List Call) (places : BTreeMap Key ℕ) (a : Attestation) (text : List ℕ) (k : Key) → ((k : Key) → IsPlace store items calls k (get key_cmp places k)) → IsNext store index items a text → k ≡ key_by a → get key_cmp places k ≡ None
next_free store index items calls places a text k at next key =
    no_place store items calls k (get key_cmp places k) (at k) (ap (found_at items) (key ∙ (names store (head_of items next.entry.block) next.entry a next.attestation).0) ∙ next.is_new)

-- ---- its position fits

rows_few : (items : List Item) (b : ℕ) → length (rows_of items b) ≤ length items
unfolding rows_of
rows_few [] b = omega arith
rows_few (Row pass leaf pages entry ∷ items) b = go (is_of_block b (record { pass = pass; leaf = leaf; pages = pages; entry = entry })) (rows_few items b)
  where
    go : (t : Bool) → length (rows_of items b) ≤ length items → length (cond t (record { pass = pass; leaf = leaf; pages = pages; entry = entry } ∷ rows_of items b) (rows_of items b)) ≤ suc (length items)
    go true h = omega (arith, h)
    go false h = omega (arith, h)
rows_few (Frozen n next ∷ items) b = omega (arith, rows_few items b)

pub next_few : (store : List ℕ) (index : ℕ) (items : List Item) (a : Attestation) (text : List ℕ) → IsNext store index items a text → a.position ≤ length items
next_few store index items a text next =
    omega (arith, (names store (head_of items next.entry.block) next.entry a next.attestation).1, next.position, rows_few items next.entry.block)

-- ---- what is seen after it

kind_of : (store prev : List ℕ) (e : Entry) (a : Attestation) → a ≡ attested store prev e → a.kind ≡ e.kind
unfolding attested
kind_of store prev e a same = ap (λ (a : Attestation). a.kind) same

puts_nothing : (read : Result Entry ℕ) (e : Entry) → read ≡ Ok e → eqb e.kind 1 ≡ false → block_put read ≡ None
puts_nothing read e is kind = ap block_put is ∙ ap (λ t. cond t (Some e.block) None) kind

get_blocks : (items : List Item) (r : RowItem) → puts r ≡ None → put_blocks (items ++ row_item r ∷ []) ≡ put_blocks items
get_blocks items r none =
    ap (filter_map puts) (rows_row items r) ∙ filter_map-append puts (rows_in items) (r ∷ []) ∙ ap (λ o. put_blocks items ++ cons_option o []) none ∙ append-nil (put_blocks items)

pub get_view : (store : List ℕ) (index pages closings : ℕ) (first : List ℕ) (items now : List Item) (f g : ℕ → List ℕ) (r : RowItem) (a : Attestation) → IsNext store index items a r.entry → a.kind ≡ 2 → now ≡ items ++ row_item r ∷ [] → ((b : ℕ) → g b ≡ f b)
    → ◌≡◌ {A = ShardModel} (record { store = store; index = index; pages = pages; closings = closings; first = first; items = now; contents = contents_of (put_blocks now) g })
    (record { store = store; index = index; pages = pages; closings = closings; first = first; items = items ++ row_item r ∷ []; contents = contents_of (put_blocks items) f })
get_view store index pages closings first items now f g r a next get is same =
    let kind : a.kind ≡ next.entry.kind = kind_of store (head_of items next.entry.block) next.entry a next.attestation in
    let other : eqb next.entry.kind 1 ≡ false = ap (λ n. eqb n 1) (sym kind ∙ get) in
    let none : puts r ≡ None = puts_nothing (entry_of r.entry) next.entry (spells_reads r.entry next.entry next.spells) other in
    ap (λ (xs : List Item). record { store = store; index = index; pages = pages; closings = closings; first = first; items = xs; contents = contents_of (put_blocks xs) g }) is
    ∙ ap (λ (cs : List Content). record { store = store; index = index; pages = pages; closings = closings; first = first; items = items ++ row_item r ∷ []; contents = cs })
    (view_same (items ++ row_item r ∷ []) g f same ∙ ap (λ bs. contents_of bs f) (get_blocks items r none))

-- after a put each block reads as before, and the put's as its content
pub put_view : (items now : List Item) (pages : ℕ) (runs more : ℕ → Option Extent) (pool after : Pages) (block b : ℕ) (bytes : List ℕ) → HasContents items pages runs pool → HasContents now pages more after
    → content_in after (more b) ≡ cond (eqb block b) bytes (content_in pool (runs b))
    → content_at (contents_of (put_blocks now) (λ b. content_in after (more b))) b ≡ cond (eqb block b) bytes (content_at (contents_of (put_blocks items) (λ b. content_in pool (runs b))) b)
put_view items now pages runs more pool after block b bytes had has reads =
    content_seen now pages more after b has ∙ reads ∙ ap (cond (eqb block b) bytes) (sym (content_seen items pages runs pool b had))
