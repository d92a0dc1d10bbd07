-- The contents stay right as items come.
use Rattle.std.proofs.Common.{◌≡◌, ℕ, ◌+◌, ◌-◌, ◌≤◌, Bool, true, false, cond, eqb, ◌&&◌, ◌||◌, List, [], ◌∷◌, ◌++◌, length, Option, Some, None, Result, Ok, Err, inl, inr, refl, sym, ap, subst, ◌∙◌, arith}
use Rattle.std.specs.Prelude.{filter_map}
use Rattle.std.specs.List.{list_any, cons_option}
use Rattle.std.proofs.lemmas.List.{append-nil}
use Rattle.std.proofs.lemmas.List.Elements.{filter_map-append}
use Rattle.std.proofs.lemmas.Bool.{cases_eq, eq-eqb, ne_eqb}
use Rattle.std.proofs.Math.Bool.{or-false}
use Rattle.cp_statements.specs.Entry.{Entry, entry_of}
use Rattle.cp_chain.specs.Legal.{Put, latest, last_or, ok_and, put_by}
use Rattle.cp_core.specs.Life.{RowItem, row_item, as_row, rows_in, rows_of}
use Rattle.cp_core.specs.Calls.{content_at, bytes_for, latest_of, puts_block, pages_taken, pages_free}
use Rattle.cp_core.specs.declared.content.Content.{Content}
use Rattle.cp_core.specs.Kept.{IsContentOf}
use Rattle.cp_core.specs.declared.item.Item.{Item}
use Rattle.cp_core.specs.declared.item.Item.TheVariants.{Frozen}
use Rattle.cp_core.proofs.CallLemmas.{latest_push, latest_other, latest_freeze}
use Rattle.cp_pages.specs.Extent.{Extent}
use Rattle.cp_pages.specs.Pages.{Pages, pages_for, taken_pages, free_pages}
use Rattle.cp_shard.specs.Standings.{content_in}
use Rattle.cp_shard.specs.Contents.{block_put, puts, put_blocks, contents_of, last_pages, IsLiveRun, AreApartRuns, HasContents}
use Rattle.cp_shard.proofs.PutPages.{any_push, last_push, puts_read, taken_get}

-- ---- the rows of more items

pub rows_row : (items : List Item) (r : RowItem) → rows_in (items ++ row_item r ∷ []) ≡ rows_in items ++ r ∷ []
rows_row items r = filter_map-append as_row items (row_item r ∷ [])

pub rows_frozen : (items : List Item) (m : ℕ) (next : List ℕ) → rows_in (items ++ Frozen m next ∷ []) ≡ rows_in items
rows_frozen items m next = filter_map-append as_row items (Frozen m next ∷ []) ∙ append-nil (rows_in items)

-- ---- contents as they are seen

same_contents : (blocks : List ℕ) (f g : ℕ → List ℕ) → ((b : ℕ) → f b ≡ g b) → contents_of blocks f ≡ contents_of blocks g
same_contents [] f g same = refl
same_contents (b ∷ bs) f g same = ap (λ (c : List ℕ). record { block = b; bytes = c } ∷ contents_of bs f) (same b) ∙ ap (λ (cs : List Content). record { block = b; bytes = g b } ∷ cs) (same_contents bs f g same)

pub view_same : (items : List Item) (f g : ℕ → List ℕ) → ((b : ℕ) → f b ≡ g b) → contents_of (put_blocks items) f ≡ contents_of (put_blocks items) g
view_same items f g same = same_contents (put_blocks items) f g same

pub view_frozen : (items : List Item) (m : ℕ) (next : List ℕ) (f : ℕ → List ℕ) → contents_of (put_blocks (items ++ Frozen m next ∷ [])) f ≡ contents_of (put_blocks items) f
view_frozen items m next f = ap (λ (rows : List RowItem). contents_of (filter_map puts rows) f) (rows_frozen items m next)

among : ℕ → List ℕ → Bool
among b blocks = list_any (λ c. eqb c b) blocks

seen_in : (blocks : List ℕ) (f : ℕ → List ℕ) (b : ℕ) (d : List ℕ) → last_or d (filter_map (bytes_for b) (contents_of blocks f)) ≡ cond (among b blocks) (f b) d
unfolding among
seen_in [] f b d = refl
seen_in (c ∷ cs) f b d = elim (cases_eq c b) [
  | inl same ↦
      ap (λ t. last_or d (cons_option (cond t (Some (f c)) None) (filter_map (bytes_for b) (contents_of cs f)))) (eq-eqb c b same)
      ∙ seen_in cs f b (f c) ∙ ap (cond (among b cs) (f b)) (ap f same) ∙ either (among b cs) (f b)
      ∙ ap (λ t. cond (t || among b cs) (f b) d) (sym (eq-eqb c b same))
  | inr other ↦
      ap (λ t. last_or d (cons_option (cond t (Some (f c)) None) (filter_map (bytes_for b) (contents_of cs f)))) (ne_eqb c b other)
      ∙ seen_in cs f b d ∙ ap (λ t. cond (t || among b cs) (f b) d) (sym (ne_eqb c b other))
]
  where
    either : (t : Bool) (x : List ℕ) → cond t x x ≡ x
    either true x = refl
    either false x = refl

among_puts : (rows : List RowItem) (b : ℕ) → among b (filter_map puts rows) ≡ list_any (puts_block b) rows
unfolding among
among_puts [] b = refl
among_puts (r ∷ rows) b = go (entry_of r.entry) (filter_map puts rows) (list_any (puts_block b) rows) (among_puts rows b)
  where
    kinds : (t : Bool) (c : ℕ) (bs : List ℕ) (u : Bool) → list_any (λ c. eqb c b) bs ≡ u → list_any (λ c. eqb c b) (cons_option (cond t (Some c) None) bs) ≡ ((t && eqb c b) || u)
    kinds true c bs u h = ap (λ u. eqb c b || u) h
    kinds false c bs u h = h

    go : (o : Result Entry ℕ) (bs : List ℕ) (u : Bool) → list_any (λ c. eqb c b) bs ≡ u → list_any (λ c. eqb c b) (cons_option (block_put o) bs) ≡ (ok_and o (λ e. eqb e.kind 1 && eqb e.block b) || u)
    go (Ok e) bs u h = kinds (eqb e.kind 1) e.block bs u h
    go (Err left) bs u h = h

-- what is seen of a block's content is that of its run
pub content_seen : (items : List Item) (pages : ℕ) (runs : ℕ → Option Extent) (pool : Pages) (b : ℕ) → HasContents items pages runs pool
    → content_at (contents_of (put_blocks items) (λ b. content_in pool (runs b))) b ≡ content_in pool (runs b)
unfolding content_at
content_seen items pages runs pool b h =
    seen_in (put_blocks items) (λ b. content_in pool (runs b)) b [] ∙ ap (λ t. cond t (content_in pool (runs b)) []) (among_puts (rows_in items) b) ∙ go (list_any (puts_block b) (rows_in items)) refl
  where
    go : (t : Bool) → list_any (puts_block b) (rows_in items) ≡ t → cond t (content_in pool (runs b)) [] ≡ content_in pool (runs b)
    go true e = refl
    go false e = sym (h.unwritten b e)

-- the free pages of the pool are those that the last puts leave
pub free_seen : (items : List Item) (pages : ℕ) (runs : ℕ → Option Extent) (pool : Pages) → HasContents items pages runs pool → free_pages pool ≡ pages_free pages items
free_seen items pages runs pool h = ap (λ n. n - taken_pages pool) h.len ∙ ap (λ n. pages - n) h.taken

-- ---- nothing changes

-- where the runs are the same
pub has_same : (items : List Item) (pages : ℕ) (runs more : ℕ → Option Extent) (pool : Pages) → ((b : ℕ) → more b ≡ runs b) → HasContents items pages runs pool → HasContents items pages more pool
has_same items pages runs more pool same h = record {
  len = h.len;
  live = λ b. subst (IsLiveRun pool) (sym (same b)) (h.live b);
  apart = λ a b differ. subst (λ r. AreApartRuns r (more b)) (sym (same a)) (subst (AreApartRuns (runs a)) (sym (same b)) (h.apart a b differ));
  taken = h.taken;
  counted = λ b. h.counted b ∙ ap (λ r. pages_for (length (content_in pool r))) (sym (same b));
  unwritten = λ b e. ap (content_in pool) (same b) ∙ h.unwritten b e;
  hashed = λ b. subst (λ r. IsContentOf (latest_of items b) (content_in pool r)) (sym (same b)) (h.hashed b);
}

never_put : (b : ℕ) → 1 ≤ (latest_of [] b).version → ⊥
unfolding latest rows_of
never_put b some = omega (arith, some)

pub has_none : (pages : ℕ) (runs : ℕ → Option Extent) (pool : Pages) → length pool ≡ pages → taken_pages pool ≡ 0 → ((b : ℕ) → runs b ≡ None) → HasContents [] pages runs pool
has_none pages runs pool len taken none =
    has_same [] pages (λ b. None) runs pool none (record {
      len = len;
      live = λ b. tt;
      apart = λ a b differ. tt;
      taken = taken;
      counted = λ b. refl;
      unwritten = λ b e. refl;
      hashed = λ b. record { at_first = λ e. refl; hashed = λ some. absurd (never_put b some) };
    })

pub has_frozen : (items : List Item) (m : ℕ) (next : List ℕ) (pages : ℕ) (runs : ℕ → Option Extent) (pool : Pages) → HasContents items pages runs pool → HasContents (items ++ Frozen m next ∷ []) pages runs pool
has_frozen items m next pages runs pool h = record {
  len = h.len;
  live = h.live;
  apart = h.apart;
  taken = h.taken ∙ ap pages_taken (sym (rows_frozen items m next));
  counted = λ b. ap (λ rows. last_pages rows b) (rows_frozen items m next) ∙ h.counted b;
  unwritten = λ b e. h.unwritten b (ap (list_any (puts_block b)) (sym (rows_frozen items m next)) ∙ e);
  hashed = λ b. subst (λ (p : Put). IsContentOf p (content_in pool (runs b))) (sym (latest_freeze items m next b)) (h.hashed b);
}

-- ---- a get

latest_get : (items : List Item) (r : RowItem) (e : Entry) (b : ℕ) → entry_of r.entry ≡ Ok e → eqb e.kind 1 ≡ false → latest_of (items ++ row_item r ∷ []) b ≡ latest_of items b
latest_get items r e b reads kind = elim (cases_eq e.block b) [
  | inl same ↦ latest_push items r e b reads same ∙ ap (λ t. cond t (put_by e) (latest_of items b)) kind
  | inr other ↦ latest_other items r e b reads other
]

no_put : (r : RowItem) (e : Entry) (b : ℕ) → entry_of r.entry ≡ Ok e → eqb e.kind 1 ≡ false → puts_block b r ≡ false
no_put r e b reads kind = puts_read r e b reads ∙ ap (λ t. t && eqb e.block b) kind

pub has_get : (items : List Item) (r : RowItem) (e : Entry) (pages : ℕ) (runs : ℕ → Option Extent) (pool : Pages) → entry_of r.entry ≡ Ok e → eqb e.kind 1 ≡ false → HasContents items pages runs pool → HasContents (items ++ row_item r ∷ []) pages runs pool
has_get items r e pages runs pool reads kind h = record {
  len = h.len;
  live = h.live;
  apart = h.apart;
  taken = h.taken ∙ sym (taken_get (rows_in items) r e reads kind) ∙ ap pages_taken (sym (rows_row items r));
  counted = λ b. ap (λ rows. last_pages rows b) (rows_row items r) ∙ last_push (rows_in items) r b ∙ ap (λ t. cond t r.pages (last_pages (rows_in items) b)) (no_put r e b reads kind) ∙ h.counted b;
  unwritten = λ b none. h.unwritten b (sym (or-false (list_any (puts_block b) (rows_in items))) ∙ ap (λ t. list_any (puts_block b) (rows_in items) || t) (sym (no_put r e b reads kind)) ∙ sym (any_push (rows_in items) r b) ∙ ap (list_any (puts_block b)) (sym (rows_row items r)) ∙ none);
  hashed = λ b. subst (λ (p : Put). IsContentOf p (content_in pool (runs b))) (sym (latest_get items r e b reads kind)) (h.hashed b);
}
