-- How the pages of the last puts grow with the rows.
use Rattle.std.proofs.Common.{◌≡◌, ℕ, ◌+◌, ◌-◌, ◌/◌, Bool, true, false, cond, not, eqb, ◌&&◌, ◌||◌, List, [], ◌∷◌, ◌++◌, Option, Some, None, Result, Ok, Err, inl, inr, refl, sym, ap, ◌∙◌, arith}
use Rattle.std.specs.Prelude.{filter_map}
use Rattle.std.specs.Int.{div_ceil}
use Rattle.std.specs.List.{list_any, cons_option}
use Rattle.std.proofs.lemmas.List.Elements.{filter_map-append}
use Rattle.std.proofs.lemmas.List.Folds.{list_any-append}
use Rattle.std.proofs.lemmas.Bool.{cases_eq, eq-eqb, ne_eqb}
use Rattle.std.proofs.Math.Bool.{or-false}
use Rattle.cp_statements.specs.Entry.{Entry, entry_of}
use Rattle.cp_chain.specs.Legal.{last_or, ok_and}
use Rattle.cp_core.specs.Life.{RowItem}
use Rattle.cp_core.specs.Calls.{puts_block, pages_taken}
use Rattle.cp_shard.specs.Contents.{block_put, puts, put_pages, last_pages}

last_or-append : {A : Type 0} (d : A) (xs ys : List A) → last_or d (xs ++ ys) ≡ last_or (last_or d xs) ys
last_or-append d [] ys = refl
last_or-append d (x ∷ xs) ys = last_or-append x xs ys

-- whether a row that reads as this entry puts the block
pub puts_read : (r : RowItem) (e : Entry) (b : ℕ) → entry_of r.entry ≡ Ok e → puts_block b r ≡ (eqb e.kind 1 && eqb e.block b)
puts_read r e b reads = rw reads refl

pub any_push : (rows : List RowItem) (r : RowItem) (b : ℕ) → list_any (puts_block b) (rows ++ r ∷ []) ≡ (list_any (puts_block b) rows || puts_block b r)
any_push rows r b = list_any-append (puts_block b) rows (r ∷ []) ∙ ap (λ t. list_any (puts_block b) rows || t) (or-false (puts_block b r))

pub last_push : (rows : List RowItem) (r : RowItem) (b : ℕ) → last_pages (rows ++ r ∷ []) b ≡ cond (puts_block b r) r.pages (last_pages rows b)
last_push rows r b = ap (last_or 0) (filter_map-append (put_pages b) rows (r ∷ [])) ∙ last_or-append 0 (filter_map (put_pages b) rows) (filter_map (put_pages b) (r ∷ [])) ∙ go (puts_block b r)
  where
    go : (t : Bool) → last_or (last_pages rows b) (cons_option (cond t (Some r.pages) None) []) ≡ cond t r.pages (last_pages rows b)
    go true = refl
    go false = refl

-- the last put's pages, or another number where there is none
pub last_else : (d : ℕ) (rows : List RowItem) (b : ℕ) → last_or d (filter_map (put_pages b) rows) ≡ cond (list_any (puts_block b) rows) (last_pages rows b) d
last_else d [] b = refl
last_else d (r ∷ rows) b = go (puts_block b r) (last_else d rows b)
  where
    go : (t : Bool) → last_or d (filter_map (put_pages b) rows) ≡ cond (list_any (puts_block b) rows) (last_pages rows b) d → last_or d (cons_option (cond t (Some r.pages) None) (filter_map (put_pages b) rows)) ≡ cond (t || list_any (puts_block b) rows) (last_or 0 (cons_option (cond t (Some r.pages) None) (filter_map (put_pages b) rows))) d
    go true rest = refl
    go false rest = rest

-- ---- a row by the block that it puts, if it puts one

abbrev is_block : ℕ → Option ℕ → Bool
is_block b None = false
is_block b (Some c) = eqb c b

abbrev is_last : Option ℕ → List RowItem → Bool
is_last None later = false
is_last (Some b) later = not (list_any (puts_block b) later)

block_of_kind : (t : Bool) (c b : ℕ) → (t && eqb c b) ≡ is_block b (cond t (Some c) None)
block_of_kind true c b = refl
block_of_kind false c b = refl

block_by : (read : Result Entry ℕ) (b : ℕ) → ok_and read (λ e. eqb e.kind 1 && eqb e.block b) ≡ is_block b (block_put read)
block_by (Ok e) b = block_of_kind (eqb e.kind 1) e.block b
block_by (Err left) b = refl

last_of_kind : (t : Bool) (c : ℕ) (later : List RowItem) → (t && not (list_any (puts_block c) later)) ≡ is_last (cond t (Some c) None) later
last_of_kind true c later = refl
last_of_kind false c later = refl

last_by : (read : Result Entry ℕ) (later : List RowItem) → ok_and read (λ e. eqb e.kind 1 && not (list_any (puts_block e.block) later)) ≡ is_last (block_put read) later
last_by (Ok e) later = last_of_kind (eqb e.kind 1) e.block later
last_by (Err left) later = refl

-- the pages of a row at its place
abbrev weight : Option ℕ → ℕ → List RowItem → ℕ
weight o n later = cond (is_last o later) n 0

taken_cons : (x : RowItem) (rows : List RowItem) → pages_taken (x ∷ rows) ≡ weight (puts x) x.pages rows + pages_taken rows
taken_cons x rows = ap (λ t. cond t x.pages 0 + pages_taken rows) (last_by (entry_of x.entry) rows)

last_cons : (x : RowItem) (rows : List RowItem) (b : ℕ) → last_pages (x ∷ rows) b ≡ cond (is_block b (puts x)) (cond (list_any (puts_block b) rows) (last_pages rows b) x.pages) (last_pages rows b)
last_cons x rows b = ap (λ t. last_or 0 (cons_option (cond t (Some x.pages) None) (filter_map (put_pages b) rows))) (block_by (entry_of x.entry) b) ∙ go (is_block b (puts x))
  where
    go : (t : Bool) → last_or 0 (cons_option (cond t (Some x.pages) None) (filter_map (put_pages b) rows)) ≡ cond t (cond (list_any (puts_block b) rows) (last_pages rows b) x.pages) (last_pages rows b)
    go true = last_else x.pages rows b
    go false = refl

-- ---- one more row

later_get : (rows : List RowItem) (r : RowItem) (e : Entry) (b : ℕ) → entry_of r.entry ≡ Ok e → eqb e.kind 1 ≡ false → list_any (puts_block b) (rows ++ r ∷ []) ≡ list_any (puts_block b) rows
later_get rows r e b reads kind = any_push rows r b ∙ ap (λ t. list_any (puts_block b) rows || t) (puts_read r e b reads ∙ ap (λ t. t && eqb e.block b) kind) ∙ or-false (list_any (puts_block b) rows)

weight_same : (o : Option ℕ) (n : ℕ) (rows more : List RowItem) → ((b : ℕ) → list_any (puts_block b) more ≡ list_any (puts_block b) rows) → weight o n more ≡ weight o n rows
weight_same None n rows more same = refl
weight_same (Some b) n rows more same = ap (λ t. cond (not t) n 0) (same b)

-- a row that puts nothing takes no page
pub taken_get : (rows : List RowItem) (r : RowItem) (e : Entry) → entry_of r.entry ≡ Ok e → eqb e.kind 1 ≡ false → pages_taken (rows ++ r ∷ []) ≡ pages_taken rows
taken_get [] r e reads kind = rw (reads, kind) refl
taken_get (x ∷ rows) r e reads kind =
    taken_cons x (rows ++ r ∷ []) ∙ ap (λ n. n + pages_taken (rows ++ r ∷ [])) (weight_same (puts x) x.pages rows (rows ++ r ∷ []) (λ b. later_get rows r e b reads kind))
    ∙ ap (λ n. weight (puts x) x.pages rows + n) (taken_get rows r e reads kind) ∙ sym (taken_cons x rows)

later_put : (rows : List RowItem) (r : RowItem) (e : Entry) (b : ℕ) → entry_of r.entry ≡ Ok e → eqb e.kind 1 ≡ true → list_any (puts_block b) (rows ++ r ∷ []) ≡ (list_any (puts_block b) rows || eqb e.block b)
later_put rows r e b reads kind = any_push rows r b ∙ ap (λ t. list_any (puts_block b) rows || t) (puts_read r e b reads ∙ ap (λ t. t && eqb e.block b) kind)

or_true : (t : Bool) → (t || true) ≡ true
or_true true = refl
or_true false = refl

-- what the row before it in the list loses is what it was the last put with
traded : (o : Option ℕ) (n : ℕ) (rows : List RowItem) (r : RowItem) (e : Entry) → entry_of r.entry ≡ Ok e → eqb e.kind 1 ≡ true
    → weight o n (rows ++ r ∷ []) + cond (is_block e.block o) (cond (list_any (puts_block e.block) rows) (last_pages rows e.block) n) (last_pages rows e.block) ≡ weight o n rows + last_pages rows e.block
traded None n rows r e reads kind = refl
traded (Some c) n rows r e reads kind = elim (cases_eq c e.block) [
  | inl same ↦
      let gone : list_any (puts_block c) (rows ++ r ∷ []) ≡ true = later_put rows r e c reads kind ∙ ap (λ t. list_any (puts_block c) rows || t) (eq-eqb e.block c (sym same)) ∙ or_true (list_any (puts_block c) rows) in
      ap (λ t. cond (not t) n 0 + cond (eqb c e.block) (cond (list_any (puts_block e.block) rows) (last_pages rows e.block) n) (last_pages rows e.block)) gone
      ∙ ap (λ t. 0 + cond t (cond (list_any (puts_block e.block) rows) (last_pages rows e.block) n) (last_pages rows e.block)) (eq-eqb c e.block same)
      ∙ ap (λ b. 0 + cond (list_any (puts_block b) rows) (last_pages rows b) n) (sym same) ∙ none (list_any (puts_block c) rows) refl
      ∙ ap (λ b. weight (Some c) n rows + last_pages rows b) same
  | inr other ↦
      let stays : list_any (puts_block c) (rows ++ r ∷ []) ≡ list_any (puts_block c) rows = later_put rows r e c reads kind ∙ ap (λ t. list_any (puts_block c) rows || t) (ne_eqb e.block c (λ h. other (sym h))) ∙ or-false (list_any (puts_block c) rows) in
      ap (λ t. cond (not t) n 0 + cond (eqb c e.block) (cond (list_any (puts_block e.block) rows) (last_pages rows e.block) n) (last_pages rows e.block)) stays
      ∙ ap (λ t. weight (Some c) n rows + cond t (cond (list_any (puts_block e.block) rows) (last_pages rows e.block) n) (last_pages rows e.block)) (ne_eqb c e.block other)
]
  where
    unput : list_any (puts_block c) rows ≡ false → last_pages rows c ≡ 0
    unput h = last_else 0 rows c ∙ ap (λ t. cond t (last_pages rows c) 0) h

    none : (t : Bool) → list_any (puts_block c) rows ≡ t → 0 + cond t (last_pages rows c) n ≡ cond (not t) n 0 + last_pages rows c
    none true h = refl
    none false h = omega (arith, unput h)

-- a put's pages come in, and those of the block's last put go
pub taken_put : (rows : List RowItem) (r : RowItem) (e : Entry) → entry_of r.entry ≡ Ok e → eqb e.kind 1 ≡ true → pages_taken (rows ++ r ∷ []) + last_pages rows e.block ≡ pages_taken rows + r.pages
taken_put [] r e reads kind = rw (reads, kind) (omega arith)
taken_put (x ∷ rows) r e reads kind =
    omega (arith, taken_cons x (rows ++ r ∷ []), taken_cons x rows, last_cons x rows e.block, traded (puts x) x.pages rows r e reads kind, taken_put rows r e reads kind)

-- ---- pages of a length

pub pages_is : (n : ℕ) → div_ceil n 1024 ≡ (n + 1023) / 1024
pages_is n = omega arith
