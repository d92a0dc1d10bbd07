-- How a block's rows grow with its shard's items.
use Rattle.std.proofs.Common.{◌≡◌, ℕ, ◌+◌, ◌<◌, List, [], ◌∷◌, ◌++◌, length, Ok, refl, sym, ap, ◌∙◌, arith}
use Rattle.std.specs.Prelude.{filter, filter_map}
use Rattle.std.proofs.lemmas.List.{length-append}
use Rattle.std.proofs.lemmas.List.Elements.{filter_map-append, filter-append}
use Rattle.std.proofs.lemmas.Bool.{eq-eqb, ne_eqb}
use Rattle.cp_bytes.proofs.FieldLemmas.{ok_is}
use Rattle.cp_core.specs.Honest.{SpellsEntry}
use Rattle.cp_core.specs.Life.{RowItem, as_freeze, as_row, freezes, is_of_block, row_item, rows_in, rows_of}
use Rattle.cp_core.specs.declared.item.Item.{Item}
use Rattle.cp_core.specs.declared.item.Item.TheVariants.{Frozen}
use Rattle.cp_statements.proofs.Entries.{entry_again}
use Rattle.cp_statements.specs.Entry.{Entry, entry_of}

pub spells_reads : (text : List ℕ) (e : Entry) → SpellsEntry text e → entry_of text ≡ Ok e
spells_reads text e h = ap entry_of h.spelled ∙ entry_again e h.fits

pub spells_same : (text : List ℕ) (d e : Entry) → entry_of text ≡ Ok d → entry_of text ≡ Ok e → d ≡ e
spells_same text d e p q = let both : Ok d ≡ Ok e = sym p ∙ q in ok_is d e both

pub same_entry : (text : List ℕ) (d e : Entry) → SpellsEntry text d → SpellsEntry text e → d ≡ e
same_entry text d e p q = spells_same text d e (spells_reads text d p) (spells_reads text e q)

pub rows_of-append : (xs ys : List Item) (b : ℕ) → rows_of (xs ++ ys) b ≡ rows_of xs b ++ rows_of ys b
unfolding rows_of
rows_of-append xs ys b = ap (filter (is_of_block b)) (filter_map-append as_row xs ys) ∙ filter-append (is_of_block b) (rows_in xs) (rows_in ys)

pub freezes-append : (xs ys : List Item) → freezes (xs ++ ys) ≡ freezes xs + freezes ys
freezes-append xs ys = ap length (filter_map-append as_freeze xs ys) ∙ length-append (filter_map as_freeze xs) (filter_map as_freeze ys)

pub rows_of_one : (r : RowItem) (e : Entry) (back : List Item) (b : ℕ) → entry_of r.entry ≡ Ok e → e.block ≡ b → rows_of (row_item r ∷ back) b ≡ r ∷ rows_of back b
unfolding rows_of
rows_of_one r e back b h same = rw (h, eq-eqb e.block b same) refl

pub rows_of_other : (r : RowItem) (e : Entry) (back : List Item) (b : ℕ) → entry_of r.entry ≡ Ok e → (e.block ≡ b → ⊥) → rows_of (row_item r ∷ back) b ≡ rows_of back b
unfolding rows_of
rows_of_other r e back b h other = rw (h, ne_eqb e.block b other) refl

pub rows_of_freeze : (n : ℕ) (next : List ℕ) (back : List Item) (b : ℕ) → rows_of (Frozen n next ∷ back) b ≡ rows_of back b
unfolding rows_of
rows_of_freeze n next back b = refl

pub rows_of_nil : (b : ℕ) → rows_of [] b ≡ []
unfolding rows_of
rows_of_nil b = refl

-- a row counts for what comes later
pub counts_later : (front middle : List Item) (r : RowItem) (e : Entry) (b : ℕ) → entry_of r.entry ≡ Ok e → e.block ≡ b → length (rows_of front b) < length (rows_of (front ++ row_item r ∷ middle) b)
counts_later front middle r e b h same =
    let split : length (rows_of (front ++ row_item r ∷ middle) b) ≡ length (rows_of front b ++ (r ∷ rows_of middle b)) = ap length (rows_of-append front (row_item r ∷ middle) b ∙ ap (λ l. rows_of front b ++ l) (rows_of_one r e middle b h same)) in
    omega (arith, split, length-append (rows_of front b) (r ∷ rows_of middle b))
