-- What a shard shows of an epoch that it has frozen stays as its life goes on.
use Rattle.std.proofs.Common.{◌≡◌, ℕ, ◌<◌, ◌≤◌, List, [], ◌∷◌, ◌++◌, map, Ok, refl, sym, ap, subst, ◌∙◌, inl, inr, append_assoc, arith}
use Rattle.std.specs.Prelude.{filter}
use Rattle.std.proofs.lemmas.Bool.{cases_eq, ne_eqb}
use Rattle.std.proofs.lemmas.List.{append-nil}
use Rattle.std.proofs.lemmas.List.Elements.{filter-append, filter_map-append}
use Rattle.cp_statements.specs.Entry.{Entry, entry_of}
use Rattle.cp_chain.specs.Each.{Each}
use Rattle.cp_core.specs.Life.{RowItem, row_item, as_row, rows_in, freezes, is_of_epoch, in_epoch, up_to, entries, cut, tip_after}
use Rattle.cp_core.specs.Frozen.{Gained, tip_from, blocks_in, frozen_block, frozen_part}
use Rattle.cp_core.specs.Honest.{IsItemOf, IsRowOf}
use Rattle.cp_core.specs.Laws.{FrozenStays}
use Rattle.cp_core.specs.Sealing.{blocks_of}
use Rattle.cp_core.specs.declared.item.Item.{Item}
use Rattle.cp_core.specs.declared.item.Item.TheVariants.{Frozen, Row}
use Rattle.cp_core.proofs.EpochLemmas.{up_to_later, up_to_other, up_to_freeze, up_to_stays, in_later, in_other, in_freeze}
use Rattle.cp_core.proofs.ListLemmas.{text_front}
use Rattle.cp_core.proofs.RowLemmas.{freezes-append, spells_reads}

map_same : {A B : Type 0} (f g : A → B) (xs : List A) → ((x : A) → f x ≡ g x) → map f xs ≡ map g xs
map_same f g [] h = refl
map_same {B = B} f g (x ∷ xs) h = ap (λ (y : B). y ∷ map f xs) (h x) ∙ ap (λ (ys : List B). g x ∷ ys) (map_same f g xs h)

-- ---- one shard's part, with one more item

block_same : (xs ys : List Item) (n b : ℕ) → up_to xs b n ≡ up_to ys b n → in_epoch xs b n ≡ in_epoch ys b n → frozen_block xs n b ≡ frozen_block ys n b
block_same xs ys n b tips texts =
    ap (λ (rows : List RowItem). record { block = b; after = tip_from (tip_after b (entries rows)); entries = entries (in_epoch xs b n) }) tips
    ∙ ap (λ (rows : List RowItem). record { block = b; after = tip_from (cut ys b n); entries = entries rows }) texts

part_same : (k n : ℕ) (xs ys : List Item) → filter (is_of_epoch n) (rows_in xs) ≡ filter (is_of_epoch n) (rows_in ys) → ((b : ℕ) → frozen_block xs n b ≡ frozen_block ys n b) → frozen_part k xs n ≡ frozen_part k ys n
part_same k n xs ys rows blocks =
    ap (λ (bs : List Gained). record { shard = k; epoch = n; blocks = bs })
    (ap (λ (rs : List RowItem). map (frozen_block xs n) (blocks_of rs)) rows ∙ map_same (frozen_block xs n) (frozen_block ys n) (blocks_in (rows_in ys) n) blocks)

other_epoch : (r : RowItem) (e : Entry) (n : ℕ) → entry_of r.entry ≡ Ok e → (e.epoch ≡ n → ⊥) → filter (is_of_epoch n) (r ∷ []) ≡ []
other_epoch r e n reads ne = rw (reads, ne_eqb e.epoch n ne) refl

pub part_row : (k : ℕ) (items : List Item) (r : RowItem) (e : Entry) (n : ℕ) → entry_of r.entry ≡ Ok e → n < e.epoch → frozen_part k (items ++ row_item r ∷ []) n ≡ frozen_part k items n
part_row k items r e n reads lt = part_same k n (items ++ row_item r ∷ []) items rows blocks
  where
    rows : filter (is_of_epoch n) (rows_in (items ++ row_item r ∷ [])) ≡ filter (is_of_epoch n) (rows_in items)
    rows =
        ap (filter (is_of_epoch n)) (filter_map-append as_row items (row_item r ∷ [])) ∙ filter-append (is_of_epoch n) (rows_in items) (r ∷ [])
        ∙ ap (λ (rs : List RowItem). filter (is_of_epoch n) (rows_in items) ++ rs) (other_epoch r e n reads (λ same. omega (arith, same, lt))) ∙ append-nil _

    blocks : (b : ℕ) → frozen_block (items ++ row_item r ∷ []) n b ≡ frozen_block items n b
    blocks b = elim (cases_eq e.block b) [
      | inl same ↦ block_same _ items n b (up_to_later items r e b n reads same lt) (in_later items r e b n reads same (λ h. omega (arith, h, lt)))
      | inr other ↦ block_same _ items n b (up_to_other items r e b n reads other) (in_other items r e b n reads other)
    ]

pub part_freeze : (k : ℕ) (items : List Item) (m : ℕ) (next : List ℕ) (n : ℕ) → frozen_part k (items ++ Frozen m next ∷ []) n ≡ frozen_part k items n
part_freeze k items m next n = part_same k n (items ++ Frozen m next ∷ []) items rows (λ b. block_same _ items n b (up_to_freeze items m next b n) (in_freeze items m next b n))
  where
    rows : filter (is_of_epoch n) (rows_in (items ++ Frozen m next ∷ [])) ≡ filter (is_of_epoch n) (rows_in items)
    rows = ap (filter (is_of_epoch n)) (filter_map-append as_row items (Frozen m next ∷ []) ∙ append-nil (rows_in items))

part_one : (k n : ℕ) (front : List Item) (x : Item) → IsItemOf k front x → n ≤ freezes front → frozen_part k (front ++ x ∷ []) n ≡ frozen_part k front n
part_one k n front (Row pass leaf pages entry) f le =
    let r : RowItem = record { pass = pass; leaf = leaf; pages = pages; entry = entry } in
    let row : IsRowOf k front r = f in
    part_row k front r row.entry n (spells_reads r.entry row.entry row.spells) (omega (arith, row.epoch, le))
part_one k n front (Frozen m next) f le = part_freeze k front m next n

-- with all items that come later: of an epoch that is frozen the part stays
pub part_stays : (k n : ℕ) (front back : List Item) → Each (IsItemOf k) (front ++ back) → n ≤ freezes front → frozen_part k (front ++ back) n ≡ frozen_part k front n
part_stays k n front [] each le = ap (λ (xs : List Item). frozen_part k xs n) (append-nil front)
part_stays k n front (x ∷ back) each le =
    let apart : (front ++ x ∷ []) ++ back ≡ front ++ x ∷ back = append_assoc front (x ∷ []) back in
    ap (λ (xs : List Item). frozen_part k xs n) (sym apart)
    ∙ part_stays k n (front ++ x ∷ []) back (subst (Each (IsItemOf k)) (sym apart) each) (omega (arith, le, freezes-append front (x ∷ [])))
    ∙ part_one k n front x (each front x back refl) le

-- ---- the law

pub frozen_stays : FrozenStays
frozen_stays k n first items rest each le = record {
  part = part_stays k n items rest each le;
  cuts = λ b. ap (λ (rows : List RowItem). tip_after b (entries rows)) (up_to_stays k items rest b n each le);
  list = text_front first items rest n (omega (arith, le));
}
