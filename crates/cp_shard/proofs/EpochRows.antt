-- What is gathered of the rows of an epoch is what the items have of each block.
use Rattle.std.proofs.Common.{◌≡◌, ℕ, ◌+◌, ◌-◌, ◌<◌, ◌≤◌, Bool, true, false, cond, eqb, ◌||◌, List, [], ◌∷◌, ◌++◌, map, Some, None, Ok, inl, inr, refl, sym, ap, subst, ◌∙◌, append_assoc, arith}
use Rattle.std.specs.Prelude.{filter}
use Rattle.std.specs.List.{list_any}
use Rattle.std.specs.BTreeMap.{BTreeMap, IsOrdered, values}
use Rattle.std.specs.Ordering.{nat_cmp}
use Rattle.std.proofs.lemmas.List.{append-nil, map-append}
use Rattle.std.proofs.lemmas.List.Elements.{filter-append}
use Rattle.std.proofs.lemmas.List.Folds.{list_any-append}
use Rattle.std.proofs.lemmas.Bool.{cases_eq, eq-eqb, ne_eqb, false≢true}
use Rattle.std.proofs.Math.Bool.{or-false}
use Rattle.cp_statements.specs.Entry.{Entry, entry_of}
use Rattle.cp_chain.specs.Each.{Each}
use Rattle.cp_chain.proofs.Each.{each_front, each_last, snoc}
use Rattle.cp_core.specs.Life.{RowItem, row_item, rows_in, rows_of, in_epoch, up_to, cut, entries, freezes, tip_after, is_of_block, is_of_epoch}
use Rattle.cp_core.specs.Calls.{epoch_now}
use Rattle.cp_core.specs.Frozen.{Gained, gained_view, tip_from, frozen_block, blocks_in}
use Rattle.cp_core.specs.Honest.{IsItemOf, IsRowOf}
use Rattle.cp_core.specs.Sealing.{blocks_of}
use Rattle.cp_core.specs.declared.item.Item.{Item}
use Rattle.cp_core.specs.declared.item.Item.TheVariants.{Row, Frozen}
use Rattle.cp_core.specs.declared.frozen_block.FrozenBlock.{FrozenBlock}
use Rattle.cp_core.proofs.RowLemmas.{spells_reads, freezes-append}
use Rattle.cp_core.proofs.EpochLemmas.{ordered, freezes_row, freezes_more, up_to_other, up_to_freeze, up_to_stays, in_push, in_other}
use Rattle.cp_core.proofs.TableLemmas.{rising_blocks, member_blocks}
use Rattle.cp_shard.specs.declared.row_tip.RowTip.{RowTip}
use Rattle.cp_shard.specs.Kept.{tip_of}
use Rattle.cp_shard.specs.Gathered.{block_in, row_tip, held_at, with_text, gained_at, Gathers, IsNextRow}
use Rattle.cp_shard.proofs.Ascending.{values_are}
use Rattle.cp_shard.proofs.Holding.{rows_row, rows_frozen}

-- ---- the rows of an epoch

abbrev pub epoch_rows : List Item → ℕ → List RowItem
epoch_rows items n = filter (is_of_epoch n) (rows_in items)

of_now : (r : RowItem) (e : Entry) (n : ℕ) → entry_of r.entry ≡ Ok e → e.epoch ≡ n → filter (is_of_epoch n) (r ∷ []) ≡ r ∷ []
of_now r e n reads same = rw (reads, eq-eqb e.epoch n same) refl

of_other : (r : RowItem) (e : Entry) (n : ℕ) → entry_of r.entry ≡ Ok e → (e.epoch ≡ n → ⊥) → filter (is_of_epoch n) (r ∷ []) ≡ []
of_other r e n reads other = rw (reads, ne_eqb e.epoch n other) refl

rows_push : (items : List Item) (r : RowItem) (e : Entry) (n : ℕ) → entry_of r.entry ≡ Ok e → e.epoch ≡ n → epoch_rows (items ++ row_item r ∷ []) n ≡ epoch_rows items n ++ r ∷ []
rows_push items r e n reads same = ap (filter (is_of_epoch n)) (rows_row items r) ∙ filter-append (is_of_epoch n) (rows_in items) (r ∷ []) ∙ ap (λ l. epoch_rows items n ++ l) (of_now r e n reads same)

rows_later : (items : List Item) (r : RowItem) (e : Entry) (n : ℕ) → entry_of r.entry ≡ Ok e → (e.epoch ≡ n → ⊥) → epoch_rows (items ++ row_item r ∷ []) n ≡ epoch_rows items n
rows_later items r e n reads other = ap (filter (is_of_epoch n)) (rows_row items r) ∙ filter-append (is_of_epoch n) (rows_in items) (r ∷ []) ∙ ap (λ l. epoch_rows items n ++ l) (of_other r e n reads other) ∙ append-nil _

rows_freeze : (items : List Item) (m : ℕ) (next : List ℕ) (n : ℕ) → epoch_rows (items ++ Frozen m next ∷ []) n ≡ epoch_rows items n
rows_freeze items m next n = ap (filter (is_of_epoch n)) (rows_frozen items m next)

-- two filters come in either order
swapped : (p q : RowItem → Bool) (rs : List RowItem) → filter q (filter p rs) ≡ filter p (filter q rs)
swapped p q [] = refl
swapped p q (r ∷ rs) = go (p r) (q r) refl refl (swapped p q rs)
  where
    go : (t u : Bool) → p r ≡ t → q r ≡ u → filter q (filter p rs) ≡ filter p (filter q rs) → filter q (cond t (r ∷ filter p rs) (filter p rs)) ≡ filter p (cond u (r ∷ filter q rs) (filter q rs))
    go true true e f h = rw (e, f) (ap (λ l. r ∷ l) h)
    go true false e f h = rw f h
    go false true e f h = rw e h
    go false false e f h = h

in_rows : (items : List Item) (b n : ℕ) → in_epoch items b n ≡ filter (is_of_block b) (epoch_rows items n)
unfolding in_epoch rows_of
in_rows items b n = swapped (is_of_block b) (is_of_epoch n) (rows_in items)

none_passes : (p : RowItem → Bool) (rs : List RowItem) → list_any p rs ≡ false → filter p rs ≡ []
none_passes p [] none = refl
none_passes p (r ∷ rs) none = go (p r) none (λ h. none_passes p rs h)
  where
    go : (t : Bool) → (t || list_any p rs) ≡ false → (list_any p rs ≡ false → filter p rs ≡ []) → cond t (r ∷ filter p rs) (filter p rs) ≡ []
    go true h rest = absurd (false≢true (sym h))
    go false h rest = rest h

abbrev pub has_rows : List Item → ℕ → ℕ → Bool
has_rows items n b = list_any (is_of_block b) (epoch_rows items n)

in_none : (items : List Item) (b n : ℕ) → has_rows items n b ≡ false → in_epoch items b n ≡ []
in_none items b n none = in_rows items b n ∙ none_passes (is_of_block b) (epoch_rows items n) none

-- ---- one more row

is_block : (r : RowItem) (e : Entry) (b : ℕ) → entry_of r.entry ≡ Ok e → is_of_block b r ≡ eqb e.block b
is_block r e b reads = rw reads refl

has_push : (items : List Item) (r : RowItem) (e : Entry) (n b : ℕ) → entry_of r.entry ≡ Ok e → e.epoch ≡ n → has_rows (items ++ row_item r ∷ []) n b ≡ (has_rows items n b || eqb e.block b)
has_push items r e n b reads same =
    ap (list_any (is_of_block b)) (rows_push items r e n reads same) ∙ list_any-append (is_of_block b) (epoch_rows items n) (r ∷ [])
    ∙ ap (λ t. has_rows items n b || t) (or-false (is_of_block b r) ∙ is_block r e b reads)

or_true : (t : Bool) → (t || true) ≡ true
or_true true = refl
or_true false = refl

-- the tip at the end of the epoch that is now is that after all rows
cut_now : (k : ℕ) (items : List Item) (b n : ℕ) → Each (IsItemOf k) items → n ≡ epoch_now items → cut items b n ≡ tip_of items b
cut_now k items b n each now = ap (λ rs. tip_after b (entries rs)) ((ordered k items b each).all n (omega (arith, now)))

module _ (k n : ℕ) (front : List Item) (r : RowItem) (t : RowTip) (h : IsNextRow k n front (row_item r) t) where
  is_row : IsRowOf k front r
  is_row = each_last (IsItemOf k) front (row_item r) h.each

  e : Entry
  e = is_row.entry

  reads : entry_of r.entry ≡ Ok is_row.entry
  reads = spells_reads r.entry is_row.entry is_row.spells

  epoch : is_row.entry.epoch ≡ n
  epoch = is_row.epoch ∙ sym h.now

  kept : t ≡ row_tip front r
  kept = let is : row_tip front r ∷ [] ≡ t ∷ [] = h.kept in cc

  block : t.block ≡ is_row.entry.block
  block = ap (λ (t : RowTip). t.block) kept ∙ ap block_in reads

  after : t.tip ≡ tip_from (tip_of (front ++ row_item r ∷ []) is_row.entry.block)
  after = ap (λ (t : RowTip). t.tip) kept ∙ ap (λ o. tip_from (tip_of (front ++ row_item r ∷ []) (block_in o))) reads

  now : n ≡ epoch_now (front ++ row_item r ∷ [])
  now = omega (arith, h.now, freezes_row front r)

  -- the block's entries with the row's
  with_row : (b : ℕ) → is_row.entry.block ≡ b → with_text (gained_at front n b) t r.entry ≡ frozen_block (front ++ row_item r ∷ []) n b
  with_row b same =
      let tip : t.tip ≡ tip_from (cut (front ++ row_item r ∷ []) b n) =
      after ∙ ap (λ c. tip_from (tip_of (front ++ row_item r ∷ []) c)) same ∙ ap tip_from (sym (cut_now k (front ++ row_item r ∷ []) b n h.each now)) in
      let texts : entries (in_epoch front b n) ++ r.entry ∷ [] ≡ entries (in_epoch (front ++ row_item r ∷ []) b n) =
      sym (ap entries (in_push front r is_row.entry b n reads same epoch) ∙ map-append (λ (x : RowItem). x.entry) (in_epoch front b n) (r ∷ [])) in
      go (has_rows front n b) refl
      ∙ ap (λ x. (let g : Gained = record { block = b; after = x; entries = entries (in_epoch front b n) ++ r.entry ∷ [] } in g)) tip
      ∙ ap (λ l. (let g : Gained = record { block = b; after = tip_from (cut (front ++ row_item r ∷ []) b n); entries = l } in g)) texts
    where
      go : (u : Bool) → has_rows front n b ≡ u → with_text (cond u (Some (frozen_block front n b)) None) t r.entry ≡ record { block = b; after = t.tip; entries = entries (in_epoch front b n) ++ r.entry ∷ [] }
      go true is = refl
      go false is =
          ap (λ c. (let g : Gained = record { block = c; after = t.tip; entries = r.entry ∷ [] } in g)) (block ∙ same)
          ∙ ap (λ l. (let g : Gained = record { block = b; after = t.tip; entries = entries l ++ r.entry ∷ [] } in g)) (sym (in_none front b n is))

  other_block : (b : ℕ) → (is_row.entry.block ≡ b → ⊥) → frozen_block front n b ≡ frozen_block (front ++ row_item r ∷ []) n b
  other_block b other =
      ap (λ rs. (let g : Gained = record { block = b; after = tip_from (tip_after b (entries rs)); entries = entries (in_epoch front b n) } in g)) (sym (up_to_other front r is_row.entry b n reads other))
      ∙ ap (λ rs. (let g : Gained = record { block = b; after = tip_from (cut (front ++ row_item r ∷ []) b n); entries = entries rs } in g)) (sym (in_other front r is_row.entry b n reads other))

  gained_row : (b : ℕ) → gained_at (front ++ row_item r ∷ []) n b ≡ cond (eqb t.block b) (Some (with_text (gained_at front n b) t r.entry)) (gained_at front n b)
  gained_row b =
      ap (λ u. cond u (Some (frozen_block (front ++ row_item r ∷ []) n b)) None) (has_push front r is_row.entry n b reads epoch)
      ∙ elim (cases_eq is_row.entry.block b) [
        | inl same ↦
            ap (λ u. cond (has_rows front n b || u) (Some (frozen_block (front ++ row_item r ∷ []) n b)) None) (eq-eqb is_row.entry.block b same)
            ∙ ap (λ u. cond u (Some (frozen_block (front ++ row_item r ∷ []) n b)) None) (or_true (has_rows front n b))
            ∙ ap (λ x. Some x) (sym (with_row b same))
            ∙ ap (λ u. cond u (Some (with_text (gained_at front n b) t r.entry)) (gained_at front n b)) (sym (eq-eqb t.block b (block ∙ same)))
        | inr other ↦
            ap (λ u. cond (has_rows front n b || u) (Some (frozen_block (front ++ row_item r ∷ []) n b)) None) (ne_eqb is_row.entry.block b other)
            ∙ ap (λ u. cond u (Some (frozen_block (front ++ row_item r ∷ []) n b)) None) (or-false (has_rows front n b))
            ∙ ap (λ x. cond (has_rows front n b) (Some x) None) (sym (other_block b other))
            ∙ ap (λ u. cond u (Some (with_text (gained_at front n b) t r.entry)) (gained_at front n b)) (sym (ne_eqb t.block b (λ q. other (sym block ∙ q))))
      ]

  pub gathers_row : (old new : BTreeMap ℕ FrozenBlock) → ((b : ℕ) → held_at new b ≡ cond (eqb t.block b) (Some (with_text (held_at old b) t r.entry)) (held_at old b)) → Gathers front n old → Gathers (front ++ row_item r ∷ []) n new
  gathers_row old new changed holds b =
      changed b ∙ ap (λ x. cond (eqb t.block b) (Some (with_text x t r.entry)) x) (holds b) ∙ sym (gained_row b)

-- ---- all rows

pub listed_blocks : (items : List Item) (n : ℕ) (blocks : BTreeMap ℕ FrozenBlock) → IsOrdered nat_cmp blocks → Gathers items n blocks → map gained_view (values blocks) ≡ map (frozen_block items n) (blocks_in (rows_in items) n)
listed_blocks items n blocks up holds =
    values_are gained_view (frozen_block items n) blocks.entries (blocks_in (rows_in items) n) up (rising_blocks (epoch_rows items n))
    (λ b. holds b ∙ ap (λ t. cond t (Some (frozen_block items n b)) None) (sym (member_blocks b (epoch_rows items n))))

-- ---- what comes behind an epoch

-- nothing is of the epoch that a freeze has just begun
pub none_gained : (k n : ℕ) (items : List Item) (m : ℕ) (list : List ℕ) (b : ℕ) → Each (IsItemOf k) items → n ≡ freezes items + 2 → gained_at (items ++ Frozen m list ∷ []) n b ≡ None
none_gained k n items m list b each next =
    ap (λ rs. cond (list_any (is_of_block b) rs) (Some (frozen_block (items ++ Frozen m list ∷ []) n b)) None) (rows_freeze items m list n ∙ none_yet items each next)
  where
    none_yet : (xs : List Item) → Each (IsItemOf k) xs → n ≡ freezes xs + 2 → epoch_rows xs n ≡ []
    none_yet xs each next = snoc (λ xs. Each (IsItemOf k) xs → freezes xs + 1 < n → epoch_rows xs n ≡ []) (λ each lt. refl) step xs each (omega (arith, next))
      where
        step : (xs : List Item) (x : Item) → (Each (IsItemOf k) xs → freezes xs + 1 < n → epoch_rows xs n ≡ []) → Each (IsItemOf k) (xs ++ x ∷ []) → freezes (xs ++ x ∷ []) + 1 < n → epoch_rows (xs ++ x ∷ []) n ≡ []
        step xs (Row pass leaf pages entry) so_far each lt =
            let r : RowItem = record { pass = pass; leaf = leaf; pages = pages; entry = entry } in
            let f : IsRowOf k xs r = each_last (IsItemOf k) xs (row_item r) each in
            rows_later xs r f.entry n (spells_reads r.entry f.entry f.spells) (λ same. omega (arith, same, f.epoch, lt, freezes_row xs r))
            ∙ so_far (each_front (IsItemOf k) xs (row_item r ∷ []) each) (omega (arith, lt, freezes_row xs r))
        step xs (Frozen j list) so_far each lt = rows_freeze xs j list n ∙ so_far (each_front (IsItemOf k) xs (Frozen j list ∷ []) each) (omega (arith, lt, freezes_more xs j list))
