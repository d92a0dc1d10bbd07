-- The rows of a life, shard by shard.
use Rattle.std.proofs.Common.{◌≡◌, ℕ, zero, suc, ◌<◌, Bool, true, false, cond, not, eqb, List, [], ◌∷◌, ◌++◌, length, flat_map, get_or, refl, sym, ap, ◌∙◌, arith}
use Rattle.std.specs.Prelude.{filter}
use Rattle.std.specs.List.{list_any}
use Rattle.std.proofs.lemmas.List.{append-nil, length-map}
use Rattle.std.proofs.lemmas.List.Elements.{filter-append}
use Rattle.std.proofs.lemmas.Bool.{ne_eqb}
use Rattle.cp_chain.specs.Each.{Each}
use Rattle.cp_chain.proofs.Each.{each_front, each_last, snoc}
use Rattle.cp_core.specs.Life.{RowItem, row_item, rows_in, rows_of, in_epoch, up_to, entries, cut, is_of_block, is_of_epoch, is_up_to_epoch, items_of, shard_of}
use Rattle.cp_core.specs.Honest.{Honest, IsItemOf, IsRowOf, StandsRightly}
use Rattle.cp_core.specs.Store.{Store}
use Rattle.cp_core.specs.Frozen.{blocks_in}
use Rattle.cp_core.specs.Sealing.{blocks_up_to}
use Rattle.cp_core.specs.declared.chronicle.Chronicle.{Chronicle}
use Rattle.cp_core.specs.declared.item.Item.{Item}
use Rattle.cp_core.specs.declared.item.Item.TheVariants.{Frozen, Row}
use Rattle.cp_core.proofs.EpochLemmas.{row_other, freeze_rows, count_after}
use Rattle.cp_core.proofs.RowLemmas.{spells_reads}
use Rattle.cp_core.proofs.TableLemmas.{member, member_blocks}

none_at_first : (b : ℕ) → rows_of [] b ≡ []
unfolding rows_of
none_at_first b = refl

-- a shard has no rows of another shard's block
pub none_elsewhere : (k : ℕ) (items : List Item) (b : ℕ) → Each (IsItemOf k) items → (shard_of b ≡ k → ⊥) → rows_of items b ≡ []
none_elsewhere k items b each ne = snoc (λ xs. Each (IsItemOf k) xs → rows_of xs b ≡ []) (λ each. none_at_first b) step items each
  where
    step : (xs : List Item) (x : Item) → (Each (IsItemOf k) xs → rows_of xs b ≡ []) → Each (IsItemOf k) (xs ++ x ∷ []) → rows_of (xs ++ x ∷ []) b ≡ []
    step xs (Row pass leaf pages entry) so_far each =
        let r : RowItem = record { pass = pass; leaf = leaf; pages = pages; entry = entry } in
        let f : IsRowOf k xs r = each_last (IsItemOf k) xs (row_item r) each in
        row_other xs r f.entry b (spells_reads r.entry f.entry f.spells) (λ same. ne (ap shard_of (sym same) ∙ f.shard)) ∙ so_far (each_front (IsItemOf k) xs (row_item r ∷ []) each)
    step xs (Frozen m next) so_far each = freeze_rows xs m next b ∙ so_far (each_front (IsItemOf k) xs (Frozen m next ∷ []) each)

only_one : (p : RowItem → Bool) (shards : List (List Item)) (j : ℕ) → ((k : ℕ) → k < length shards → (j ≡ k → ⊥) → filter p (rows_in (get_or shards k [])) ≡ []) → filter p (flat_map rows_in shards) ≡ filter p (rows_in (get_or shards j []))
only_one p [] j h = refl
only_one p (xs ∷ shards) zero h = filter-append p (rows_in xs) (flat_map rows_in shards) ∙ ap (λ l. filter p (rows_in xs) ++ l) (none p shards (λ k lt. h (suc k) (omega (arith, lt)) (omega arith))) ∙ append-nil _
  where
    none : (p : RowItem → Bool) (shards : List (List Item)) → ((k : ℕ) → k < length shards → filter p (rows_in (get_or shards k [])) ≡ []) → filter p (flat_map rows_in shards) ≡ []
    none p [] h = refl
    none p (xs ∷ shards) h = filter-append p (rows_in xs) (flat_map rows_in shards) ∙ rw (h 0 (omega arith), none p shards (λ k lt. h (suc k) (omega (arith, lt)))) refl
only_one p (xs ∷ shards) (suc j) h =
    filter-append p (rows_in xs) (flat_map rows_in shards) ∙ ap (λ l. l ++ filter p (flat_map rows_in shards)) (h 0 (omega arith) (omega arith))
    ∙ only_one p shards j (λ k lt ne. h (suc k) (omega (arith, lt)) (λ e. ne (omega (arith, e))))

any_left : (p q : RowItem → Bool) (rs : List RowItem) → list_any p (filter q rs) ≡ not (eqb (length (filter q (filter p rs))) 0)
any_left p q [] = refl
any_left p q (r ∷ rs) = go (p r) (q r) refl refl (any_left p q rs)
  where
    go : (t u : Bool) → p r ≡ t → q r ≡ u → list_any p (filter q rs) ≡ not (eqb (length (filter q (filter p rs))) 0)
        → list_any p (cond u (r ∷ filter q rs) (filter q rs)) ≡ not (eqb (length (filter q (cond t (r ∷ filter p rs) (filter p rs)))) 0)
    go true true e f h = rw (e, f, ne_eqb (suc (length (filter q (filter p rs)))) 0 (omega arith)) refl
    go true false e f h = rw f h
    go false true e f h = rw e h
    go false false e f h = h

-- the items of an honest life stand rightly
pub rightly : (s : Store) (r : Chronicle) → Honest s r → StandsRightly r
rightly s r h = record { sixteen = h.sixteen; each = λ k lt. (h.shards k lt).each }

rows_everywhere : (r : Chronicle) → StandsRightly r → (b : ℕ) → filter (is_of_block b) (flat_map rows_in r.shards) ≡ rows_of (items_of r b) b
unfolding rows_of
rows_everywhere r h b = only_one (is_of_block b) r.shards (shard_of b) (λ k lt ne. none_elsewhere k (get_or r.shards k []) b (h.each k (omega (arith, lt, h.sixteen))) ne)

-- a block is among those of an epoch just where it has an entry in it
pub member_in : (rows : List RowItem) (b n : ℕ) → member b (blocks_in rows n) ≡ not (eqb (length (filter (is_of_epoch n) (filter (is_of_block b) rows))) 0)
member_in rows b n = member_blocks b (filter (is_of_epoch n) rows) ∙ any_left (is_of_block b) (is_of_epoch n) rows

pub member_now : (items : List Item) (b n : ℕ) → member b (blocks_in (rows_in items) n) ≡ not (eqb (length (in_epoch items b n)) 0)
unfolding in_epoch rows_of
member_now items b n = member_in (rows_in items) b n

pub member_nowhere : (k : ℕ) (items : List Item) (b n : ℕ) → Each (IsItemOf k) items → (shard_of b ≡ k → ⊥) → member b (blocks_in (rows_in items) n) ≡ false
unfolding in_epoch
member_nowhere k items b n each ne = member_now items b n ∙ ap (λ (rs : List RowItem). not (eqb (length (filter (is_of_epoch n) rs)) 0)) (none_elsewhere k items b each ne)

pub member_everywhere : (r : Chronicle) → StandsRightly r → (b n : ℕ) → member b (blocks_in (flat_map rows_in r.shards) n) ≡ not (eqb (length (in_epoch (items_of r b) b n)) 0)
unfolding in_epoch
member_everywhere r h b n = member_in (flat_map rows_in r.shards) b n ∙ ap (λ (rs : List RowItem). not (eqb (length (filter (is_of_epoch n) rs)) 0)) (rows_everywhere r h b)

count_everywhere : (r : Chronicle) → StandsRightly r → (b n : ℕ) → (cut (items_of r b) b n).count ≡ length (filter (is_up_to_epoch n) (filter (is_of_block b) (flat_map rows_in r.shards)))
unfolding up_to
count_everywhere r h b n = count_after b (entries (up_to (items_of r b) b n)) ∙ length-map (up_to (items_of r b) b n) (λ (x : RowItem). x.entry) ∙ ap (λ (l : List RowItem). length (filter (is_up_to_epoch n) l)) (sym (rows_everywhere r h b))

-- a block has a row in the table of an epoch just where its tip counts then
pub member_so_far : (r : Chronicle) → StandsRightly r → (b n : ℕ) → member b (blocks_up_to r n) ≡ not (eqb (cut (items_of r b) b n).count 0)
member_so_far r h b n =
    member_blocks b (filter (is_up_to_epoch n) (flat_map rows_in r.shards)) ∙ any_left (is_of_block b) (is_up_to_epoch n) (flat_map rows_in r.shards)
    ∙ ap (λ (m : ℕ). not (eqb m 0)) (sym (count_everywhere r h b n))
