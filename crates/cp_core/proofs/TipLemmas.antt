-- The map of tips, row by row.
use Rattle.std.proofs.Common.{◌≡◌, ℕ, ◌<◌, ◌≤◌, Bool, true, false, cond, eqb, ltb, List, [], ◌∷◌, ◌++◌, map, Result, Ok, Less, Equal, Greater, refl, sym, ap, ◌∙◌, arith}
use Rattle.std.specs.Prelude.{get_or}
use Rattle.std.specs.Ordering.{nat_cmp, match_ordering}
use Rattle.std.specs.Cmp.{nat_cmp_is}
use Rattle.std.specs.BTreeMap.{insert_entry}
use Rattle.std.proofs.lemmas.Bool.{eqb-true, eqb-false, ltb-true, ltb-false, le-leb}
use Rattle.cp_tips.specs.declared.tip.Tip.{Tip as Held}
use Rattle.cp_tips.specs.Tips.{rows_of}
use Rattle.cp_core.specs.Life.{RowItem, cut, row_item, shard_of}
use Rattle.cp_core.specs.Sealing.{block_read, blocks_of, insert_block}
use Rattle.cp_core.specs.Tables.{HoldsTips, block_row, rows_up_to}
use Rattle.cp_core.specs.declared.item.Item.{Item}
use Rattle.cp_core.specs.declared.item.Item.TheVariants.{Row}
use Rattle.cp_statements.specs.Entry.{Entry, entry_of}
use Rattle.cp_tips.specs.Table.{TableRow}
use Rattle.cp_tips.specs.Tip.{Tip}
use Rattle.cp_tips.specs.View.{tip_view}

head_of_rows : (x y : TableRow) (xs ys : List TableRow) → x ∷ xs ≡ y ∷ ys → x ≡ y
head_of_rows x y xs ys e = cc

tail_of_rows : (x y : TableRow) (xs ys : List TableRow) → x ∷ xs ≡ y ∷ ys → xs ≡ ys
tail_of_rows x y xs ys e = cc

-- the map with one more tip has the rows of one more block
pub insert_row : (shards : List (List Item)) (n : ℕ) (es : List (ℕ × Held)) (bs : List ℕ) (b : ℕ) (t : Held) → tip_view t ≡ cut (get_or shards (shard_of b) []) b n → rows_of es ≡ map (block_row shards n) bs
    → rows_of (insert_entry nat_cmp es b t) ≡ map (block_row shards n) (insert_block b bs)
insert_row shards n [] [] b t tip e = ap (λ (u : Tip). (let r : TableRow = record { block = b; tip = u } in r) ∷ []) tip
insert_row shards n [] (c ∷ bs) b t tip e = absurd cc
insert_row shards n (x ∷ es) [] b t tip e = absurd cc
insert_row shards n (x ∷ es) (c ∷ bs) b t tip e = go (ltb b c) (eqb b c) refl refl (insert_row shards n es bs b t tip (tail_of_rows _ _ (rows_of es) (map (block_row shards n) bs) e))
  where
    first : (let r : TableRow = record { block = x.0; tip = tip_view x.1 } in r) ≡ block_row shards n c
    first = head_of_rows _ _ (rows_of es) (map (block_row shards n) bs) e

    rest : rows_of es ≡ map (block_row shards n) bs
    rest = tail_of_rows _ _ (rows_of es) (map (block_row shards n) bs) e

    block : x.0 ≡ c
    block = ap (λ (r : TableRow). r.block) first

    new : (let r : TableRow = record { block = b; tip = tip_view t } in r) ≡ block_row shards n b
    new = ap (λ (u : Tip). record { block = b; tip = u }) tip

    go : (u v : Bool) → ltb b c ≡ u → eqb b c ≡ v → rows_of (insert_entry nat_cmp es b t) ≡ map (block_row shards n) (insert_block b bs)
        → rows_of (match_ordering (nat_cmp b x.0) ((b, t) ∷ (x ∷ es)) ((x.0, t) ∷ es) (x ∷ insert_entry nat_cmp es b t)) ≡ map (block_row shards n) (cond u (b ∷ (c ∷ bs)) (cond v (c ∷ bs) (c ∷ insert_block b bs)))
    go true v p q more =
        let less : b < x.0 = omega (arith, ltb-true _ _ p, block) in
        let order : Less ≡ nat_cmp b x.0 = nat_cmp_is b x.0 Less less in
        rw (sym order) (ap (λ (r : TableRow). r ∷ rows_of (x ∷ es)) new ∙ ap (λ (l : List TableRow). block_row shards n b ∷ l) e)
    go false true p q more =
        let same : b ≡ x.0 = eqb-true _ _ q ∙ sym block in
        let order : Equal ≡ nat_cmp b x.0 = nat_cmp_is b x.0 Equal same in
        rw (sym order) (ap (λ (k : ℕ). (let r : TableRow = record { block = k; tip = tip_view t } in r) ∷ rows_of es) (sym same) ∙ ap (λ (r : TableRow). r ∷ rows_of es) new ∙ ap (λ (k : ℕ). block_row shards n k ∷ rows_of es) (eqb-true _ _ q) ∙ ap (λ (l : List TableRow). block_row shards n c ∷ l) rest)
    go false false p q more =
        let greater : x.0 < b = omega (arith, ltb-false _ _ p, eqb-false _ _ q, block) in
        let order : Greater ≡ nat_cmp b x.0 = nat_cmp_is b x.0 Greater greater in
        rw (sym order) (ap (λ (r : TableRow). r ∷ rows_of (insert_entry nat_cmp es b t)) first ∙ ap (λ (l : List TableRow). block_row shards n c ∷ l) more)

-- a row that is read, of an epoch up to n
pub holds_more : (shards : List (List Item)) (n : ℕ) (x : Item) (pass leaf pages : ℕ) (text given : List ℕ) (e : Entry) (t : Held) (rest : List RowItem) (old new : List (ℕ × Held)) → x ≡ Row pass leaf pages text → given ≡ text → entry_of given ≡ Ok e → e.epoch ≤ n
    → tip_view t ≡ cut (get_or shards (shard_of e.block) []) e.block n → new ≡ insert_entry nat_cmp old e.block t → HoldsTips shards n rest old → HoldsTips shards n (rows_up_to n (x ∷ []) ++ rest) new
holds_more shards n x pass leaf pages text given e t rest old new is same reads le tip made holds =
    let r : RowItem = record { pass = pass; leaf = leaf; pages = pages; entry = text } in
    let read : entry_of text ≡ Ok e = ap entry_of (sym same) ∙ reads in
    let rows : rows_up_to n (x ∷ []) ≡ r ∷ [] = ap (λ (y : Item). rows_up_to n (y ∷ [])) is ∙ counted_in r e n read le in
    ap rows_of made ∙ insert_row shards n old (blocks_of rest) e.block t tip holds
    ∙ ap (λ (y : Result Entry ℕ). map (block_row shards n) (block_read y (blocks_of rest))) (sym read)
    ∙ ap (λ (l : List RowItem). map (block_row shards n) (blocks_of (l ++ rest))) (sym rows)
  where
    counted_in : (r : RowItem) (e : Entry) (n : ℕ) → entry_of r.entry ≡ Ok e → e.epoch ≤ n → rows_up_to n (row_item r ∷ []) ≡ r ∷ []
    counted_in r e n h le = rw (h, le-leb e.epoch n le) refl
