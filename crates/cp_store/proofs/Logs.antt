-- The log of an epoch, piece by piece.
use Rattle.std.proofs.Common.{◌≡◌, ℕ, ◌^◌, ◌<◌, ◌≤◌, Bool, true, false, cond, eqb, ltb, List, [], ◌∷◌, ◌++◌, length, map, flat_map, get_or, Result, Ok, Less, Equal, Greater, refl, sym, ap, ◌∙◌, arith}
use Rattle.std.specs.Prelude.{filter}
use Rattle.std.specs.Ordering.{nat_cmp, match_ordering}
use Rattle.std.specs.Cmp.{nat_cmp_is}
use Rattle.std.specs.BTreeSet.{insert_key}
use Rattle.std.proofs.lemmas.Bool.{eqb-true, eqb-false, ltb-true, ltb-false, eq-eqb}
use Rattle.std.proofs.lemmas.List.{length-map}
use Rattle.cp_bytes.specs.Fields.{part}
use Rattle.cp_chain.specs.Log.{log_text, log_part_text}
use Rattle.cp_statements.specs.Entry.{Entry, entry_of}
use Rattle.cp_core.proofs.SealLemmas.{fewer}
use Rattle.cp_core.proofs.TableLemmas.{few_blocks}
use Rattle.cp_core.specs.Life.{RowItem, rows_in, is_of_epoch, row_item}
use Rattle.cp_core.specs.Sealing.{block_read, blocks_of, insert_block}
use Rattle.cp_core.specs.Frozen.{blocks_in}
use Rattle.cp_core.specs.declared.item.Item.{Item}
use Rattle.cp_core.specs.declared.item.Item.TheVariants.{Row}
use Rattle.cp_closer.specs.Writing.{IsLogStart, IsSegmentStart}
use Rattle.cp_store.specs.Logs.{rows_at, texts_at, part_at}
use Rattle.cp_store.proofs.Rows.{few_rows}

-- ---- blocks in order

insert_key_is : (b : ℕ) (ks : List ℕ) → insert_key nat_cmp ks b ≡ insert_block b ks
insert_key_is b [] = refl
insert_key_is b (c ∷ cs) = go (ltb b c) (eqb b c) refl refl (insert_key_is b cs)
  where
    go : (u v : Bool) → ltb b c ≡ u → eqb b c ≡ v → insert_key nat_cmp cs b ≡ insert_block b cs → match_ordering (nat_cmp b c) (b ∷ (c ∷ cs)) (c ∷ cs) (c ∷ insert_key nat_cmp cs b) ≡ cond u (b ∷ (c ∷ cs)) (cond v (c ∷ cs) (c ∷ insert_block b cs))
    go true v p q more = let order : Less ≡ nat_cmp b c = nat_cmp_is b c Less (ltb-true _ _ p) in rw (sym order) refl
    go false true p q more = let order : Equal ≡ nat_cmp b c = nat_cmp_is b c Equal (eqb-true _ _ q) in rw (sym order) refl
    go false false p q more =
        let greater : c < b = omega (arith, ltb-false _ _ p, eqb-false _ _ q) in
        let order : Greater ≡ nat_cmp b c = nat_cmp_is b c Greater greater in
        rw (sym order) (ap (λ (l : List ℕ). c ∷ l) more)

row_of_epoch : (r : RowItem) (e : Entry) (n : ℕ) → entry_of r.entry ≡ Ok e → e.epoch ≡ n → rows_at n (row_item r ∷ []) ≡ r ∷ []
row_of_epoch r e n h same = rw (h, eq-eqb e.epoch n same) refl

pub block_more : (n : ℕ) (x : Item) (pass leaf pages : ℕ) (text given : List ℕ) (e : Entry) (rest : List RowItem) (old new : List ℕ) → x ≡ Row pass leaf pages text → given ≡ text → entry_of given ≡ Ok e → e.epoch ≡ n
    → new ≡ insert_key nat_cmp old e.block → old ≡ blocks_of rest → new ≡ blocks_of (rows_at n (x ∷ []) ++ rest)
block_more n x pass leaf pages text given e rest old new is same reads epoch made holds =
    let r : RowItem = record { pass = pass; leaf = leaf; pages = pages; entry = text } in
    let read : entry_of text ≡ Ok e = ap entry_of (sym same) ∙ reads in
    let rows : rows_at n (x ∷ []) ≡ r ∷ [] = ap (λ (y : Item). rows_at n (y ∷ [])) is ∙ row_of_epoch r e n read epoch in
    made ∙ ap (λ (ks : List ℕ). insert_key nat_cmp ks e.block) holds ∙ insert_key_is e.block (blocks_of rest)
    ∙ ap (λ (y : Result Entry ℕ). block_read y (blocks_of rest)) (sym read)
    ∙ ap (λ (l : List RowItem). blocks_of (l ++ rest)) (sym rows)

pub few_in_log : (shards : List (List Item)) (n : ℕ) → length shards ≡ 16 → ((k : ℕ) → k < 16 → length (rows_in (get_or shards k [])) ≤ 2 ^ 27) → length (blocks_in (flat_map rows_in shards) n) < 2 ^ 32
few_in_log shards n sixteen few =
    omega (arith, few_blocks (filter (is_of_epoch n) (flat_map rows_in shards)), fewer (is_of_epoch n) (flat_map rows_in shards), few_rows (2 ^ 27) shards (λ k lt. few k (omega (arith, lt, sixteen))), sixteen)

-- ---- the text

pub segment_spelled : (items : List Item) (block n count : ℕ) (old start now : List ℕ) → count ≡ length (texts_at items block n) → IsSegmentStart block count old start → now ≡ start ++ flat_map part (texts_at items block n)
    → now ≡ old ++ log_part_text (record { block = block; texts = texts_at items block n })
segment_spelled items block n count old start now many starts all = all ∙ sym (starts (texts_at items block n) (sym many))

pub log_spelled : (shards : List (List Item)) (n : ℕ) (blocks : List ℕ) (count : ℕ) (start now : List ℕ) → count ≡ length blocks → IsLogStart n count start
    → now ≡ start ++ flat_map log_part_text (map (part_at shards n) blocks) → blocks ≡ blocks_in (flat_map rows_in shards) n
    → now ≡ log_text (record { epoch = n; parts = map (part_at shards n) (blocks_in (flat_map rows_in shards) n) })
log_spelled shards n blocks count start now many starts all same =
    all ∙ sym (starts (map (part_at shards n) blocks) (length-map blocks (part_at shards n) ∙ sym many))
    ∙ ap (λ (bs : List ℕ). log_text (record { epoch = n; parts = map (part_at shards n) bs })) same
