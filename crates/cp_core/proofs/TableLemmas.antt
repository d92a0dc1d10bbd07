-- The seal of an epoch is the one that an honest life has.
use Rattle.std.proofs.Common.{◌≡◌, ℕ, zero, suc, ◌<◌, ◌≤◌, Bool, true, false, cond, ◌||◌, eqb, ltb, List, [], ◌∷◌, ◌++◌, length, map, Some, None, Result, Ok, Err, refl, sym, ap, subst, ◌∙◌, arith}
use Rattle.std.specs.Prelude.{codes, flat_map}
use Rattle.std.specs.List.{AllByRecursion, list_any}
use Rattle.std.proofs.lemmas.List.{length-append}
use Rattle.std.proofs.lemmas.Bool.{ne_eqb, eqb-true, eqb-false, and_from, lt-ltb, ltb-true, ltb-false}
use Rattle.cp_bytes.proofs.FieldLemmas.{field_again, fields_again}
use Rattle.cp_bytes.specs.Fields.{field_at, fields_at, spell}
use Rattle.cp_bytes.specs.Fields.Field.{Tag}
use Rattle.cp_chain.specs.Legal.{ok_and}
use Rattle.cp_core.specs.Life.{RowItem, is_of_block}
use Rattle.cp_core.specs.Sealing.{block_read, blocks_of, insert_block}
use Rattle.cp_statements.specs.Entry.{Entry, entry_of}
use Rattle.cp_tips.specs.Table.{RowFits, TableFits, TableRow, all_above, ascends, row_fields, row_in, row_text, row_values, rows_at, table_of, table_text}
use Rattle.cp_tips.specs.Tip.{Tip}

-- ---- a table text is read again

row_length : (r : TableRow) (rest : List ℕ) → 1 ≤ length (row_text r ++ rest)
unfolding row_text spell
row_length r rest = omega arith

row_again : (r : TableRow) (rest : List ℕ) → RowFits r → fields_at row_fields (row_text r ++ rest) ≡ Ok (row_values r, rest)
unfolding row_text
row_again r rest fit = fields_again row_fields (row_values r) rest fit

rows_again : (n : ℕ) (rows : List TableRow) → length rows ≤ n → TableFits rows → rows_at n (flat_map row_text rows) ≡ Ok rows
unfolding rows_at
rows_again zero [] le fit = refl
rows_again zero (r ∷ rows) le fit = absurd (omega (arith, le))
rows_again (suc n) [] le fit = refl
rows_again (suc n) (r ∷ rows) le fit =
    let some : eqb (length (row_text r ++ flat_map row_text rows)) 0 ≡ false = ne_eqb _ _ (λ e. omega (arith, e, row_length r (flat_map row_text rows))) in
    rw (some, row_again r (flat_map row_text rows) fit.0, rows_again n rows (omega (arith, le)) fit.1) refl

enough : (rows : List TableRow) → length rows ≤ length (flat_map row_text rows)
enough [] = omega arith
enough (r ∷ rows) = omega (arith, enough rows, row_length r [], length-append (row_text r) [], length-append (row_text r) (flat_map row_text rows))

pub table_again : (rows : List TableRow) → TableFits rows → table_of (table_text rows) ≡ Ok rows
unfolding table_of table_text
table_again rows fit =
    let body : List ℕ = flat_map row_text rows in
    let tag : field_at (Tag (codes "CPt1")) (codes "CPt1" ++ body) ≡ Ok (tt, body) = field_again (Tag (codes "CPt1")) tt body tt in
    rw (tag, rows_again (length body) rows (enough rows) fit) refl

-- ---- blocks in order, each once

abbrev pub Above : ℕ → List ℕ → Type 0
Above b bs = AllByRecursion (λ c. b < c) bs

abbrev pub Rising : List ℕ → Type 0
Rising [] = Unit {0}
Rising (b ∷ bs) = Above b bs × Rising bs

above_trans : (a b : ℕ) (bs : List ℕ) → a < b → Above b bs → Above a bs
above_trans a b [] lt h = tt
above_trans a b (c ∷ bs) lt h = (omega (arith, lt, h.0), above_trans a b bs lt h.1)

above_insert : (a b : ℕ) (bs : List ℕ) → a < b → Above a bs → Above a (insert_block b bs)
above_insert a b [] lt h = (lt, tt)
above_insert a b (c ∷ bs) lt h = go (ltb b c) (eqb b c) (above_insert a b bs lt h.1)
  where
    go : (t u : Bool) → Above a (insert_block b bs) → Above a (cond t (b ∷ (c ∷ bs)) (cond u (c ∷ bs) (c ∷ insert_block b bs)))
    go true u rest = (lt, h)
    go false true rest = h
    go false false rest = (h.0, rest)

rising_insert : (b : ℕ) (bs : List ℕ) → Rising bs → Rising (insert_block b bs)
rising_insert b [] h = (tt, tt)
rising_insert b (c ∷ bs) h = go (ltb b c) (eqb b c) refl refl (rising_insert b bs h.1)
  where
    go : (t u : Bool) → ltb b c ≡ t → eqb b c ≡ u → Rising (insert_block b bs) → Rising (cond t (b ∷ (c ∷ bs)) (cond u (c ∷ bs) (c ∷ insert_block b bs)))
    go true u t v rest = let lt = ltb-true _ _ t in ((lt, above_trans b c bs lt h.0), h)
    go false true t v rest = h
    go false false t v rest = let le = ltb-false _ _ t in let ne = eqb-false _ _ v in (above_insert c b bs (omega (arith, le, ne)) h.0, rest)

abbrev pub member : ℕ → List ℕ → Bool
member b bs = list_any (λ c. eqb c b) bs

swap_or : (x y z : Bool) → (x || (y || z)) ≡ (y || (x || z))
swap_or true true z = refl
swap_or true false z = refl
swap_or false y z = refl

member_insert : (b c : ℕ) (bs : List ℕ) → member b (insert_block c bs) ≡ (eqb c b || member b bs)
member_insert b c [] = refl
member_insert b c (d ∷ bs) = go (ltb c d) (eqb c d) refl (member_insert b c bs)
  where
    twice : (x y : Bool) → (x || y) ≡ (x || (x || y))
    twice true y = refl
    twice false y = refl

    go : (t u : Bool) → eqb c d ≡ u → member b (insert_block c bs) ≡ (eqb c b || member b bs) → member b (cond t (c ∷ (d ∷ bs)) (cond u (d ∷ bs) (d ∷ insert_block c bs))) ≡ (eqb c b || (eqb d b || member b bs))
    go true u e rest = refl
    go false true e rest = let same : c ≡ d = eqb-true _ _ e in subst (λ (x : ℕ). (eqb d b || member b bs) ≡ (eqb x b || (eqb d b || member b bs))) (sym same) (twice (eqb d b) (member b bs))
    go false false e rest = ap (λ (x : Bool). eqb d b || x) rest ∙ swap_or (eqb d b) (eqb c b) (member b bs)

pub rising_blocks : (rs : List RowItem) → Rising (blocks_of rs)
rising_blocks [] = tt
rising_blocks (r ∷ rs) = go (entry_of r.entry) (rising_blocks rs)
  where
    go : (x : Result Entry ℕ) → Rising (blocks_of rs) → Rising (block_read x (blocks_of rs))
    go (Ok e) h = rising_insert e.block (blocks_of rs) h
    go (Err d) h = h

pub member_blocks : (b : ℕ) (rs : List RowItem) → member b (blocks_of rs) ≡ list_any (is_of_block b) rs
member_blocks b [] = refl
member_blocks b (r ∷ rs) = go (entry_of r.entry) (member_blocks b rs)
  where
    go : (x : Result Entry ℕ) → member b (blocks_of rs) ≡ list_any (is_of_block b) rs → member b (block_read x (blocks_of rs)) ≡ (ok_and x (λ e. eqb e.block b) || list_any (is_of_block b) rs)
    go (Ok e) h = member_insert b e.block (blocks_of rs) ∙ ap (λ (x : Bool). eqb e.block b || x) h
    go (Err d) h = h

pub few_blocks : (rs : List RowItem) → length (blocks_of rs) ≤ length rs
few_blocks [] = omega arith
few_blocks (r ∷ rs) = go (entry_of r.entry) (few_blocks rs)
  where
    longer : (b : ℕ) (bs : List ℕ) → length (insert_block b bs) ≤ suc (length bs)
    longer b [] = omega arith
    longer b (c ∷ bs) = pick (ltb b c) (eqb b c) (longer b bs)
      where
        pick : (t u : Bool) → length (insert_block b bs) ≤ suc (length bs) → length (cond t (b ∷ (c ∷ bs)) (cond u (c ∷ bs) (c ∷ insert_block b bs))) ≤ suc (suc (length bs))
        pick true u h = omega arith
        pick false true h = omega arith
        pick false false h = omega (arith, h)

    go : (x : Result Entry ℕ) → length (blocks_of rs) ≤ length rs → length (block_read x (blocks_of rs)) ≤ suc (length rs)
    go (Ok e) h = omega (arith, h, longer e.block (blocks_of rs))
    go (Err d) h = omega (arith, h)

-- ---- the rows of a table made of blocks

abbrev pub row_at : (ℕ → Tip) → ℕ → TableRow
row_at f b = record { block = b; tip = f b }

pub rises : (f : ℕ → Tip) (bs : List ℕ) → Rising bs → ascends (map (row_at f) bs) ≡ true
unfolding ascends
rises f [] h = refl
rises f (b ∷ bs) h = and_from _ _ (above bs h.0) (rises f bs h.1)
  where
    above : (cs : List ℕ) → Above b cs → all_above b (map (row_at f) cs) ≡ true
    above [] a = refl
    above (c ∷ cs) a = and_from (ltb b c) (all_above b (map (row_at f) cs)) (lt-ltb b c a.0) (above cs a.1)

pub found_row : (f : ℕ → Tip) (b : ℕ) (bs : List ℕ) → row_in (map (row_at f) bs) b ≡ cond (member b bs) (Some (f b)) None
found_row f b [] = refl
found_row f b (c ∷ bs) = go (eqb c b) refl (found_row f b bs)
  where
    go : (t : Bool) → eqb c b ≡ t → row_in (map (row_at f) bs) b ≡ cond (member b bs) (Some (f b)) None → cond t (Some (f c)) (row_in (map (row_at f) bs) b) ≡ cond (t || member b bs) (Some (f b)) None
    go true e h = ap (λ (x : ℕ). Some (f x)) (eqb-true _ _ e)
    go false e h = h
