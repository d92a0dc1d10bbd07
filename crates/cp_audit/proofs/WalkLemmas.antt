-- What a walk up a table finds.
use Rattle.std.proofs.Common.{◌≡◌, ℕ, zero, suc, ◌<◌, inl, inr, true, ltb, List, [], ◌∷◌, map, length, get_or, Option, Some, None, refl, sym, subst, ap, ◌∙◌, arith}
use Rattle.std.proofs.lemmas.Bool.{cases_lt, ltb-true, and_parts}
use Rattle.std.proofs.lemmas.List.{length-map, get_or-map}
use Rattle.cp_tips.specs.Tip.{Tip, fresh}
use Rattle.cp_tips.specs.Table.{TableRow, row_in, row, tip_or_fresh, all_above, ascends}
use Rattle.cp_tips.proofs.Searching.{row_at}
use Rattle.cp_evidence.specs.Material.{blocks_in}
use Rattle.cp_audit.specs.Walks.{AreBelow, IsPlace}
use Rattle.cp_audit.proofs.RegressLemmas.{Has, row_has}

-- ---- numbers of a list by place

pub has_place : (bs : List ℕ) (c : ℕ) → Has c bs → (i : ℕ) × (i < length bs) × (get_or bs i 0 ≡ c)
has_place [] c h = absurd h
has_place (b ∷ bs) c (inl e) = (0, omega arith, e)
has_place (b ∷ bs) c (inr h) = let w = has_place bs c h in (suc w.0, omega (arith, w.1), w.2)

has_at : (bs : List ℕ) (i : ℕ) → i < length bs → Has (get_or bs i 0) bs
has_at [] i lt = absurd (omega (arith, lt))
has_at (b ∷ bs) zero lt = inl refl
has_at (b ∷ bs) (suc i) lt = inr (has_at bs i (omega (arith, lt)))

-- ---- blocks of a table that ascends

above_has : (block : ℕ) (rows : List TableRow) (c : ℕ) → all_above block rows ≡ true → Has c (blocks_in rows) → block < c
above_has block [] c all h = absurd h
above_has block (r ∷ rs) c all (inl e) = let lt : block < r.block = ltb-true _ _ (and_parts (ltb block r.block) (all_above block rs) all).0 in omega (arith, lt, e)
above_has block (r ∷ rs) c all (inr h) = above_has block rs c (and_parts (ltb block r.block) (all_above block rs) all).1 h

-- a lesser block stands before
pub before_it : (rows : List TableRow) (i : ℕ) (c : ℕ) → ascends rows ≡ true → i < length (blocks_in rows) → Has c (blocks_in rows) → c < get_or (blocks_in rows) i 0 → (k : ℕ) × (k < i) × (get_or (blocks_in rows) k 0 ≡ c)
unfolding ascends
before_it [] i c up lt h less = absurd h
before_it (r ∷ rs) zero c up lt (inl e) less = absurd (omega (arith, e, less))
before_it (r ∷ rs) zero c up lt (inr h) less = let above = above_has r.block rs c (and_parts (all_above r.block rs) (ascends rs) up).0 h in absurd (omega (arith, above, less))
before_it (r ∷ rs) (suc i) c up lt (inl e) less = (0, omega arith, e)
before_it (r ∷ rs) (suc i) c up lt (inr h) less = let w = before_it rs i c (and_parts (all_above r.block rs) (ascends rs) up).1 (omega (arith, lt)) h less in (suc w.0, omega (arith, w.1), w.2)

-- the next block is greater
rises : (rows : List TableRow) (i : ℕ) → ascends rows ≡ true → suc i < length (blocks_in rows) → get_or (blocks_in rows) i 0 < get_or (blocks_in rows) (suc i) 0
unfolding ascends
rises [] i up lt = absurd (omega (arith, lt))
rises (r ∷ rs) zero up lt = above_has r.block rs (get_or (blocks_in rs) 0 0) (and_parts (all_above r.block rs) (ascends rs) up).0 (has_at (blocks_in rs) 0 (omega (arith, lt)))
rises (r ∷ rs) (suc i) up lt = rises rs i (and_parts (all_above r.block rs) (ascends rs) up).1 (omega (arith, lt))

-- what is below a block of the table is below the next one
pub below_next : (rows before : List TableRow) (i next place : ℕ) → next ≡ suc i → ascends rows ≡ true → AreBelow before (get_or (blocks_in rows) i 0) place → next < length (blocks_in rows) → AreBelow before (get_or (blocks_in rows) next 0) place
below_next rows before i next place is up below lt k less =
    let two : get_or (blocks_in rows) i 0 < get_or (blocks_in rows) next 0 = subst (λ (n : ℕ). get_or (blocks_in rows) i 0 < get_or (blocks_in rows) n 0) (sym is) (rises rows i up (omega (arith, lt, is))) in
    let one = below k less in
    omega (arith, one, two)

-- ---- the count at a place

no_row : TableRow
no_row = record { block = 0; tip = fresh 0 }

-- a row's count is its block's
pub count_there : (rows : List TableRow) (block place : ℕ) → ascends rows ≡ true → place < length rows → get_or (blocks_in rows) place 0 ≡ block → (row rows block).count ≡ get_or (map (λ r. r.tip.count) rows) place 0
count_there rows block place up lt is =
    let here : row_in rows (get_or rows place no_row).block ≡ Some (get_or rows place no_row).tip = row_at rows place no_row up lt in
    let blocks : get_or (blocks_in rows) place 0 ≡ (get_or rows place no_row).block = get_or-map (λ (r : TableRow). r.block) rows place no_row 0 lt in
    let counts : get_or (map (λ r. r.tip.count) rows) place 0 ≡ (get_or rows place no_row).tip.count = get_or-map (λ (r : TableRow). r.tip.count) rows place no_row 0 lt in
    ap (λ (b : ℕ). (row rows b).count) (sym is ∙ blocks) ∙ ap (λ (o : Option Tip). (tip_or_fresh (get_or rows place no_row).block o).count) here ∙ sym counts

-- a block that isn't at its place has no entry
pub count_absent : (rows : List TableRow) (block place : ℕ) → ascends rows ≡ true → IsPlace rows block place → (place < length rows → get_or (blocks_in rows) place 0 ≡ block → ⊥) → (row rows block).count ≡ 0
count_absent rows block place up at other = go (row_in rows block) refl
  where
    size : length (blocks_in rows) ≡ length rows
    size = length-map rows (λ r. r.block)

    nowhere : Has block (blocks_in rows) → ⊥
    nowhere has = elim (cases_lt place (length rows)) [
      | inl lt ↦ elim (cases_lt block (get_or (blocks_in rows) place 0)) [
        | inl less ↦
            let w = before_it rows place block up (omega (arith, lt, size)) has less in
            let low = at.below w.0 w.1 in
            let here = w.2 in
            omega (arith, low, here)
        | inr ge ↦ let le = at.stops lt in other lt (omega (arith, le, ge))
      ]
      | inr ge ↦
          let w = has_place (blocks_in rows) block has in
          let in_range = w.1 in
          let low = at.below w.0 (omega (arith, in_range, ge, size)) in
          let here = w.2 in
          omega (arith, low, here)
    ]

    go : (o : Option Tip) → row_in rows block ≡ o → (tip_or_fresh block o).count ≡ 0
    go None e = refl
    go (Some t) e = absurd (nowhere (row_has rows block t e))
