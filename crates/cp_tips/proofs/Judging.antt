-- A table judged row by row.
use Rattle.std.proofs.Common.{◌≡◌, ℕ, ◌+◌, ◌-◌, ◌<◌, ◌≤◌, Bool, true, false, eqb, leb, ltb, ◌&&◌, ◌⊎◌, inl, inr, List, [], ◌∷◌, length, get_or, drop, Option, Some, None, refl, sym, ap, ap₂, subst, ◌∙◌, arith}
use Rattle.std.specs.Prelude.{sum_by, map}
use Rattle.std.specs.Bool.{OnTrue}
use Rattle.std.specs.List.{list_all}
use Rattle.std.proofs.lemmas.Bool.{and_parts, le-leb}
use Rattle.std.proofs.lemmas.Bool.Decides.{nat_tests}
use Rattle.std.proofs.lemmas.List.Sums.{sum_by-cons}
use Rattle.std.proofs.lemmas.List.{length-map, at_drop_more, at_drop_all}
use Rattle.cp_tips.specs.Table.{TableRow, all_above, ascends, well_formed}
use Rattle.cp_tips.specs.Rows.{row_of, comes_behind}

-- the rows from here on are in order behind the block before, their counts are at least 1 and sum up
-- to what is left
abbrev pub fine_from : Option ℕ → ℕ → List TableRow → Bool
fine_from before left [] = eqb left 0
fine_from before left (r ∷ rs) = comes_behind before r.block && (leb 1 r.tip.count && (leb r.tip.count left && fine_from (Some r.block) (left - r.tip.count) rs))

-- each row's block is greater than that of the one before
abbrev pub rising : Option ℕ → List TableRow → Bool
rising before [] = true
rising before (r ∷ rs) = comes_behind before r.block && rising (Some r.block) rs

abbrev positive : List TableRow → Bool
positive rows = list_all (λ r. leb 1 r.tip.count) rows

abbrev total : List TableRow → ℕ
total rows = sum_by (λ r. r.tip.count) rows

-- ---- tests on tests

regrouped : (b p q c w e : Bool) → (b && (p && (q && (c && (w && e))))) ≡ ((b && c) && ((p && w) && (q && e)))
regrouped false p q c w e = refl
regrouped true false q false w e = refl
regrouped true false q true w e = refl
regrouped true true false false w e = refl
regrouped true true false true false e = refl
regrouped true true false true true e = refl
regrouped true true true false w e = refl
regrouped true true true true false e = refl
regrouped true true true true true e = refl

sums_up : (c s left : ℕ) → (leb c left && eqb s (left - c)) ≡ eqb (c + s) left
sums_up c s left = grind (arith, nat_tests)

fine_is : (before : Option ℕ) (left : ℕ) (rows : List TableRow) → fine_from before left rows ≡ (rising before rows && (positive rows && eqb (total rows) left))
fine_is before left [] = at_end left
  where
    at_end : (left : ℕ) → eqb left 0 ≡ eqb 0 left
    at_end left = grind (arith, nat_tests)
fine_is before left (r ∷ rs) =
    let sums : (leb r.tip.count left && eqb (total rs) (left - r.tip.count)) ≡ eqb (total (r ∷ rs)) left = sums_up r.tip.count (total rs) left ∙ ap (λ (n : ℕ). eqb n left) (sym (sum_by-cons (λ (x : TableRow). x.tip.count) r rs)) in
    ap (λ (t : Bool). comes_behind before r.block && (leb 1 r.tip.count && (leb r.tip.count left && t))) (fine_is (Some r.block) (left - r.tip.count) rs)
    ∙ regrouped (comes_behind before r.block) (leb 1 r.tip.count) (leb r.tip.count left) (rising (Some r.block) rs) (positive rs) (eqb (total rs) (left - r.tip.count))
    ∙ ap (λ (t : Bool). (comes_behind before r.block && rising (Some r.block) rs) && ((leb 1 r.tip.count && positive rs) && t)) sums

-- ---- order by neighbours and by all

above_from : (a b : ℕ) (rows : List TableRow) → ltb a b ≡ true → all_above b rows ≡ true → all_above a rows ≡ true
above_from a b [] lt all = refl
above_from a b (r ∷ rs) lt all = both (ltb a r.block) (all_above a rs) (further a b r.block lt (and_parts _ _ all).0) (above_from a b rs lt (and_parts _ _ all).1)
  where
    further : (a b c : ℕ) → ltb a b ≡ true → ltb b c ≡ true → ltb a c ≡ true
    further a b c p q = grind (arith, nat_tests)

    both : (s t : Bool) → s ≡ true → t ≡ true → (s && t) ≡ true
    both s t p q = rw (p, q) refl

pub rising_above : (block : ℕ) (rows : List TableRow) → rising (Some block) rows ≡ (all_above block rows && ascends rows)
unfolding ascends
rising_above block [] = refl
rising_above block (r ∷ rs) = ap (λ (t : Bool). ltb block r.block && t) (rising_above r.block rs) ∙ absorbed (ltb block r.block) (all_above r.block rs) (ascends rs) (all_above block rs) (above_from block r.block rs)
  where
    absorbed : (b c d e : Bool) → (b ≡ true → c ≡ true → e ≡ true) → (b && (c && d)) ≡ ((b && e) && (c && d))
    absorbed false c d e h = refl
    absorbed true false d false h = refl
    absorbed true false d true h = refl
    absorbed true true d e h = rw (h refl refl) refl

pub rising_is : (rows : List TableRow) → rising None rows ≡ ascends rows
unfolding ascends
rising_is [] = refl
rising_is (r ∷ rs) = rising_above r.block rs

-- judged row by row, and counted
pub fine_is_well_formed : (rows : List TableRow) (n entries : ℕ) → (fine_from None entries rows && eqb (length rows) n) ≡ well_formed rows n entries
unfolding well_formed
fine_is_well_formed rows n entries =
    ap (λ (t : Bool). t && eqb (length rows) n) (fine_is None entries rows ∙ ap (λ (t : Bool). t && (positive rows && eqb (total rows) entries)) (rising_is rows))
    ∙ moved (ascends rows) (positive rows) (eqb (length rows) n) (eqb (total rows) entries)
  where
    moved : (a p l s : Bool) → ((a && (p && s)) && l) ≡ (a && (p && (l && s)))
    moved false p l s = refl
    moved true false l s = refl
    moved true true false false = refl
    moved true true false true = refl
    moved true true true false = refl
    moved true true true true = refl

-- ---- a loop over the rows where they lie; i of them were judged

abbrev pub SoFar : List (List ℕ) → ℕ → ℕ → Option ℕ → ℕ → Type 0
SoFar items entries i before left = fine_from None entries (map row_of items) ≡ fine_from before left (map row_of (drop i items))

-- the next row
abbrev pub next : List (List ℕ) → ℕ → TableRow
next items i = row_of (get_or items i [])

here : (items : List (List ℕ)) (i : ℕ) → i < length items → map row_of (drop i items) ≡ next items i ∷ map row_of (drop (i + 1) items)
here items i lt = at_drop_more (map row_of) items i [] lt

judged : (items : List (List ℕ)) (entries i : ℕ) (before : Option ℕ) (left : ℕ) → i < length items → SoFar items entries i before left → fine_from None entries (map row_of items) ≡ fine_from before left (next items i ∷ map row_of (drop (i + 1) items))
judged items entries i before left lt so_far = so_far ∙ ap (fine_from before left) (here items i lt)

refused : (items : List (List ℕ)) (entries n : ℕ) → fine_from None entries (map row_of items) ≡ false → false ≡ well_formed (map row_of items) n entries
refused items entries n e = sym (sym (fine_is_well_formed (map row_of items) n entries) ∙ ap (λ (t : Bool). t && eqb (length (map row_of items)) n) e)

-- block and count are those of the next row
pub stops_at_order : (items : List (List ℕ)) (entries n i : ℕ) (before : Option ℕ) (left block : ℕ) → i < length items → SoFar items entries i before left → block ≡ (next items i).block → comes_behind before block ≡ false → false ≡ well_formed (map row_of items) n entries
stops_at_order items entries n i before left block lt so_far is e = refused items entries n (judged items entries i before left lt so_far ∙ stop (comes_behind before (next items i).block) _ (ap (comes_behind before) (sym is) ∙ e))
  where
    stop : (b t : Bool) → b ≡ false → (b && t) ≡ false
    stop b t e = rw e refl

pub stops_at_count : (items : List (List ℕ)) (entries n i : ℕ) (before : Option ℕ) (left count : ℕ) → i < length items → SoFar items entries i before left → count ≡ (next items i).tip.count → (count ≡ 0) ⊎ (left < count) → false ≡ well_formed (map row_of items) n entries
stops_at_count items entries n i before left count lt so_far is e = refused items entries n (judged items entries i before left lt so_far ∙ stop (comes_behind before (next items i).block) (leb 1 (next items i).tip.count) (leb (next items i).tip.count left) _ (subst (λ (k : ℕ). (leb 1 k ≡ false) ⊎ (leb k left ≡ false)) is (tests e)))
  where
    tests : (count ≡ 0) ⊎ (left < count) → (leb 1 count ≡ false) ⊎ (leb count left ≡ false)
    tests (inl none) = inl (at_zero count none)
      where
        at_zero : (c : ℕ) → c ≡ 0 → leb 1 c ≡ false
        at_zero c e = grind (arith, nat_tests)
    tests (inr over) = inr (at_over count left over)
      where
        at_over : (c l : ℕ) → l < c → leb c l ≡ false
        at_over c l h = grind (arith, nat_tests)

    stop : (b p q t : Bool) → (p ≡ false) ⊎ (q ≡ false) → (b && (p && (q && t))) ≡ false
    stop false p q t e = refl
    stop true false q t e = refl
    stop true true false t e = refl
    stop true true true t (inl e) = absurd cc
    stop true true true t (inr e) = absurd cc

pub goes_on : (items : List (List ℕ)) (entries i : ℕ) (before : Option ℕ) (left block count : ℕ) → i < length items → SoFar items entries i before left → block ≡ (next items i).block → count ≡ (next items i).tip.count → comes_behind before block ≡ true → (count ≡ 0 → ⊥) → count ≤ left
    → SoFar items entries (i + 1) (Some block) (left - count)
goes_on items entries i before left block count lt so_far block_is count_is order some within =
    judged items entries i before left lt so_far ∙ ap₂ (λ (b k : ℕ). comes_behind before b && (leb 1 k && (leb k left && fine_from (Some b) (left - k) (map row_of (drop (i + 1) items))))) (sym block_is) (sym count_is)
    ∙ on (comes_behind before block) (leb 1 count) (leb count left) _ order (at_least count some) (le-leb _ _ within)
  where
    at_least : (c : ℕ) → (c ≡ 0 → ⊥) → leb 1 c ≡ true
    at_least c e = grind (arith, nat_tests)

    on : (b p q t : Bool) → b ≡ true → p ≡ true → q ≡ true → (b && (p && (q && t))) ≡ t
    on b p q t e f g = rw (e, f, g) refl

pub all_judged : (items : List (List ℕ)) (entries n i : ℕ) (before : Option ℕ) (left : ℕ) → length items ≤ i → SoFar items entries i before left → (eqb left 0 && eqb (length items) n) ≡ well_formed (map row_of items) n entries
all_judged items entries n i before left ended so_far =
    let decided : fine_from None entries (map row_of items) ≡ eqb left 0 = so_far ∙ at_drop_all (λ (l : List (List ℕ)). fine_from before left (map row_of l)) items i ended in
    sym (ap₂ (λ (t : Bool) (m : ℕ). t && eqb m n) decided (length-map items row_of)) ∙ fine_is_well_formed (map row_of items) n entries

-- a table that is well formed ascends
pub ascends_where : (b : Bool) (rows : List TableRow) (n entries : ℕ) → b ≡ well_formed rows n entries → OnTrue b (ascends rows ≡ true)
unfolding well_formed
ascends_where false rows n entries e = tt
ascends_where true rows n entries e = (and_parts _ _ (sym e)).0
