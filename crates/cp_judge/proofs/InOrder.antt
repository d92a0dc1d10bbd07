-- Rows of a table that is well formed.
use Rattle.std.proofs.Common.{◌≡◌, ℕ, ◌≤◌, Bool, true, false, cond, eqb, ltb, leb, List, [], ◌∷◌, Option, Some, None, refl, ap, arith}
use Rattle.std.specs.List.{list_all}
use Rattle.std.proofs.lemmas.Bool.{and_parts, and_from, leb-true, lt-ltb}
use Rattle.cp_tips.specs.Tip.{Tip}
use Rattle.cp_tips.specs.Table.{TableRow, ascends, well_formed, row_in, tip_or_fresh, row, regressed_from, regressed}
use Rattle.cp_judge.specs.Rows.{in_order, went_back}

pub formed_in_order : (rows : List TableRow) (n entries : ℕ) → well_formed rows n entries ≡ true → in_order rows ≡ true
unfolding well_formed
formed_in_order rows n entries formed =
    let a = and_parts (ascends rows) _ formed in
    let b = and_parts (list_all (λ r. leb 1 r.tip.count) rows) _ a.1 in
    and_from _ _ a.0 b.0

pub ordered_ascends : (rows : List TableRow) → in_order rows ≡ true → ascends rows ≡ true
ordered_ascends rows e = (and_parts (ascends rows) _ e).0

-- a row that is found has a count above 0
found_counts : (rows : List TableRow) (b : ℕ) (tip : Tip) → list_all (λ r. leb 1 r.tip.count) rows ≡ true → row_in rows b ≡ Some tip → 1 ≤ tip.count
found_counts [] b tip all e = absurd cc
found_counts (r ∷ rows) b tip all e = go (eqb r.block b) e (found_counts rows b tip)
  where
    parts : (leb 1 r.tip.count ≡ true) × (list_all (λ r. leb 1 r.tip.count) rows ≡ true)
    parts = and_parts (leb 1 r.tip.count) (list_all (λ r. leb 1 r.tip.count) rows) all

    go : (t : Bool) → cond t (Some r.tip) (row_in rows b) ≡ Some tip → (list_all (λ r. leb 1 r.tip.count) rows ≡ true → row_in rows b ≡ Some tip → 1 ≤ tip.count) → 1 ≤ tip.count
    go true e rest = let same : r.tip ≡ tip = cc in let le = leb-true _ _ parts.0 in omega (arith, le, ap (λ (t : Tip). t.count) same)
    go false e rest = rest parts.1 e

above_zero : (n : ℕ) → 1 ≤ n → ltb 0 n ≡ true
above_zero n le = lt-ltb 0 n (omega (arith, le))

by_rows : (b : ℕ) (o n : Option Tip) → ((tip : Tip) → o ≡ Some tip → 1 ≤ tip.count) → went_back (tip_or_fresh b o) (tip_or_fresh b n) ≡ regressed_from o n
by_rows b None n counts = refl
by_rows b (Some s) None counts = rw (above_zero s.count (counts s refl)) refl
by_rows b (Some s) (Some t) counts = rw (above_zero s.count (counts s refl)) refl

pub went_back_is_regressed : (old new : List TableRow) (b : ℕ) → in_order old ≡ true → went_back (row old b) (row new b) ≡ regressed old new b
unfolding regressed
went_back_is_regressed old new b ordered = by_rows b (row_in old b) (row_in new b) (λ tip e. found_counts old b tip (and_parts (ascends old) _ ordered).1 e)

pub none_in_order : in_order [] ≡ true
unfolding ascends
none_in_order = refl

pub ruleset orders = (formed_in_order, none_in_order, went_back_is_regressed)
