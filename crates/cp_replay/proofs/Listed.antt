-- The families list of a script fits, and so does a list less a client.
use Rattle.std.proofs.Common.{◌≡◌, inl, inr, ℕ, suc, ◌^◌, ◌<◌, ◌≤◌, List, [], ◌∷◌, length, Option, Some, None, Bool, true, false, cond, refl, ap, sym, subst, ◌∙◌, arith}
use Rattle.std.specs.Prelude.{filter, map, nat_lt, not, ◌==◌, ◌&&◌, ◌||◌}
use Rattle.std.specs.List.{AllByRecursion}
use Rattle.std.proofs.lemmas.Bool.{and_from, and_parts, or_cases, lt-ltb, ltb-true, eq-eqb, eqb-true, cases_lt}
use Rattle.lms_tree.specs.PublicKey.{key_reads}
use Rattle.cp_families.specs.Families.{FamilyRow, FamilyRowFits, FamiliesFit, comes_after, families_of, families_text, family_ascends}
use Rattle.cp_families.proofs.Exact.{families_again}
use Rattle.cp_core.specs.Store.{SpellsFamilies, or_nil}
use Rattle.cp_store.proofs.Blocks.{all_filter}
use Rattle.cp_replay.specs.Script.{LineFits, ScriptFits}
use Rattle.cp_replay.specs.Writers.{IsListOf, is_before, is_other, is_same, list_without, with_writer, with_line, with_lines, row_for, rows_for}
use Rattle.cp_replay.specs.declared.line.Line.{Line}
use Rattle.cp_replay.specs.declared.line.Line.TheVariants.{Put, Get, Close, CloseWithout, At}
use Rattle.cp_replay.specs.declared.writer.Writer.{Writer}
use Rattle.cp_replay.proofs.WriterLemmas.{few_lines}

-- ---- the order

or_left : (a b : Bool) → a ≡ true → (a || b) ≡ true
or_left true b e = refl
or_left false b e = absurd cc

or_right : (a b : Bool) → b ≡ true → (a || b) ≡ true
or_right true b e = refl
or_right false b e = e

-- one of two that are not the same comes before the other
total : (a b : Writer) → is_before a b ≡ false → is_same a b ≡ false → is_before b a ≡ true
total a b never other = elim (cases_lt a.family b.family) [
  | inl less ↦ absurd (differ (or_left (nat_lt a.family b.family) _ (lt-ltb a.family b.family less)))
  | inr ge ↦ elim (cases_lt b.family a.family) [
    | inl less ↦ or_left (nat_lt b.family a.family) _ (lt-ltb b.family a.family less)
    | inr le ↦
        let same : a.family ≡ b.family = omega (arith, ge, le) in
        elim (cases_lt a.client b.client) [
          | inl less ↦ absurd (differ (or_right (nat_lt a.family b.family) _ (and_from _ _ (eq-eqb a.family b.family same) (lt-ltb a.client b.client less))))
          | inr ge' ↦ elim (cases_lt b.client a.client) [
            | inl less ↦ or_right (nat_lt b.family a.family) _ (and_from _ _ (eq-eqb b.family a.family (sym same)) (lt-ltb b.client a.client less))
            | inr le' ↦ absurd (both (and_from _ _ (eq-eqb a.family b.family same) (eq-eqb a.client b.client (omega (arith, ge', le')))))
          ]
        ]
  ]
]
  where
    differ : is_before a b ≡ true → ⊥
    differ before = cc

    both : is_same a b ≡ true → ⊥
    both same = cc

abbrev rises : List ℕ → Option FamilyRow → List Writer → Type 0
rises key before ws = family_ascends before (map (row_for key) ws) ≡ true

rises_in : (key : List ℕ) (before : Option FamilyRow) (x : Writer) (xs : List Writer) (w : Writer) (b c : Bool) → is_before x w ≡ b → is_same x w ≡ c
    → (is_before x w ≡ true → rises key (Some (row_for key x)) xs → rises key (Some (row_for key x)) (with_writer xs w))
    → rises key before (x ∷ xs) → comes_after before w.family w.client ≡ true
    → rises key before (cond b (x ∷ with_writer xs w) (cond c (x ∷ xs) (w ∷ (x ∷ xs))))
rises_in key before x xs w true c eb ec others up after =
    let p = and_parts (comes_after before x.family x.client) (family_ascends (Some (row_for key x)) (map (row_for key) xs)) up in
    and_from _ _ p.0 (others eb p.1)
rises_in key before x xs w false true eb ec others up after = up
rises_in key before x xs w false false eb ec others up after =
    let p = and_parts (comes_after before x.family x.client) (family_ascends (Some (row_for key x)) (map (row_for key) xs)) up in
    and_from _ _ after (and_from _ _ (total x w eb ec) p.1)

rises_more : (key : List ℕ) (before : Option FamilyRow) (xs : List Writer) (w : Writer) → rises key before xs → comes_after before w.family w.client ≡ true → rises key before (with_writer xs w)
unfolding with_writer
rises_more key before [] w up after = and_from _ _ after refl
rises_more key before (x ∷ xs) w up after = rises_in key before x xs w (is_before x w) (is_same x w) refl refl (λ e u. rises_more key (Some (row_for key x)) xs w u e) up after

rises_line : (key : List ℕ) (ws : List Writer) (line : Line) → rises key None ws → rises key None (with_line ws line)
rises_line key ws (Put client block nonce version content) up = rises_more key None ws _ up refl
rises_line key ws (Get client block nonce) up = up
rises_line key ws Close up = up
rises_line key ws (CloseWithout client) up = up
rises_line key ws (At epoch) up = up

rises_all : (key : List ℕ) (ws : List Writer) (lines : List Line) → rises key None ws → rises key None (with_lines ws lines)
unfolding with_lines
rises_all key ws [] up = up
rises_all key ws (line ∷ lines) up = rises_all key (with_line ws line) lines (rises_line key ws line up)

-- ---- the fields

abbrev Fits : Writer → Type 0
Fits w = (w.family < 2 ^ 32) × (w.client < 2 ^ 32)

fits_in : (x : Writer) (xs ys : List Writer) (w : Writer) (b c : Bool) → Fits x → AllByRecursion Fits xs → Fits w → AllByRecursion Fits ys → AllByRecursion Fits (cond b (x ∷ ys) (cond c (x ∷ xs) (w ∷ (x ∷ xs))))
fits_in x xs ys w true c fx fxs fw fys = (fx, fys)
fits_in x xs ys w false true fx fxs fw fys = (fx, fxs)
fits_in x xs ys w false false fx fxs fw fys = (fw, (fx, fxs))

fits_more : (xs : List Writer) (w : Writer) → AllByRecursion Fits xs → Fits w → AllByRecursion Fits (with_writer xs w)
unfolding with_writer
fits_more [] w all fw = (fw, tt)
fits_more (x ∷ xs) w all fw = fits_in x xs (with_writer xs w) w (is_before x w) (is_same x w) all.0 all.1 fw (fits_more xs w all.1 fw)

fits_line : (ws : List Writer) (line : Line) → LineFits line → AllByRecursion Fits ws → AllByRecursion Fits (with_line ws line)
fits_line ws (Put client block nonce version content) fits all = fits_more ws _ all (omega (arith, fits.1), fits.0)
fits_line ws (Get client block nonce) fits all = all
fits_line ws Close fits all = all
fits_line ws (CloseWithout client) fits all = all
fits_line ws (At epoch) fits all = all

fits_all : (ws : List Writer) (lines : List Line) → AllByRecursion LineFits lines → AllByRecursion Fits ws → AllByRecursion Fits (with_lines ws lines)
unfolding with_lines
fits_all ws [] fits all = all
fits_all ws (line ∷ lines) fits all = fits_all (with_line ws line) lines fits.1 (fits_line ws line fits.0 all)

rows_fit : (key : List ℕ) (ws : List Writer) → length key ≡ 56 → key_reads key ≡ true → AllByRecursion Fits ws → AllByRecursion FamilyRowFits (map (row_for key) ws)
rows_fit key [] long reads all = tt
rows_fit key (w ∷ ws) long reads all = ((all.0.0, all.0.1, long, reads), rows_fit key ws long reads all.1)

rows_many : (key : List ℕ) (ws : List Writer) → length (map (row_for key) ws) ≡ length ws
rows_many key [] = refl
rows_many key (w ∷ ws) = ap suc (rows_many key ws)

pub list_fits : (key : List ℕ) (lines : List Line) → length key ≡ 56 → key_reads key ≡ true → ScriptFits lines → FamiliesFit (rows_for key lines)
unfolding rows_for
list_fits key lines long reads fits =
    (omega (arith, rows_many key (with_lines [] lines), few_lines [] lines, fits.few), rises_all key [] lines refl, rows_fit key (with_lines [] lines) long reads (fits_all [] lines fits.each tt))

pub writers_fit : (key : List ℕ) (lines : List Line) (ws : List Writer) → length key ≡ 56 → key_reads key ≡ true → ScriptFits lines → ws ≡ with_lines [] lines → FamiliesFit (map (row_for key) ws)
unfolding rows_for
writers_fit key lines ws long reads fits is = subst (λ (l : List Writer). FamiliesFit (map (row_for key) l)) (sym is) (list_fits key lines long reads fits)

-- ---- a list less some rows

after_both : (before : Option FamilyRow) (r x : FamilyRow) → comes_after before r.family r.client ≡ true → comes_after (Some r) x.family x.client ≡ true → comes_after before x.family x.client ≡ true
after_both None r x a b = refl
after_both (Some q) r x a b =
    elim (or_cases (nat_lt q.family r.family) ((q.family == r.family) && nat_lt q.client r.client) a) [
      | inl less ↦ elim (or_cases (nat_lt r.family x.family) ((r.family == x.family) && nat_lt r.client x.client) b) [
        | inl more ↦ or_left (nat_lt q.family x.family) _ (lt-ltb q.family x.family (omega (arith, ltb-true q.family r.family less, ltb-true r.family x.family more)))
        | inr same ↦
            let p = and_parts (r.family == x.family) (nat_lt r.client x.client) same in
            or_left (nat_lt q.family x.family) _ (lt-ltb q.family x.family (omega (arith, ltb-true q.family r.family less, eqb-true r.family x.family p.0)))
      ]
      | inr first ↦
          let p = and_parts (q.family == r.family) (nat_lt q.client r.client) first in
          elim (or_cases (nat_lt r.family x.family) ((r.family == x.family) && nat_lt r.client x.client) b) [
            | inl more ↦ or_left (nat_lt q.family x.family) _ (lt-ltb q.family x.family (omega (arith, eqb-true q.family r.family p.0, ltb-true r.family x.family more)))
            | inr same ↦
                let w = and_parts (r.family == x.family) (nat_lt r.client x.client) same in
                or_right (nat_lt q.family x.family) _ (and_from _ _ (eq-eqb q.family x.family (eqb-true q.family r.family p.0 ∙ eqb-true r.family x.family w.0)) (lt-ltb q.client x.client (omega (arith, ltb-true q.client r.client p.1, ltb-true r.client x.client w.1))))
          ]
    ]

-- a list ascends behind each row that comes before one before it
skipped : (before : Option FamilyRow) (r : FamilyRow) (rs : List FamilyRow) → comes_after before r.family r.client ≡ true → family_ascends (Some r) rs ≡ true → family_ascends before rs ≡ true
skipped before r [] after up = refl
skipped before r (x ∷ xs) after up =
    let p = and_parts (comes_after (Some r) x.family x.client) (family_ascends (Some x) xs) up in
    and_from _ _ (after_both before r x after p.0) p.1

rises_less : (p : FamilyRow → Bool) (before : Option FamilyRow) (rs : List FamilyRow) → family_ascends before rs ≡ true → family_ascends before (filter p rs) ≡ true
rises_less p before [] up = refl
rises_less p before (r ∷ rs) up = go (p r) (and_parts (comes_after before r.family r.client) (family_ascends (Some r) rs) up) (rises_less p (Some r) rs) (rises_less p before rs)
  where
    go : (b : Bool) → (comes_after before r.family r.client ≡ true) × (family_ascends (Some r) rs ≡ true) → (family_ascends (Some r) rs ≡ true → family_ascends (Some r) (filter p rs) ≡ true) → (family_ascends before rs ≡ true → family_ascends before (filter p rs) ≡ true)
        → family_ascends before (cond b (r ∷ filter p rs) (filter p rs)) ≡ true
    go true w behind others = and_from _ _ w.0 (behind w.1)
    go false w behind others = others (skipped before r rs w.0 w.1)

few_less : (p : FamilyRow → Bool) (rs : List FamilyRow) → length (filter p rs) ≤ length rs
few_less p [] = omega arith
few_less p (r ∷ rs) = go (p r) (few_less p rs)
  where
    go : (b : Bool) → length (filter p rs) ≤ length rs → length (cond b (r ∷ filter p rs) (filter p rs)) ≤ length (r ∷ rs)
    go true le = omega (arith, le)
    go false le = omega (arith, le)

pub fits_less : (p : FamilyRow → Bool) (rs : List FamilyRow) → FamiliesFit rs → FamiliesFit (filter p rs)
fits_less p rs fits = (omega (arith, few_less p rs, fits.0), rises_less p None rs fits.1, all_filter FamilyRowFits p rs fits.2)

-- the rows of those that are left are the rows that are left
pub rows_less : (key : List ℕ) (client : ℕ) (ws : List Writer) → map (row_for key) (filter (is_other client) ws) ≡ filter (λ r. not (r.client == client)) (map (row_for key) ws)
rows_less key client [] = refl
rows_less key client (w ∷ ws) = go (not (w.client == client)) (rows_less key client ws)
  where
    rest : List FamilyRow
    rest = filter (λ r. not (r.client == client)) (map (row_for key) ws)

    go : (b : Bool) → map (row_for key) (filter (is_other client) ws) ≡ rest → map (row_for key) (cond b (w ∷ filter (is_other client) ws) (filter (is_other client) ws)) ≡ cond b (row_for key w ∷ rest) rest
    go true e = ap (λ (rs : List FamilyRow). row_for key w ∷ rs) e
    go false e = e

-- those that are left make a list
pub others_fit : (key : List ℕ) (client : ℕ) (ws : List Writer) → FamiliesFit (map (row_for key) ws) → FamiliesFit (map (row_for key) (filter (is_other client) ws))
others_fit key client ws fits = subst FamiliesFit (sym (rows_less key client ws)) (fits_less (λ r. not (r.client == client)) (map (row_for key) ws) fits)

-- and its text is that of the list less the client
pub without_is : (key : List ℕ) (client : ℕ) (ws : List Writer) (text : List ℕ) → IsListOf text (map (row_for key) ws) → families_text (map (row_for key) (filter (is_other client) ws)) ≡ list_without client text
unfolding list_without
without_is key client ws text of =
    ap families_text (rows_less key client ws)
    ∙ ap (λ (rs : List FamilyRow). families_text (filter (λ r. not (r.client == client)) rs)) (sym (ap or_nil (families_again (map (row_for key) ws) of.fits)))
    ∙ ap (list_from client) (sym of.text)
  where
    list_from : ℕ → List ℕ → List ℕ
    list_from client text = families_text (filter (λ r. not (r.client == client)) (or_nil (families_of text)))

-- whoever has a list has bytes that read
pub list_spells : (text : List ℕ) (rows : List FamilyRow) → IsListOf text rows → SpellsFamilies text
list_spells text rows of = rw (ap families_of of.text ∙ families_again rows of.fits) refl
