-- A families list: what was spelled is read, and what is read was spelled so.
use Rattle.std.proofs.Common.{◌≡◌, ℕ, zero, suc, ◌+◌, ◌*◌, ◌^◌, ◌<◌, true, cond, List, [], ◌∷◌, ◌++◌, length, Option, Some, None, Ok, Err, refl, sym, ap, subst, ◌∙◌, arith, length-append}
use Rattle.std.specs.Prelude.{codes, flat_map}
use Rattle.std.specs.Int.{w32, to_be_bytes}
use Rattle.std.specs.List.{AllByRecursion}
use Rattle.std.proofs.lemmas.Bool.{and_from, and_parts}
use Rattle.std.proofs.lemmas.List.{append-nil}
use Rattle.cp_bytes.specs.Fields.{IsBytes, field_at}
use Rattle.cp_bytes.specs.Fields.Field.{Tag, U32, Raw}
use Rattle.cp_bytes.proofs.FieldLemmas.{bind_ok, ok_is, ended_ok, at_offset_ok, Takes, Takes-then, field_takes, field_again}
use Rattle.cp_statements.proofs.Parts.{at_front}
use Rattle.lms_tree.specs.PublicKey.{key_reads}
use Rattle.cp_families.specs.Families.{FamilyRow, comes_after, family_row_at, family_rows_at, families_of, family_ascends, FamilyRowFits, FamiliesFit, family_text, families_text}
use Rattle.cp_families.proofs.RowLemmas.{given_then}

family_row_again : (before : Option FamilyRow) (r : FamilyRow) (rest : List ℕ) → comes_after before r.family r.client ≡ true → FamilyRowFits r → family_row_at before (family_text r ++ rest) ≡ Ok (r, rest)
unfolding family_row_at family_text
family_row_again before r rest after fits =
    let a = at_front (field_at U32) r.family (to_be_bytes w32 r.family) (to_be_bytes w32 r.client ++ r.key) rest (λ more. field_again U32 r.family more fits.0) in
    let b = at_front (field_at U32) r.client (to_be_bytes w32 r.client) r.key rest (λ more. field_again U32 r.client more fits.1) in
    let c = field_again (Raw 56) r.key rest fits.2 in
    rw a (rw b (rw after (rw c (rw fits.3 refl))))

family_row_takes : (before : Option FamilyRow) (bytes : List ℕ) (x : FamilyRow × List ℕ) → IsBytes bytes → family_row_at before bytes ≡ Ok x → Takes bytes (family_text x.0) x.1 × (comes_after before x.0.family x.0.client ≡ true) × FamilyRowFits x.0
unfolding family_row_at family_text
family_row_takes before bytes x fits e =
    let a = bind_ok (field_at U32 bytes) _ x e in
    let b = bind_ok (field_at U32 a.0.1) _ x a.2 in
    let k = bind_ok (cond (comes_after before a.0.0 b.0.0) (field_at (Raw 56) b.0.1) (Err (length bytes))) _ x b.2 in
    let g = given_then (comes_after before a.0.0 b.0.0) (field_at (Raw 56) b.0.1) (length bytes) k.0 k.1 in
    let made : FamilyRow × List ℕ = (record { family = a.0.0; client = b.0.0; key = k.0.0 }, k.0.1) in
    let l = given_then (key_reads k.0.0) (Ok made) (length b.0.1) x k.2 in
    let ta = field_takes U32 bytes a.0 fits a.1 in
    let tb = field_takes U32 a.0.1 b.0 ta.0.rest_fits b.1 in
    let tk = field_takes (Raw 56) b.0.1 k.0 tb.0.rest_fits g.1 in
    let y = Takes-then a.0.1 (to_be_bytes w32 b.0.0) b.0.1 k.0.0 k.0.1 tb.0 tk.0 in
    let z = Takes-then bytes (to_be_bytes w32 a.0.0) a.0.1 (to_be_bytes w32 b.0.0 ++ k.0.0) k.0.1 ta.0 y in
    subst (λ (y : FamilyRow × List ℕ). Takes bytes (to_be_bytes w32 y.0.family ++ (to_be_bytes w32 y.0.client ++ y.0.key)) y.1 × (comes_after before y.0.family y.0.client ≡ true) × FamilyRowFits y.0) (ok_is made x l.1) (z, g.0, (ta.1, tb.1, tk.1, l.0))

family_rows_again : (before : Option FamilyRow) (rows : List FamilyRow) (rest : List ℕ) → family_ascends before rows ≡ true → AllByRecursion FamilyRowFits rows → family_rows_at (length rows) before (flat_map family_text rows ++ rest) ≡ Ok (rows, rest)
unfolding family_rows_at
family_rows_again before [] rest rising all = refl
family_rows_again before (r ∷ rows) rest rising all =
    let w = and_parts (comes_after before r.family r.client) (family_ascends (Some r) rows) rising in
    let a = at_front (family_row_at before) r (family_text r) (flat_map family_text rows) rest (λ more. family_row_again before r more w.0 all.0) in
    rw a (rw (family_rows_again (Some r) rows rest w.1 all.1) refl)

family_rows_take : (n : ℕ) (before : Option FamilyRow) (bytes : List ℕ) (x : List FamilyRow × List ℕ) → IsBytes bytes → family_rows_at n before bytes ≡ Ok x → Takes bytes (flat_map family_text x.0) x.1 × (length x.0 ≡ n) × (family_ascends before x.0 ≡ true) × AllByRecursion FamilyRowFits x.0
unfolding family_rows_at
family_rows_take zero before bytes x fits e =
    let made : List FamilyRow × List ℕ = ([], bytes) in
    subst (λ (y : List FamilyRow × List ℕ). Takes bytes (flat_map family_text y.0) y.1 × (length y.0 ≡ zero) × (family_ascends before y.0 ≡ true) × AllByRecursion FamilyRowFits y.0) (ok_is made x e) (record { parts = refl; rest_fits = fits }, refl, refl, tt)
family_rows_take (suc n) before bytes x fits e =
    let a = bind_ok (family_row_at before bytes) _ x e in
    let b = bind_ok (family_rows_at n (Some a.0.0) a.0.1) _ x a.2 in
    let ta = family_row_takes before bytes a.0 fits a.1 in
    let tb = family_rows_take n (Some a.0.0) a.0.1 b.0 ta.0.rest_fits b.1 in
    let made : List FamilyRow × List ℕ = (a.0.0 ∷ b.0.0, b.0.1) in
    let both = Takes-then bytes (family_text a.0.0) a.0.1 (flat_map family_text b.0.0) b.0.1 ta.0 tb.0 in
    subst (λ (y : List FamilyRow × List ℕ). Takes bytes (flat_map family_text y.0) y.1 × (length y.0 ≡ suc n) × (family_ascends before y.0 ≡ true) × AllByRecursion FamilyRowFits y.0) (ok_is made x b.2)
    (both, ap suc tb.1, and_from _ _ ta.1 tb.2, (ta.2, tb.3))

pub families_again : (rows : List FamilyRow) → FamiliesFit rows → families_of (families_text rows) ≡ Ok rows
unfolding families_of families_text
families_again rows fits =
    let body : List ℕ = flat_map family_text rows in
    let a = field_again (Tag (codes "CPf1")) tt (to_be_bytes w32 (length rows) ++ body) tt in
    let b = field_again U32 (length rows) body fits.0 in
    let c : family_rows_at (length rows) None body ≡ Ok (rows, []) = ap (family_rows_at (length rows) None) (sym (append-nil body)) ∙ family_rows_again None rows [] fits.1 fits.2 in
    rw a (rw b (rw c refl))

pub families_take : (bytes : List ℕ) (rows : List FamilyRow) → IsBytes bytes → families_of bytes ≡ Ok rows → (bytes ≡ families_text rows) × FamiliesFit rows
unfolding families_of families_text
families_take bytes rows fits e =
    let w = at_offset_ok bytes _ rows e in
    let a = bind_ok (field_at (Tag (codes "CPf1")) bytes) _ rows w in
    let b = bind_ok (field_at U32 a.0.1) _ rows a.2 in
    let c = bind_ok (family_rows_at b.0.0 None b.0.1) _ rows b.2 in
    let ta = field_takes (Tag (codes "CPf1")) bytes a.0 fits a.1 in
    let tb = field_takes U32 a.0.1 b.0 ta.0.rest_fits b.1 in
    let tc = family_rows_take b.0.0 None b.0.1 c.0 tb.0.rest_fits c.1 in
    let done = ended_ok c.0 rows c.2 in
    joined bytes a.0.1 b.0.1 b.0.0 c.0 ta.0 tb.0 tc.0 tc.1 tb.1 tc.2 tc.3 done.0 done.1
  where
    joined : (bytes r1 r2 : List ℕ) (n : ℕ) (p : List FamilyRow × List ℕ) → Takes bytes (codes "CPf1") r1 → Takes r1 (to_be_bytes w32 n) r2 → Takes r2 (flat_map family_text p.0) p.1 → length p.0 ≡ n → n < 2 ^ 32 → family_ascends None p.0 ≡ true → AllByRecursion FamilyRowFits p.0 → p.0 ≡ rows → p.1 ≡ []
        → (bytes ≡ codes "CPf1" ++ (to_be_bytes w32 (length rows) ++ flat_map family_text rows)) × FamiliesFit rows
    joined bytes r1 r2 n p ta tb tp size small rising all is none =
        let x = Takes-then r1 (to_be_bytes w32 n) r2 (flat_map family_text p.0) p.1 tb tp in
        let y = Takes-then bytes (codes "CPf1") r1 (to_be_bytes w32 n ++ flat_map family_text p.0) p.1 ta x in
        let whole : bytes ≡ codes "CPf1" ++ (to_be_bytes w32 (length p.0) ++ flat_map family_text p.0) = y.parts ∙ ap (λ (r : List ℕ). (codes "CPf1" ++ (to_be_bytes w32 n ++ flat_map family_text p.0)) ++ r) none ∙ append-nil _ ∙ ap (λ (k : ℕ). codes "CPf1" ++ (to_be_bytes w32 k ++ flat_map family_text p.0)) (sym size) in
        subst (λ (v : List FamilyRow). (bytes ≡ codes "CPf1" ++ (to_be_bytes w32 (length v) ++ flat_map family_text v)) × FamiliesFit v) is (whole, (subst (λ (k : ℕ). k < 2 ^ 32) (sym size) small, rising, all))

length-rows : (rows : List FamilyRow) → AllByRecursion FamilyRowFits rows → length (flat_map family_text rows) ≡ 64 * length rows
unfolding family_text
length-rows [] all = refl
length-rows (r ∷ rows) all =
    let one : length (family_text r) ≡ 64 = omega (arith, length-append (to_be_bytes w32 r.family) (to_be_bytes w32 r.client ++ r.key), length-append (to_be_bytes w32 r.client) r.key, all.0.2) in
    omega (arith, length-append (family_text r) (flat_map family_text rows), one, length-rows rows all.1)

pub length-families_text : (rows : List FamilyRow) → FamiliesFit rows → length (families_text rows) ≡ 8 + 64 * length rows
unfolding families_text
length-families_text rows fits = omega (arith, length-append (codes "CPf1") (to_be_bytes w32 (length rows) ++ flat_map family_text rows), length-append (to_be_bytes w32 (length rows)) (flat_map family_text rows), length-rows rows fits.2)
