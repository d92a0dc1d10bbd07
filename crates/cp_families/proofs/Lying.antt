-- A families list's rows lie behind the first eight bytes of its text, 64 bytes each.
use Rattle.std.proofs.Common.{◌≡◌, ℕ, zero, suc, ◌+◌, ◌*◌, ◌/◌, ◌≤◌, List, [], ◌∷◌, length, drop, take, Option, Some, None, Result, Ok, Err, refl, sym, ap, subst, ◌∙◌, arith}
use Rattle.std.specs.Prelude.{codes, map, IsOk}
use Rattle.std.proofs.lemmas.List.{drop-drop, length-drop}
use Rattle.std.specs.Simd.{first_chunks}
use Rattle.cp_bytes.specs.Fields.{field_at}
use Rattle.cp_bytes.specs.Fields.Field.{Tag, U32}
use Rattle.cp_bytes.proofs.FieldLemmas.{bind_ok, ok_is, ended_ok, at_offset_ok}
use Rattle.cp_families.specs.Families.{FamilyRow, family_row_at, family_rows_at, families_of}
use Rattle.cp_families.specs.Rows.{row_of, IsListed}
use Rattle.cp_families.proofs.RowLemmas.{field_split, row_taken, rows_listed}

-- so many rows lie at the front of the bytes, and these are left
record Lies (n : ℕ) (bytes : List ℕ) (x : List FamilyRow × List ℕ) : Type 0 where
  pub rows : map row_of (first_chunks 64 n bytes) ≡ x.0
  pub rest : drop (64 * n) bytes ≡ x.1
  pub long : 64 * n ≤ length bytes

rows_lie : (n : ℕ) (before : Option FamilyRow) (bytes : List ℕ) (x : List FamilyRow × List ℕ) → family_rows_at n before bytes ≡ Ok x → Lies n bytes x
unfolding family_rows_at
rows_lie zero before bytes x e =
    let made : List FamilyRow × List ℕ = ([], bytes) in
    subst (λ (y : List FamilyRow × List ℕ). Lies zero bytes y) (ok_is made x e) (record { rows = refl; rest = refl; long = omega arith })
rows_lie (suc n) before bytes x e =
    let a = bind_ok (family_row_at before bytes) _ x e in
    let b = bind_ok (family_rows_at n (Some a.0.0) a.0.1) _ x a.2 in
    let t = row_taken before bytes a.0 a.1 in
    let l = rows_lie n (Some a.0.0) a.0.1 b.0 b.1 in
    let made : List FamilyRow × List ℕ = (a.0.0 ∷ b.0.0, b.0.1) in
    subst (λ (y : List FamilyRow × List ℕ). Lies (suc n) bytes y) (ok_is made x b.2) (joined a.0 b.0 t.row t.rest t.long l)
  where
    joined : (r : FamilyRow × List ℕ) (others : List FamilyRow × List ℕ) → r.0 ≡ row_of (take 64 bytes) → r.1 ≡ drop 64 bytes → 64 ≤ length bytes → Lies n r.1 others → Lies (suc n) bytes (r.0 ∷ others.0, others.1)
    joined r others row rest long l = record {
      rows = ap (λ (y : FamilyRow). y ∷ map row_of (first_chunks 64 n (drop 64 bytes))) (sym row) ∙ ap (λ (ys : List FamilyRow). r.0 ∷ ys) (ap (λ (z : List ℕ). map row_of (first_chunks 64 n z)) (sym rest) ∙ l.rows);
      rest = ap (λ (m : ℕ). drop m bytes) (let e : 64 * suc n ≡ 64 + 64 * n = omega arith in e) ∙ sym (drop-drop (64 * n) 64 bytes) ∙ ap (drop (64 * n)) (sym rest) ∙ l.rest;
      long = omega (arith, long, l.long, ap length rest, length-drop 64 bytes);
    }

-- a list that was read
pub record Lists (bytes : List ℕ) (rows : List FamilyRow) : Type 0 where
  pub long : 8 ≤ length bytes
  pub rows_are : map row_of (first_chunks 64 (length (drop 8 bytes) / 64) (drop 8 bytes)) ≡ rows
  pub listed : IsListed rows

pub lists : (bytes : List ℕ) (rows : List FamilyRow) → families_of bytes ≡ Ok rows → Lists bytes rows
unfolding families_of
lists bytes rows e =
    let w = at_offset_ok bytes _ rows e in
    let a = bind_ok (field_at (Tag (codes "CPf1")) bytes) _ rows w in
    let b = bind_ok (field_at U32 a.0.1) _ rows a.2 in
    let c = bind_ok (family_rows_at b.0.0 None b.0.1) _ rows b.2 in
    let sa = field_split (Tag (codes "CPf1")) bytes a.0 a.1 in
    let sb = field_split U32 a.0.1 b.0 b.1 in
    let done = ended_ok c.0 rows c.2 in
    joined a.0.1 b.0.1 b.0.0 c.0 sa.rest sb.rest sa.long sb.long (rows_lie b.0.0 None b.0.1 c.0 c.1) (rows_listed b.0.0 b.0.1 c.0.0 c.0.1 c.1) done.0 done.1
  where
    joined : (second third : List ℕ) (n : ℕ) (p : List FamilyRow × List ℕ) → drop 4 bytes ≡ second → drop 4 second ≡ third → 4 ≤ length bytes → 4 ≤ length second
        → Lies n third p → IsListed p.0 → p.0 ≡ rows → p.1 ≡ [] → Lists bytes rows
    joined second third n p from_tag from_count long more lie listed is none =
        let behind : drop 8 bytes ≡ third = sym (drop-drop 4 4 bytes) ∙ ap (drop 4) from_tag ∙ from_count in
        let count : length third / 64 ≡ n = omega (arith, lie.long, ap length lie.rest, ap length none, length-drop (64 * n) third) in
        record {
          long = omega (arith, long, more, ap length from_tag, length-drop 4 bytes);
          rows_are = ap (λ (z : List ℕ). map row_of (first_chunks 64 (length z / 64) z)) behind ∙ ap (λ (m : ℕ). map row_of (first_chunks 64 m third)) count ∙ lie.rows ∙ is;
          listed = subst IsListed is listed;
        }

-- the rows of a list are the pieces of what stands behind its first eight bytes
pub pieces_are : (bytes behind : List ℕ) (pieces : List (List ℕ)) (rows : List FamilyRow) → Lists bytes rows → behind ≡ drop 8 bytes → pieces ≡ first_chunks 64 (length behind / 64) behind → map row_of pieces ≡ rows
pieces_are bytes behind pieces rows l from are = ap (map row_of) are ∙ ap (λ (z : List ℕ). map row_of (first_chunks 64 (length z / 64) z)) from ∙ l.rows_are

-- of a text that reads
pub list_of : (bytes : List ℕ) → IsOk (families_of bytes) → (rows : List FamilyRow) × (families_of bytes ≡ Ok rows) × Lists bytes rows
list_of bytes reads = go (families_of bytes) refl reads
  where
    go : (r : Result (List FamilyRow) ℕ) → families_of bytes ≡ r → IsOk r → (rows : List FamilyRow) × (families_of bytes ≡ Ok rows) × Lists bytes rows
    go (Ok rows) e h = (rows, e, lists bytes rows e)
    go (Err at) e h = absurd cc
