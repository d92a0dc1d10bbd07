-- A table: what was spelled is read, and what is read was spelled so.
use Rattle.std.proofs.Common.{◌≡◌, ℕ, zero, suc, ◌+◌, ◌*◌, ◌≤◌, Bool, true, false, cond, eqb, List, [], ◌∷◌, ◌++◌, length, Result, Ok, Err, refl, ap, subst, ◌∙◌, arith, length-append}
use Rattle.std.specs.Prelude.{codes, flat_map}
use Rattle.std.specs.List.{AllByRecursion}
use Rattle.std.proofs.lemmas.Bool.{eqb-true, ne_eqb}
use Rattle.std.proofs.lemmas.List.{nil_from_length}
use Rattle.cp_bytes.specs.Fields.{IsBytes, spell, ◌>>=◌, field_at, fields_at}
use Rattle.cp_bytes.specs.Fields.Field.{Tag}
use Rattle.cp_bytes.proofs.FieldLemmas.{bind_ok, ok_is, at_offset_ok, field_takes, field_again, fields_take, fields_again}
use Rattle.cp_statements.proofs.Tagged.{length-spell}
use Rattle.cp_tips.specs.Table.{TableRow, row_fields, row_values, row_from, RowFits, TableFits, row_text, table_text, rows_at, table_of}

-- the rows that were taken from bytes
record Read (bytes : List ℕ) (rows : List TableRow) : Type 0 where
  pub is : bytes ≡ flat_map row_text rows
  pub fit : AllByRecursion RowFits rows

ended : (bytes : List ℕ) (rows : List TableRow) → eqb (length bytes) 0 ≡ true → (let none : Result (List TableRow) ℕ = Ok [] in none) ≡ Ok rows → Read bytes rows
ended bytes rows t e = subst (λ (l : List TableRow). Read bytes l) (ok_is [] rows e) (record { is = nil_from_length bytes (eqb-true _ _ t); fit = tt })

rows_take : (n : ℕ) (bytes : List ℕ) (rows : List TableRow) → IsBytes bytes → rows_at n bytes ≡ Ok rows → Read bytes rows
unfolding rows_at row_text
rows_take zero bytes rows fits e = go (eqb (length bytes) 0) refl e
  where
    go : (b : Bool) → eqb (length bytes) 0 ≡ b → cond {A = Result (List TableRow) ℕ} b (Ok []) (Err (length bytes)) ≡ Ok rows → Read bytes rows
    go true t h = ended bytes rows t h
    go false t h = absurd cc
rows_take (suc n) bytes rows fits e = go (eqb (length bytes) 0) refl e (λ r ys. rows_take n r ys)
  where
    more : Result (List TableRow) ℕ
    more = fields_at row_fields bytes >>= λ first. (rows_at n first.1 >>= λ others. Ok (row_from first.0 ∷ others))

    go : (b : Bool) → eqb (length bytes) 0 ≡ b → cond {A = Result (List TableRow) ℕ} b (Ok []) more ≡ Ok rows → ((r : List ℕ) (ys : List TableRow) → IsBytes r → rows_at n r ≡ Ok ys → Read r ys) → Read bytes rows
    go true t h rest = ended bytes rows t h
    go false t h rest =
        let a = bind_ok (fields_at row_fields bytes) _ rows h in
        let b = bind_ok (rows_at n a.0.1) _ rows a.2 in
        let ta = fields_take row_fields bytes a.0 fits a.1 in
        let tb = rest a.0.1 b.0 ta.0.rest_fits b.1 in
        subst (λ (l : List TableRow). Read bytes l) (ok_is (row_from a.0.0 ∷ b.0) rows b.2) (record { is = ta.0.parts ∙ ap (λ (l : List ℕ). spell row_fields a.0.0 ++ l) tb.is; fit = (ta.1, tb.fit) })

pub table_takes : (bytes : List ℕ) (rows : List TableRow) → IsBytes bytes → table_of bytes ≡ Ok rows → (bytes ≡ table_text rows) × TableFits rows
unfolding table_of table_text
table_takes bytes rows fits e =
    let w = at_offset_ok bytes _ rows e in
    let a = bind_ok (field_at (Tag (codes "CPt1")) bytes) _ rows w in
    let ta = field_takes (Tag (codes "CPt1")) bytes a.0 fits a.1 in
    let tr = rows_take (length a.0.1) a.0.1 rows ta.0.rest_fits a.2 in
    (ta.0.parts ∙ ap (λ (l : List ℕ). codes "CPt1" ++ l) tr.is, tr.fit)

-- ---- lengths

length-row_text : (r : TableRow) → RowFits r → length (row_text r) ≡ 88
unfolding row_text
length-row_text r fits = length-spell row_fields (row_values r) fits

length-rows : (rows : List TableRow) → TableFits rows → length (flat_map row_text rows) ≡ 88 * length rows
length-rows [] all = refl
length-rows (r ∷ rows) all = omega (arith, length-append (row_text r) (flat_map row_text rows), length-row_text r all.0, length-rows rows all.1)

pub length-table_text : (rows : List TableRow) → TableFits rows → length (table_text rows) ≡ 4 + 88 * length rows
unfolding table_text
length-table_text rows all = omega (arith, length-append (codes "CPt1") (flat_map row_text rows), length-rows rows all)

-- ---- what was spelled

row_again : (r : TableRow) (rest : List ℕ) → RowFits r → fields_at row_fields (row_text r ++ rest) ≡ Ok (row_values r, rest)
unfolding row_text
row_again r rest fits = fields_again row_fields (row_values r) rest fits

rows_again : (n : ℕ) (rows : List TableRow) → length rows ≤ n → TableFits rows → rows_at n (flat_map row_text rows) ≡ Ok rows
unfolding rows_at
rows_again zero [] le all = refl
rows_again zero (r ∷ rows) le all = absurd (omega (arith, le))
rows_again (suc n) [] le all = refl
rows_again (suc n) (r ∷ rows) le all =
    let some : eqb (length (row_text r ++ flat_map row_text rows)) 0 ≡ false = ne_eqb _ _ (λ e. omega (arith, e, length-append (row_text r) (flat_map row_text rows), length-row_text r all.0)) in
    rw some (rw (row_again r (flat_map row_text rows) all.0) (rw (rows_again n rows (omega (arith, le)) all.1) refl))

pub table_again : (rows : List TableRow) → TableFits rows → table_of (table_text rows) ≡ Ok rows
unfolding table_of table_text
table_again rows all =
    let a = field_again (Tag (codes "CPt1")) tt (flat_map row_text rows) tt in
    let b = rows_again (length (flat_map row_text rows)) rows (omega (arith, length-rows rows all)) all in
    rw a (rw b refl)
