-- The table without rows, and tables that are well formed.
use Rattle.std.proofs.Common.{◌≡◌, ℕ, true, List, [], Some, None, Result, Ok, Err, refl, sym, ap, ◌∙◌}
use Rattle.std.specs.Prelude.{codes}
use Rattle.std.specs.Result.{result_ok, result_unwrap_or}
use Rattle.std.proofs.lemmas.Bool.{and_parts, eqb-true}
use Rattle.std.proofs.lemmas.List.{nil_from_length}
use Rattle.cp_bytes.specs.Fields.{field_at}
use Rattle.cp_statements.specs.Closing.{Closing}
use Rattle.cp_tips.specs.Table.{TableRow, table_of, rows_at, ascends, well_formed}
use Rattle.cp_evidence.specs.Conditions.{Before}
use Rattle.cp_evidence.specs.Material.{rows_in_table, is_formed, is_formed_before}
use Rattle.cp_evidence.proofs.Trying.{where_some}
use Rattle.cp_evidence.proofs.GivenFacts.{formed_rows, empty_rows}

pub empty_table : table_of (codes "CPt1") ≡ Ok []
unfolding table_of rows_at field_at
empty_table = refl

pub is_empty : (rows : List TableRow) → table_of (codes "CPt1") ≡ Ok rows → rows ≡ []
is_empty rows e =
    let both : (let r : Result (List TableRow) ℕ = Ok [] in r) ≡ Ok rows = sym empty_table ∙ e in
    cc

pub not_refused : (at : ℕ) → table_of (codes "CPt1") ≡ Err at → ⊥
not_refused at e =
    let both : (let r : Result (List TableRow) ℕ = Ok [] in r) ≡ Err at = sym empty_table ∙ e in
    absurd cc

pub no_table : (bytes : List ℕ) (rows : List TableRow) (at : ℕ) → table_of bytes ≡ Err at → table_of (codes "CPt1") ≡ Ok rows → rows ≡ rows_in_table bytes
no_table bytes rows at e f = is_empty rows f ∙ sym (go (table_of bytes) e)
  where
    go : (r : Result (List TableRow) ℕ) → r ≡ Err at → result_unwrap_or r [] ≡ []
    go (Ok x) h = absurd cc
    go (Err d) h = refl

-- ---- tables that are well formed ascend

formed_rows_ascend : (rows : List TableRow) (n entries : ℕ) → well_formed rows n entries ≡ true → ascends rows ≡ true
unfolding well_formed
formed_rows_ascend rows n entries h = (and_parts (ascends rows) _ h).0

pub formed_ascends : (bytes : List ℕ) (c : Closing) → is_formed bytes c ≡ true → ascends (rows_in_table bytes) ≡ true
formed_ascends bytes c h = formed_rows_ascend (rows_in_table bytes) c.rows c.entries (where_some (λ rows. well_formed rows c.rows c.entries) (result_ok (table_of bytes)) (rows_in_table bytes) (formed_rows bytes c h)).1

no_rows_ascend : ascends [] ≡ true
unfolding ascends
no_rows_ascend = refl

pub formed_before_ascends : (bytes : List ℕ) (before : Before) → is_formed_before bytes before ≡ true → ascends (rows_in_table bytes) ≡ true
formed_before_ascends bytes None h = ap ascends (ap rows_in_table (nil_from_length bytes (eqb-true _ _ h)) ∙ empty_rows) ∙ no_rows_ascend
formed_before_ascends bytes (Some c) h = formed_ascends bytes c h
