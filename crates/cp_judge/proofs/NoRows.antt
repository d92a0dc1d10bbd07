-- The families list without a row reads.
use Rattle.std.proofs.Common.{◌≡◌, List, [], ◌∷◌, Result, Ok, Err, Some, refl, ap, sym, ◌∙◌}
use Rattle.std.specs.Result.{result_ok}
use Rattle.cp_bytes.specs.Fields.{field_at}
use Rattle.cp_statements.specs.Reading.{Reads}
use Rattle.cp_statements.specs.declared.malformed.Malformed.{Malformed}
use Rattle.cp_families.specs.Families.{FamilyRow, families_of, family_rows_at}
use Rattle.cp_bytes.proofs.FieldLemmas.{ok_is}

no_rows : families_of (67 ∷ 80 ∷ 102 ∷ 49 ∷ 0 ∷ 0 ∷ 0 ∷ 0 ∷ []) ≡ Ok []
unfolding families_of family_rows_at field_at
no_rows = refl

pub read_without_rows : (r : Result (List FamilyRow) Malformed) → Reads (λ f. f) r (families_of (67 ∷ 80 ∷ 102 ∷ 49 ∷ 0 ∷ 0 ∷ 0 ∷ 0 ∷ [])) → result_ok r ≡ Some []
read_without_rows (Ok rows) e = ap (λ (l : List FamilyRow). Some l) (sym (ok_is [] rows (sym no_rows ∙ e)))
read_without_rows (Err at) e = let both : Ok [] ≡ Err at.at = sym no_rows ∙ e in absurd cc
