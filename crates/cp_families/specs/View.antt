-- What contracts see of the code's values.
use Rattle.std.specs.Prelude.{Option, Some, None}
use Rattle.cp_families.specs.Families as spec
use Rattle.cp_families.specs.declared.row.Row.{Row}

abbrev pub row_view : Row → spec.FamilyRow
row_view r = record { family = r.family; client = r.client; key = r.key.now }

abbrev pub row_before : Option Row → Option spec.FamilyRow
row_before None = None
row_before (Some r) = Some (row_view r)
