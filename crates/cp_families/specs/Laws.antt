-- The statements of the laws on families lists.
use Rattle.std.specs.Prelude.{◌+◌, ◌*◌, ◌≡◌, List, length}
use Rattle.cp_statements.specs.Laws.{IsExact}
use Rattle.cp_families.specs.Families.{FamilyRow, FamiliesFit, families_of, families_text}

-- the reading and the text are one relation between bytes and the lists that fit
abbrev pub FamiliesAreExact : Type 0
FamiliesAreExact = IsExact families_of families_text FamiliesFit

-- eight bytes and 64 for each row
abbrev pub FamiliesLength : Type 0
FamiliesLength = (rows : List FamilyRow) → FamiliesFit rows → length (families_text rows) ≡ 8 + 64 * length rows
