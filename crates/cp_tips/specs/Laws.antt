-- The statements of the laws on tables.
use Rattle.std.specs.Prelude.{◌+◌, ◌*◌, ◌≡◌, List, length}
use Rattle.cp_statements.specs.Laws.{IsExact}
use Rattle.cp_tips.specs.Table.{TableRow, TableFits, table_of, table_text}

-- the reading and the text are one relation between bytes and the rows that fit
abbrev pub TablesAreExact : Type 0
TablesAreExact = IsExact table_of table_text TableFits

-- four bytes and 88 for each row
abbrev pub TableLength : Type 0
TableLength = (rows : List TableRow) → TableFits rows → length (table_text rows) ≡ 4 + 88 * length rows
