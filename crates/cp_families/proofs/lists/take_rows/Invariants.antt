use Rattle.std.proofs.Common.{◌≡◌, ◌-◌, ◌*◌, ◌≤◌, length, drop, None}
use Rattle.std.specs.Prelude.{map}
use Rattle.std.specs.Simd.{first_chunks}
use Rattle.cp_families.specs.Families.{family_rows_at}
use Rattle.cp_families.specs.Rows.{row_of}
use Rattle.cp_families.specs.View.{row_before}
use Rattle.cp_families.proofs.RowLemmas.{behind}
use Rattle.cp_families.proofs.lists.take_rows.Given as goal

-- so many rows were read, stand where they lie, and leave the others to be read
abbrev pub invariant-loop : goal.invariant-loop
invariant-loop l = record {
  whole : l.cut.total ≡ l.fn.cut.total;
  within : 64 * l.counter ≤ length l.bytes;
  rest : l.cut.rest ≡ drop (64 * l.counter) l.bytes;
  so_far : family_rows_at l.count None l.bytes ≡ behind (map row_of (first_chunks 64 l.counter l.bytes)) (family_rows_at (l.count - l.counter) (row_before l.before) l.cut.rest);
}
