use Rattle.std.proofs.Common.{◌≡◌, None, drop}
use Rattle.std.specs.Prelude.{map}
use Rattle.cp_tips.specs.Rows.{row_of}
use Rattle.cp_tips.proofs.Judging.{fine_from}
use Rattle.cp_tips.proofs.table.TableText.well_formed.Given as goal

-- the rows that are left decide
abbrev pub invariant-loop-row : goal.invariant-loop-row
invariant-loop-row l = fine_from None l.entries (map row_of l.row-items) ≡ fine_from l.before l.left (map row_of (drop l.row-index l.row-items))
