use Rattle.std.proofs.Common.{◌-◌, ◌++◌, List, length, drop}
use Rattle.cp_core.specs.Life.{RowItem}
use Rattle.cp_core.specs.Tables.{HoldsTips, rows_up_to}
use Rattle.cp_core.proofs.tables.add_items.Given as goal

abbrev pub invariant-loop-i : goal.invariant-loop-i
invariant-loop-i l = (rest : List RowItem) → HoldsTips l.shards l.through rest l.initial.tips.entries → HoldsTips l.shards l.through (rows_up_to l.through (drop (length l.items - l.i) l.items) ++ rest) l.tips.entries
