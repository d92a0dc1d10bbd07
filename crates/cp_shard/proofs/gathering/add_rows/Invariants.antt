use Rattle.std.proofs.Common.{ℕ, ◌++◌, List, take}
use Rattle.cp_core.specs.declared.item.Item.{Item}
use Rattle.cp_shard.specs.Gathered.{Gathers, AreNextRows}
use Rattle.cp_shard.proofs.gathering.add_rows.Given as goal

abbrev pub invariant-loop-i : goal.invariant-loop-i
invariant-loop-i l = (k n : ℕ) (front : List Item) → AreNextRows k n front l.rows l.row_tips → Gathers front n l.initial.blocks → Gathers (front ++ take l.i l.rows) n l.blocks
