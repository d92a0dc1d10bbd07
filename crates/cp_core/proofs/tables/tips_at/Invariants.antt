use Rattle.std.proofs.Common.{◌-◌, length, drop}
use Rattle.cp_core.specs.Tables.{HoldsTips, all_up_to}
use Rattle.cp_core.proofs.tables.tips_at.Given as goal

abbrev pub invariant-loop-i : goal.invariant-loop-i
invariant-loop-i l = HoldsTips l.shards l.through (all_up_to l.through (drop (length l.shards - l.i) l.shards)) l.tips.entries
