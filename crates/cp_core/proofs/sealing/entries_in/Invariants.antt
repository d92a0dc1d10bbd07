use Rattle.std.proofs.Common.{◌≡◌, ◌+◌}
use Rattle.std.specs.Prelude.{sum_by}
use Rattle.cp_tips.specs.Tips.{rows_of}
use Rattle.cp_core.proofs.sealing.entries_in.Given as goal

-- what was counted, and what is left
abbrev pub invariant-loop-tip : goal.invariant-loop-tip
invariant-loop-tip l = l.entries + sum_by (λ row. row.tip.count) (rows_of l.tip-iterator) ≡ sum_by (λ row. row.tip.count) (rows_of l.tips.entries)
