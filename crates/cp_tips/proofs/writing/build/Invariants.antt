use Rattle.std.proofs.Common.{◌≡◌, ◌++◌}
use Rattle.std.specs.Prelude.{flat_map}
use Rattle.cp_tips.specs.Table.{row_text, table_text}
use Rattle.cp_tips.specs.Tips.{rows_of}
use Rattle.cp_tips.proofs.writing.build.Given as goal

-- the rows that were written, and those that are left
abbrev pub invariant-loop-block : goal.invariant-loop-block
invariant-loop-block l = l.text.items ++ flat_map row_text (rows_of l.block-iterator) ≡ table_text (rows_of l.tips.entries)
