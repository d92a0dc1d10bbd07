use Rattle.std.proofs.Common.{◌≡◌, drop}
use Rattle.std.specs.List.{list_any}
use Rattle.cp_core.specs.Calls.{puts_block}
use Rattle.cp_core.specs.Life.{rows_in}
use Rattle.cp_core.proofs.pages.any_puts_block.Given as goal

abbrev pub invariant-loop-item : goal.invariant-loop-item
invariant-loop-item l = list_any (puts_block l.block) (rows_in (drop l.item-index l.items)) ≡ list_any (puts_block l.block) (rows_in l.items)
