use Rattle.std.proofs.Common.{◌≡◌, ◌-◌, ◌++◌, List, length, drop}
use Rattle.cp_core.specs.Life.{RowItem}
use Rattle.cp_core.specs.Sealing.{blocks_of}
use Rattle.cp_store.specs.Logs.{rows_at}
use Rattle.cp_store.proofs.log.add_items.Given as goal

abbrev pub invariant-loop-i : goal.invariant-loop-i
invariant-loop-i l = (rest : List RowItem) → l.initial.blocks.keys ≡ blocks_of rest → l.blocks.keys ≡ blocks_of (rows_at l.epoch (drop (length l.items - l.i) l.items) ++ rest)
