-- The table at an epoch's end, as its rows are found (this project's own).
use Rattle.std.specs.Prelude.{ℕ, ◌≡◌, List, [], map, get_or, filter, flat_map}
use Rattle.cp_tips.specs.Table.{TableRow}
use Rattle.cp_tips.specs.Tips.{rows_of}
use Rattle.cp_tips.specs.declared.tip.Tip.{Tip}
use Rattle.cp_core.specs.Life.{RowItem, rows_in, is_up_to_epoch, cut, shard_of}
use Rattle.cp_core.specs.Sealing.{blocks_of}
use Rattle.cp_core.specs.declared.item.Item.{Item}

-- the row of a block at the end of epoch n
abbrev pub block_row : List (List Item) → ℕ → ℕ → TableRow
block_row shards n b = record { block = b; tip = cut (get_or shards (shard_of b) []) b n }

-- the map holds the tips of the blocks of these rows
abbrev pub HoldsTips : List (List Item) → ℕ → List RowItem → List (ℕ × Tip) → Type 0
HoldsTips shards n rows entries = rows_of entries ≡ map (block_row shards n) (blocks_of rows)

-- the rows of an epoch up to n among the items, and in all shards
abbrev pub rows_up_to : ℕ → List Item → List RowItem
rows_up_to n items = filter (is_up_to_epoch n) (rows_in items)

abbrev pub all_up_to : ℕ → List (List Item) → List RowItem
all_up_to n shards = filter (is_up_to_epoch n) (flat_map rows_in shards)
