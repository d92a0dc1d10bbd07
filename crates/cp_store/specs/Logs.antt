-- What the log of an epoch is made of (this project's own). No public clause cites this module.
use Rattle.std.specs.Prelude.{ℕ, List, [], get_or, filter}
use Rattle.cp_chain.specs.Log.{LogPart}
use Rattle.cp_core.specs.Life.{RowItem, rows_in, is_of_epoch, in_epoch, entries, shard_of}
use Rattle.cp_core.specs.declared.item.Item.{Item}

-- the rows of an epoch among the items
abbrev pub rows_at : ℕ → List Item → List RowItem
rows_at n items = filter (is_of_epoch n) (rows_in items)

-- the texts of a block's entries of an epoch
abbrev pub texts_at : List Item → ℕ → ℕ → List (List ℕ)
texts_at items b n = entries (in_epoch items b n)

-- the block's part of the log
abbrev pub part_at : List (List Item) → ℕ → ℕ → LogPart
part_at shards n b = record { block = b; texts = texts_at (get_or shards (shard_of b) []) b n }
