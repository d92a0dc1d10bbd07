-- What a shard hands over at an epoch's end (this project's own).
use Rattle.std.specs.Prelude.{ℕ, List, map, filter}
use Rattle.cp_tips.specs.Tip as spec
use Rattle.cp_tips.specs.declared.tip.Tip.{Tip}
use Rattle.cp_core.specs.Life.{RowItem, rows_in, is_of_epoch, in_epoch, entries, cut}
use Rattle.cp_core.specs.Sealing.{blocks_of}
use Rattle.cp_core.specs.declared.item.Item.{Item}
use Rattle.cp_core.specs.declared.frozen_block.FrozenBlock.{FrozenBlock}
use Rattle.cp_core.specs.declared.frozen_part.FrozenPart.{FrozenPart}

-- a block's entries of an epoch, and its tip at the epoch's end
pub record Gained : Type 0 where
  pub block : ℕ
  pub after : Tip
  pub entries : List (List ℕ)

-- a shard's blocks with an entry in an epoch
pub record Part : Type 0 where
  pub shard : ℕ
  pub epoch : ℕ
  pub blocks : List Gained

-- the code's values
abbrev pub gained_view : FrozenBlock → Gained
gained_view x = record { block = x.block; after = x.after; entries = x.entries.items }

abbrev pub part_view : FrozenPart → Part
part_view p = record { shard = p.shard; epoch = p.epoch; blocks = map gained_view p.blocks.items }

-- the tip as the code holds it
abbrev pub tip_from : spec.Tip → Tip
tip_from t = record { count = t.count; version = t.version; content = t.content; head = t.head }

-- the blocks with an entry in the epoch, ascending
abbrev pub blocks_in : List RowItem → ℕ → List ℕ
blocks_in rows n = blocks_of (filter (is_of_epoch n) rows)

abbrev pub frozen_block : List Item → ℕ → ℕ → Gained
frozen_block items n b = record { block = b; after = tip_from (cut items b n); entries = entries (in_epoch items b n) }

-- what shard k with these items hands over of the epoch
abbrev pub frozen_part : ℕ → List Item → ℕ → Part
frozen_part k items n = record { shard = k; epoch = n; blocks = map (frozen_block items n) (blocks_in (rows_in items) n) }
