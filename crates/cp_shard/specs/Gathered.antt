-- What a shard keeps of each row for the end of its epoch, and what is gathered of an epoch's rows.
use Rattle.std.specs.Prelude.{ℕ, ◌≡◌, ◌+◌, ◌<◌, ◌≤◌, List, [], ◌∷◌, ◌++◌, length, map, take, get_or, filter, Option, Some, None, Result, Ok, Err, cond}
use Rattle.std.specs.List.{list_any}
use Rattle.std.specs.Option.{option_map}
use Rattle.std.specs.BTreeMap.{BTreeMap, get}
use Rattle.std.specs.Ordering.{nat_cmp}
use Rattle.cp_statements.specs.Entry.{Entry, entry_of}
use Rattle.cp_chain.specs.Each.{Each}
use Rattle.cp_core.specs.Life.{RowItem, row_item, rows_in, is_of_block, is_of_epoch}
use Rattle.cp_core.specs.Calls.{epoch_now}
use Rattle.cp_core.specs.Frozen.{Gained, gained_view, tip_from, frozen_block, blocks_in}
use Rattle.cp_core.specs.Honest.{IsItemOf}
use Rattle.cp_core.specs.declared.item.Item.{Item}
use Rattle.cp_core.specs.declared.item.Item.TheVariants.{Row, Frozen}
use Rattle.cp_core.specs.declared.frozen_block.FrozenBlock.{FrozenBlock}
use Rattle.cp_shard.specs.declared.row_tip.RowTip.{RowTip}
use Rattle.cp_shard.specs.Kept.{tip_of}

-- ---- the tip of a row's block after the row

abbrev pub block_in : Result Entry ℕ → ℕ
block_in (Ok e) = e.block
block_in (Err left) = 0

abbrev pub row_block : RowItem → ℕ
row_block r = block_in (entry_of r.entry)

-- of a row behind these items
abbrev pub row_tip : List Item → RowItem → RowTip
row_tip front r = record { block = row_block r; tip = tip_from (tip_of (front ++ row_item r ∷ []) (row_block r)) }

abbrev pub tips_by : List Item → Item → List RowTip
tips_by front (Row pass leaf pages entry) = row_tip front (record { pass = pass; leaf = leaf; pages = pages; entry = entry }) ∷ []
tips_by front (Frozen n next) = []

-- of each row among the items behind these
abbrev pub row_tips : List Item → List Item → List RowTip
row_tips front [] = []
row_tips front (x ∷ xs) = tips_by front x ++ row_tips (front ++ x ∷ []) xs

-- ---- the numbers of the rows before each freeze

-- where so many came before
abbrev pub row_counts : ℕ → List Item → List ℕ
row_counts n [] = []
row_counts n (Row pass leaf pages entry ∷ xs) = row_counts (n + 1) xs
row_counts n (Frozen epoch next ∷ xs) = n ∷ row_counts n xs

-- both are kept, with room for so many freezes
pub record KeepsRows (items : List Item) (tips : List RowTip) (counts : List ℕ) (closings room : ℕ) : Type 0 where
  pub tips_are : tips ≡ row_tips [] items
  pub counts_are : counts ≡ row_counts 0 items
  pub has_room : closings ≤ room

-- ---- the blocks of an epoch

-- what the map has of a block
abbrev pub held_at : BTreeMap ℕ FrozenBlock → ℕ → Option Gained
held_at blocks b = option_map gained_view (get nat_cmp blocks b)

-- with the text and the tip of one more row
abbrev pub with_text : Option Gained → RowTip → List ℕ → Gained
with_text None t text = record { block = t.block; after = t.tip; entries = text ∷ [] }
with_text (Some x) t text = record { block = x.block; after = t.tip; entries = x.entries ++ text ∷ [] }

-- what the items have of a block in an epoch; nothing where it has no entry there
abbrev pub gained_at : List Item → ℕ → ℕ → Option Gained
gained_at items n b = cond (list_any (is_of_block b) (filter (is_of_epoch n) (rows_in items))) (Some (frozen_block items n b)) None

-- the map has just the blocks of the epoch
abbrev pub Gathers : List Item → ℕ → BTreeMap ℕ FrozenBlock → Type 0
Gathers items n blocks = (b : ℕ) → held_at blocks b ≡ gained_at items n b

-- the item is a row of epoch n of shard k, behind these items, with what is kept of it
pub record IsNextRow (k n : ℕ) (front : List Item) (x : Item) (t : RowTip) : Type 0 where
  pub each : Each (IsItemOf k) (front ++ x ∷ [])
  pub now : n ≡ epoch_now front
  pub kept : tips_by front x ≡ t ∷ []

abbrev pub AreNextRows : ℕ → ℕ → List Item → List Item → List RowTip → Type 0
AreNextRows k n front xs ts = (i : ℕ) (x : Item) (t : RowTip) → i < length xs → IsNextRow k n (front ++ take i xs) (get_or xs i x) (get_or ts i t)

-- The list is what each block gained by the rows, ascending by block, where the rows are all those of
-- an epoch behind some items, and this is kept of them.
abbrev pub IsGathered : List FrozenBlock → List Item → List RowTip → Type 0
IsGathered list rows tips = (k n : ℕ) (front : List Item) → AreNextRows k n front rows tips → ((b : ℕ) → gained_at front n b ≡ None) → map gained_view list ≡ map (frozen_block (front ++ rows) n) (blocks_in (rows_in (front ++ rows)) n)
