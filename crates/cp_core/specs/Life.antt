-- The life of a store as plain data, and what each block's rows are in it (this project's own).
use Rattle.std.specs.Prelude.{ℕ, ◌%◌, ◌-◌, Bool, List, [], ◌∷◌, length, map, get_or, Option, Some, None, nat_le, ◌==◌, filter, filter_map}
use Rattle.cp_bytes.specs.Hashes.{genesis, head_after}
use Rattle.cp_statements.specs.Entry.{entry_of}
use Rattle.cp_tips.specs.Tip.{Tip, fresh}
use Rattle.cp_chain.specs.Legal.{ok_and, put_at, latest}
use Rattle.cp_core.specs.declared.item.Item.{Item}
use Rattle.cp_core.specs.declared.item.Item.TheVariants.{Row, Frozen}
use Rattle.cp_core.specs.declared.chronicle.Chronicle.{Chronicle}

-- an entry's text, with the number of the one who called, the leaf that signs its attestation and the
-- pages of its content
pub record RowItem : Type 0 where
  pub pass : ℕ
  pub leaf : ℕ
  pub pages : ℕ
  pub entry : List ℕ

-- the end of an epoch, with the families list of the next one
pub record FreezeItem : Type 0 where
  pub epoch : ℕ
  pub next : List ℕ  -- the list's text

abbrev pub row_item : RowItem → Item
row_item r = Row r.pass r.leaf r.pages r.entry

abbrev pub freeze_item : FreezeItem → Item
freeze_item f = Frozen f.epoch f.next

abbrev pub as_row : Item → Option RowItem
as_row (Row pass leaf pages entry) = Some (record { pass = pass; leaf = leaf; pages = pages; entry = entry })
as_row (Frozen epoch next) = None

abbrev pub as_freeze : Item → Option FreezeItem
as_freeze (Row pass leaf pages entry) = None
as_freeze (Frozen epoch next) = Some (record { epoch = epoch; next = next })

abbrev pub rows_in : List Item → List RowItem
rows_in items = filter_map as_row items

-- how many freezes there are
abbrev pub freezes : List Item → ℕ
freezes items = length (filter_map as_freeze items)

-- the texts of the families lists of the epochs from the second on
abbrev pub nexts : List Item → List (List ℕ)
nexts items = map (λ f. f.next) (filter_map as_freeze items)

-- The text of the families list of epoch n, from 1: the first one, or the one that the freeze of the
-- epoch before brought.
unfoldable pub list_text : List ℕ → List Item → ℕ → List ℕ
list_text first items n = get_or (first ∷ nexts items) (n - 1) first

abbrev pub is_of_block : ℕ → RowItem → Bool
is_of_block b r = ok_and (entry_of r.entry) (λ e. e.block == b)

abbrev pub is_of_epoch : ℕ → RowItem → Bool
is_of_epoch n r = ok_and (entry_of r.entry) (λ e. e.epoch == n)

abbrev pub is_up_to_epoch : ℕ → RowItem → Bool
is_up_to_epoch n r = ok_and (entry_of r.entry) (λ e. nat_le e.epoch n)

-- a block's rows among the items of its shard: all, those of an epoch, those up to it
unfoldable pub rows_of : List Item → ℕ → List RowItem
rows_of items b = filter (is_of_block b) (rows_in items)

unfoldable pub in_epoch : List Item → ℕ → ℕ → List RowItem
in_epoch items b n = filter (is_of_epoch n) (rows_of items b)

unfoldable pub up_to : List Item → ℕ → ℕ → List RowItem
up_to items b n = filter (is_up_to_epoch n) (rows_of items b)

abbrev pub entries : List RowItem → List (List ℕ)
entries rows = map (λ r. r.entry) rows

-- the tip after a block's first texts
unfoldable pub tip_after : ℕ → List (List ℕ) → Tip
tip_after b texts = record {
  count = length texts;
  version = (latest (put_at (fresh b)) texts).version;
  content = (latest (put_at (fresh b)) texts).content;
  head = head_after (genesis b) texts;
}

-- the block's tip at the end of an epoch
abbrev pub cut : List Item → ℕ → ℕ → Tip
cut items b n = tip_after b (entries (up_to items b n))

-- the number of a block's shard, and its items
abbrev pub shard_of : ℕ → ℕ
shard_of b = b % 16

abbrev pub items_of : Chronicle → ℕ → List Item
items_of r b = get_or r.shards (shard_of b) []
