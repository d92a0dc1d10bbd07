-- A block's tip as its shard's items come (this project's own).
use Rattle.std.specs.Prelude.{ℕ, ◌+◌, ◌<◌, ◌≡◌, Bool, false, ◌&&◌, List, length, get_or, Option, Some, None, Result, Ok, Err, nat_le, ◌==◌, if◌then◌else◌}
use Rattle.cp_bytes.specs.Hashes.{head}
use Rattle.cp_statements.specs.Entry.{Entry, entry_of}
use Rattle.cp_tips.specs.Tip.{Tip}
use Rattle.cp_chain.specs.Each.{Each}
use Rattle.cp_chain.specs.Legal.{ok_and}
use Rattle.cp_core.specs.Life.{RowItem, row_item, rows_of, entries, tip_after}
use Rattle.cp_core.specs.Honest.{IsItemOf}
use Rattle.cp_core.specs.Requests.{block_of, client_of, nonce_of}
use Rattle.cp_core.specs.Calls.{found}
use Rattle.cp_core.specs.declared.request.Request.{Request}
use Rattle.cp_core.specs.declared.item.Item.{Item}
use Rattle.cp_core.specs.declared.item.Item.TheVariants.{Row, Frozen}

-- the tip with one more entry of the block, and its text
unfoldable pub tip_with : Tip → Entry → List ℕ → Tip
tip_with t e text = record {
  count = t.count + 1;
  version = if e.kind == 1 then e.version else t.version;
  content = if e.kind == 1 then e.content else t.content;
  head = head t.head text;
}

abbrev pub tip_with_read : ℕ → ℕ → Tip → List ℕ → Result Entry ℕ → Tip
tip_with_read b n t text (Err left) = t
tip_with_read b n t text (Ok e) = if (e.block == b) && nat_le e.epoch n then tip_with t e text else t

-- with one more item of the shard: a row counts where it is of the block and of an epoch up to n
unfoldable pub tip_with_item : ℕ → ℕ → Tip → Item → Tip
tip_with_item b n t (Row pass leaf pages entry) = tip_with_read b n t entry (entry_of entry)
tip_with_item b n t (Frozen e next) = t

-- the tip now
unfoldable pub tip_of : List Item → ℕ → Tip
tip_of items b = tip_after b (entries (rows_of items b))

-- the items stand rightly as those of some shard
abbrev pub Stands : List Item → Type 0
Stands items = (k : ℕ) × Each (IsItemOf k) items

-- ---- tests of an item

-- it is a put of the block
abbrev pub item_puts_block : ℕ → Item → Bool
item_puts_block b (Row pass leaf pages entry) = ok_and (entry_of entry) (λ e. (e.kind == 1) && (e.block == b))
item_puts_block b (Frozen e next) = false

-- it is an entry of the request's block, client and nonce, in this epoch
abbrev pub item_is_call : Request → ℕ → Item → Bool
item_is_call request n (Row pass leaf pages entry) = ok_and (entry_of entry) (λ e. (e.block == block_of request) && ((e.epoch == n) && ((e.client == client_of request) && (e.nonce == nonce_of request))))
item_is_call request n (Frozen e next) = false

-- the row that the call made before lies at this place
abbrev pub IsFoundAt : List Item → Request → Option ℕ → Type 0
IsFoundAt items request None = found items request ≡ None
IsFoundAt items request (Some i) = (i < length items) × (r : RowItem) × (found items request ≡ Some r) × (get_or items i (row_item r) ≡ row_item r)

-- a row with this leaf and text lies at this place
abbrev pub IsRowAt : List Item → ℕ → ℕ → List ℕ → Type 0
IsRowAt items i leaf text = (i < length items) × (r : RowItem) × (get_or items i (row_item r) ≡ row_item r) × (r.leaf ≡ leaf) × (r.entry ≡ text)
