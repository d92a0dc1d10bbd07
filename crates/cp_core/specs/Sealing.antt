-- The table and the closing at an epoch's end (this project's own).
use Rattle.std.specs.Prelude.{ℕ, ◌+◌, ◌-◌, List, [], ◌∷◌, length, map, get_or, Result, Ok, Err, nat_lt, ◌==◌, if◌then◌else◌, filter, sum_by, flat_map}
use Rattle.sha2.specs.Sha256.{sha256}
use Rattle.cp_bytes.specs.Hashes.{zero_hash}
use Rattle.cp_statements.specs.Closing.{Closing, closing_text}
use Rattle.cp_statements.specs.Entry.{Entry, entry_of}
use Rattle.cp_tips.specs.Table.{TableRow, table_text}
use Rattle.cp_core.specs.Store.{Store}
use Rattle.cp_core.specs.Life.{RowItem, rows_in, list_text, is_up_to_epoch, cut, items_of}
use Rattle.cp_core.specs.declared.chronicle.Chronicle.{Chronicle}
use Rattle.cp_core.specs.declared.seal_item.SealItem.{SealItem}

abbrev pub insert_block : ℕ → List ℕ → List ℕ
insert_block b [] = b ∷ []
insert_block b (c ∷ cs) = if nat_lt b c then b ∷ (c ∷ cs) else (if b == c then c ∷ cs else c ∷ insert_block b cs)

abbrev pub block_read : Result Entry ℕ → List ℕ → List ℕ
block_read (Ok e) bs = insert_block e.block bs
block_read (Err left) bs = bs

-- the blocks of some rows, ascending, each once
abbrev pub blocks_of : List RowItem → List ℕ
blocks_of [] = []
blocks_of (r ∷ rs) = block_read (entry_of r.entry) (blocks_of rs)

-- all blocks with an entry up to the epoch
abbrev pub blocks_up_to : Chronicle → ℕ → List ℕ
blocks_up_to r n = blocks_of (filter (is_up_to_epoch n) (flat_map rows_in r.shards))

-- each of them with its tip at the epoch's end
unfoldable pub table_at : Chronicle → ℕ → List TableRow
table_at r n = map (λ b. record { block = b; tip = cut (items_of r b) b n }) (blocks_up_to r n)

-- the link of the next closing: the digest of the last one's text
abbrev pub link_after : List SealItem → List ℕ
link_after [] = zero_hash
link_after (x ∷ []) = sha256 x.text
link_after (x ∷ y ∷ xs) = link_after (y ∷ xs)

-- the text of the epoch's families list, which is one in all shards
abbrev pub families_at : Store → Chronicle → ℕ → List ℕ
families_at s r n = list_text s.families (get_or r.shards 0 []) n

unfoldable pub closing_at : Store → Chronicle → ℕ → Closing
closing_at s r n = record {
  store = s.id;
  epoch = n;
  link = link_after r.seals;
  families = sha256 (families_at s r n);
  table = sha256 (table_text (table_at r n));
  rows = length (table_at r n);
  entries = sum_by (λ x. x.tip.count) (table_at r n);
}

-- the seal of the epoch
unfoldable pub seal_at : Store → Chronicle → ℕ → SealItem
seal_at s r n = record { epoch = n; leaf = s.attestations + (n - 1); text = closing_text (closing_at s r n); table = table_text (table_at r n); families = families_at s r n }
