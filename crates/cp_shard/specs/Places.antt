-- What the index of this epoch's calls says.
use Rattle.std.specs.Prelude.{ℕ, ◌≡◌, ◌≤◌, List, length, take, Option, Some, None, Ok}
use Rattle.std.specs.List.{find, slice_get}
use Rattle.std.specs.declared.cmp.Ordering.{Ordering}
use Rattle.std.specs.Ordering.{nat_cmp, ordering_then}
use Rattle.cp_bytes.specs.Hashes.{genesis, head_after}
use Rattle.cp_statements.specs.Entry.{Entry, entry_of}
use Rattle.cp_statements.specs.View.{attestation_view}
use Rattle.cp_chain.specs.Legal.{is_call}
use Rattle.cp_core.specs.Life.{RowItem, rows_of, in_epoch, entries}
use Rattle.cp_core.specs.Calls.{epoch_now, attested}
use Rattle.cp_core.specs.declared.item.Item.{Item}
use Rattle.cp_shard.specs.declared.key.Key.{Key}
use Rattle.cp_shard.specs.declared.call.Call.{Call}

-- by block, client and nonce
abbrev pub key_cmp : Key → Key → Ordering
key_cmp a b = ordering_then (nat_cmp a.block b.block) (ordering_then (nat_cmp a.client b.client) (nat_cmp a.nonce b.nonce))

-- the row of this epoch that has the key
abbrev pub found_at : List Item → Key → Option RowItem
found_at items k = find (λ r. is_call k.client k.nonce r.entry) (in_epoch items k.block (epoch_now items))

-- the head before an entry that stands in the life
abbrev pub head_before : List Item → Entry → List ℕ
head_before items e = head_after (genesis e.block) (take e.position (entries (rows_of items e.block)))

-- what is kept of the call with this key is what its row says
pub record IsCallAt (store : List ℕ) (items : List Item) (k : Key) (c : Call) : Type 0 where
  pub row : RowItem
  pub entry : Entry
  pub found : found_at items k ≡ Some row
  pub reads : entry_of row.entry ≡ Ok entry
  pub block : entry.block ≡ k.block
  pub stands : entry.position ≤ length (rows_of items entry.block)
  pub leaf : c.leaf ≡ row.leaf
  pub attestation : attestation_view c.attestation ≡ attested store (head_before items entry) entry

-- a key has a place just where a row has the key, and there lies what is kept of the call
abbrev pub IsPlace : List ℕ → List Item → List Call → Key → Option ℕ → Type 0
IsPlace store items calls k None = found_at items k ≡ None
IsPlace store items calls k (Some p) = (c : Call) × (slice_get calls p ≡ Some c) × IsCallAt store items k c

-- what is found of a call
abbrev pub IsCallOf : List ℕ → List Item → Key → Option Call → Type 0
IsCallOf store items k None = found_at items k ≡ None
IsCallOf store items k (Some c) = IsCallAt store items k c
