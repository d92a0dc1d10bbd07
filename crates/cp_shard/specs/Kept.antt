-- What the parts of a shard keep of its items.
use Rattle.std.specs.Prelude.{ℕ, ◌≡◌, ◌+◌, ◌-◌, ◌≤◌, List, length, None}
use Rattle.std.specs.BTreeMap.{BTreeMap, get}
use Rattle.cp_statements.specs.Entry.{Entry}
use Rattle.cp_statements.specs.Attestation.{Attestation}
use Rattle.cp_tips.specs.Tip.{Tip}
use Rattle.cp_chain.specs.Each.{Each}
use Rattle.cp_chain.specs.Legal.{put_by}
use Rattle.cp_core.specs.Life.{rows_of, freezes, entries, tip_after, shard_of}
use Rattle.cp_core.specs.Calls.{epoch_now, latest_of, head_of, attested}
use Rattle.cp_core.specs.Honest.{IsItemOf, SpellsEntry}
use Rattle.cp_core.specs.declared.item.Item.{Item}
use Rattle.cp_pages.specs.Pages.{Pages}
use Rattle.cp_shard.specs.declared.key.Key.{Key}
use Rattle.cp_shard.specs.declared.call.Call.{Call}
use Rattle.cp_shard.specs.declared.standing.Standing.{Standing}
use Rattle.cp_shard.specs.Places.{key_cmp, found_at, IsPlace}
use Rattle.cp_shard.specs.Standings.{tip_at, run_at}
use Rattle.cp_shard.specs.Contents.{HasContents}

-- the block's tip over its whole life
abbrev pub tip_of : List Item → ℕ → Tip
tip_of items b = tip_after b (entries (rows_of items b))

pub record ShardKeeps (store : List ℕ) (index pages closings epoch room : ℕ) (items : List Item) (calls : List Call) (standings : BTreeMap ℕ Standing) (places : BTreeMap Key ℕ) (pool : Pages) : Type 0 where
  pub each : Each (IsItemOf index) items
  pub epoch_is : epoch ≡ epoch_now items
  pub tips_are : (b : ℕ) → tip_at standings b ≡ tip_of items b
  pub places_are : (k : Key) → IsPlace store items calls k (get key_cmp places k)
  pub has_contents : HasContents items pages (run_at standings) pool
  pub froze : freezes items ≤ closings
  pub has_room : length items + (closings - freezes items) ≤ room

abbrev pub key_of : Entry → Key
key_of e = record { block = e.block; client = e.client; nonce = e.nonce }

-- The text spells an entry that may be the shard's next one, and the attestation is its own.
pub record IsNext (store : List ℕ) (index : ℕ) (items : List Item) (a : Attestation) (text : List ℕ) : Type 0 where
  pub entry : Entry
  pub spells : SpellsEntry text entry
  pub attestation : a ≡ attested store (head_of items entry.block) entry
  pub shard : shard_of entry.block ≡ index
  pub epoch : entry.epoch ≡ epoch_now items
  pub position : entry.position ≡ length (rows_of items entry.block)
  pub is_new : found_at items (key_of entry) ≡ None
  pub get : entry.kind ≡ 2 → put_by entry ≡ latest_of items entry.block
