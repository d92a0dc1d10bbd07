-- What the life of an honest store is, and what was signed and hashed in it (this project's own).
use Rattle.std.specs.Prelude.{ℕ, ◌+◌, ◌-◌, ◌<◌, ◌≤◌, ◌≡◌, ◌⊎◌, true, List, [], ◌∷◌, ◌++◌, length, get_or, Option, Some, None, Ok, ◌==◌, if◌then◌else◌, sum_by, Contains}
use Rattle.sha2.specs.Sha256.{sha256}
use Rattle.cp_bytes.specs.Hashes.{zero_hash, genesis, chain_texts}
use Rattle.cp_statements.specs.Attestation.{attestation_text}
use Rattle.cp_statements.specs.Closing.{Closing, closing_text, ClosingFits}
use Rattle.cp_statements.specs.Entry.{Entry, entry_text, EntryFits}
use Rattle.cp_tips.specs.Tip.{Tip}
use Rattle.cp_tips.specs.Table.{TableRow, row_in, ascends, table_of}
use Rattle.cp_chain.specs.Each.{Each}
use Rattle.cp_chain.specs.Frame.{Side, Frame}
use Rattle.cp_chain.specs.Legal.{Legal}
use Rattle.cp_core.specs.Store.{Store, SpellsFamilies, list_at}
use Rattle.cp_core.specs.Life.{RowItem, row_item, freezes, list_text, rows_of, in_epoch, entries, cut, shard_of, items_of}
use Rattle.cp_core.specs.Calls.{attested, head_of}
use Rattle.cp_core.specs.declared.item.Item.{Item}
use Rattle.cp_core.specs.declared.item.Item.TheVariants.{Row, Frozen}
use Rattle.cp_core.specs.declared.seal_item.SealItem.{SealItem}
use Rattle.cp_core.specs.declared.chronicle.Chronicle.{Chronicle}

-- ---- one shard

-- the text spells this entry
pub record SpellsEntry (text : List ℕ) (e : Entry) : Type 0 where
  pub spelled : text ≡ entry_text e
  pub fits : EntryFits e

-- The row stands rightly behind these items of shard k: its text spells an entry of a block of the
-- shard, in the epoch after the freezes, at the position after the block's rows.
pub record IsRowOf (k : ℕ) (front : List Item) (r : RowItem) : Type 0 where
  pub entry : Entry
  pub spells : SpellsEntry r.entry entry
  pub shard : shard_of entry.block ≡ k
  pub epoch : entry.epoch ≡ freezes front + 1
  pub position : entry.position ≡ length (rows_of front entry.block)

-- the item does; the freezes carry 1, 2, .. in order, with lists that spell families
abbrev pub IsItemOf : ℕ → List Item → Item → Type 0
IsItemOf k front (Row pass leaf pages entry) = IsRowOf k front (record { pass = pass; leaf = leaf; pages = pages; entry = entry })
IsItemOf k front (Frozen n next) = (n ≡ freezes front + 1) × SpellsFamilies next

-- where the rows of a block in an epoch stand
abbrev pub epoch_side : Store → List Item → ℕ → ℕ → Side
epoch_side s items b n = record { store = s.id; families = list_at s.families items n; epoch = n; block = b; before = cut items b (n - 1) }

abbrev pub epoch_frame : Store → List Item → ℕ → ℕ → Frame
epoch_frame s items b n = record { side = epoch_side s items b n; after = cut items b n }

-- each item stands rightly, and the rows of each block and epoch are legal between its tips
pub record HonestShard (s : Store) (k : ℕ) (items : List Item) : Type 0 where
  pub each : Each (IsItemOf k) items
  pub legal : (b n : ℕ) → Legal (epoch_frame s items b n) (entries (in_epoch items b n))

-- ---- the seals

abbrev pub counted : Tip → Option Tip
counted tip = if tip.count == 0 then None else Some tip

-- the table is just the tips at the end of epoch n of all blocks with a count
pub record IsTable (r : Chronicle) (n : ℕ) (rows : List TableRow) : Type 0 where
  pub ascending : ascends rows ≡ true
  pub each : (b : ℕ) → row_in rows b ≡ counted (cut (items_of r b) b n)

-- the link of the seal behind this one
abbrev pub link_behind : Option SealItem → List ℕ
link_behind None = zero_hash
link_behind (Some x) = sha256 x.text

abbrev pub last_of : {A : Type 0} → List A → Option A
last_of [] = None
last_of (x ∷ []) = Some x
last_of (x ∷ y ∷ xs) = last_of (y ∷ xs)

-- The seal stands rightly behind these seals: the next epoch, which all shards have frozen, the next
-- leaf, the epoch's list in each shard, the table of the tips, and the closing of all of it.
pub record IsSealOf (s : Store) (r : Chronicle) (front : List SealItem) (x : SealItem) : Type 0 where
  pub epoch : x.epoch ≡ length front + 1
  pub leaf : x.leaf ≡ s.attestations + length front
  pub families : (k : ℕ) → k < 16 → x.families ≡ list_text s.families (get_or r.shards k []) x.epoch
  pub rows : List TableRow
  pub is_table : IsTable r x.epoch rows
  pub table : table_of x.table ≡ Ok rows
  pub closing : Closing
  pub closing_is : closing ≡ record { store = s.id; epoch = x.epoch; link = link_behind (last_of front); families = sha256 x.families; table = sha256 x.table; rows = length rows; entries = sum_by (λ t. t.tip.count) rows }
  pub text : x.text ≡ closing_text closing
  pub fits : ClosingFits closing
  pub frozen : (k : ℕ) → k < 16 → x.epoch ≤ freezes (get_or r.shards k [])

-- ---- the whole

-- There are sixteen shards, and each item of each stands rightly in it. The leaves of the rows may be any.
pub record StandsRightly (r : Chronicle) : Type 0 where
  pub sixteen : length r.shards ≡ 16
  pub each : (k : ℕ) → k < 16 → Each (IsItemOf k) (get_or r.shards k [])

-- the row lies in shard k, behind these items
abbrev pub RowAt : Chronicle → ℕ → List Item → RowItem → Type 0
RowAt r k front row = (k < 16) × (back : List Item) × (get_or r.shards k [] ≡ front ++ row_item row ∷ back)

-- all shards that froze epoch n have one list for the epoch after it
abbrev pub ListsAgree : Store → Chronicle → ℕ → Type 0
ListsAgree s r n = (k l : ℕ) → k < 16 → l < 16 → n ≤ freezes (get_or r.shards k []) → n ≤ freezes (get_or r.shards l []) → list_text s.families (get_or r.shards k []) (n + 1) ≡ list_text s.families (get_or r.shards l []) (n + 1)

-- Sixteen honest shards with the same lists, whose rows have different leaves below the number for
-- attestations, and at most as many right seals as there are leaves for closings.
pub record Honest (s : Store) (r : Chronicle) : Type 0 where
  pub sixteen : length r.shards ≡ 16
  pub shards : (k : ℕ) → k < 16 → HonestShard s k (get_or r.shards k [])
  pub lists_agree : (n : ℕ) → ListsAgree s r n
  pub leaves_differ : (k₁ : ℕ) (front₁ : List Item) (row₁ : RowItem) (k₂ : ℕ) (front₂ : List Item) (row₂ : RowItem) → RowAt r k₁ front₁ row₁ → RowAt r k₂ front₂ row₂ → row₁.leaf ≡ row₂.leaf → (k₁ ≡ k₂) × (front₁ ≡ front₂)
  pub leaves_below : (k : ℕ) (front : List Item) (row : RowItem) → RowAt r k front row → row.leaf < s.attestations
  pub seals : Each (IsSealOf s r) r.seals
  pub within : length r.seals ≤ s.closings

-- ---- what was signed

-- a row's leaf, and its attestation's text
pub record SignedRow (s : Store) (r : Chronicle) (leaf : ℕ) (text : List ℕ) : Type 0 where
  pub shard : ℕ
  pub front : List Item
  pub row : RowItem
  pub entry : Entry
  pub at : RowAt r shard front row
  pub spells : SpellsEntry row.entry entry
  pub leaf_is : leaf ≡ row.leaf
  pub text_is : text ≡ attestation_text (attested s.id (head_of front entry.block) entry)

-- The same among one shard's items: a row has the leaf, and its attestation the text.
pub record IsSignedIn (store : List ℕ) (items : List Item) (leaf : ℕ) (text : List ℕ) : Type 0 where
  pub front : List Item
  pub row : RowItem
  pub back : List Item
  pub entry : Entry
  pub at : items ≡ front ++ row_item row ∷ back
  pub spells : SpellsEntry row.entry entry
  pub leaf_is : leaf ≡ row.leaf
  pub text_is : text ≡ attestation_text (attested store (head_of front entry.block) entry)

-- a seal's leaf, and its closing's text
pub record SignedSeal (r : Chronicle) (leaf : ℕ) (text : List ℕ) : Type 0 where
  pub front : List SealItem
  pub seal : SealItem
  pub back : List SealItem
  pub at : r.seals ≡ front ++ seal ∷ back
  pub leaf_is : leaf ≡ seal.leaf
  pub text_is : text ≡ seal.text

-- the leaf signed the text in this life
abbrev pub Signed : Store → Chronicle → ℕ → List ℕ → Type 0
Signed s r leaf text = SignedRow s r leaf text ⊎ SignedSeal r leaf text

-- ---- what was hashed

pub record HashedChain (r : Chronicle) (text : List ℕ) : Type 0 where
  pub block : ℕ
  pub within : Contains (chain_texts (genesis block) (entries (rows_of (items_of r block) block))) text

pub record HashedSeal (r : Chronicle) (text : List ℕ) : Type 0 where
  pub front : List SealItem
  pub seal : SealItem
  pub back : List SealItem
  pub at : r.seals ≡ front ++ seal ∷ back
  pub which : (text ≡ seal.text) ⊎ ((text ≡ seal.table) ⊎ (text ≡ seal.families))

-- the text is a chain text, a closing, a table or a families list of this life
abbrev pub Hashed : Chronicle → List ℕ → Type 0
Hashed r text = HashedChain r text ⊎ HashedSeal r text
