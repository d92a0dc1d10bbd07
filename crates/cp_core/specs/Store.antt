-- What a store is made with (this project's own).
use Rattle.std.specs.Prelude.{ℕ, ◌+◌, ◌≤◌, ◌^◌, ◌≡◌, List, [], length, Result, Ok, Err, IsOk}
use Rattle.cp_families.specs.Families.{FamilyRow, families_of}
use Rattle.cp_core.specs.Life.{list_text}
use Rattle.cp_core.specs.declared.item.Item.{Item}

pub record Store : Type 0 where
  pub id : List ℕ  -- SHA-256 of its key
  pub families : List ℕ  -- the text of its first families list, which is that of epoch 1
  pub attestations : ℕ  -- the number of leaves for attestations, which are the first ones
  pub closings : ℕ  -- the number of leaves for closings, which come after them
  pub pages : ℕ  -- the number of pages of each shard

-- the text spells a families list
abbrev pub SpellsFamilies : List ℕ → Type 0
SpellsFamilies text = IsOk (families_of text)

-- each of its numbers fits its field, as a leaf has a number of four bytes, and its first list spells
-- families
pub record StoreFits (s : Store) : Type 0 where
  pub id : length s.id ≡ 32
  pub leaves : s.attestations + s.closings ≤ 2 ^ 32
  pub list : SpellsFamilies s.families

abbrev pub or_nil : {A : Type 0} → Result (List A) ℕ → List A
or_nil (Ok xs) = xs
or_nil (Err e) = []

-- the rows of its first families list
unfoldable pub writers : Store → List FamilyRow
writers s = or_nil (families_of s.families)

-- the rows of the families list of epoch n in a shard with these items, behind this first list
unfoldable pub list_at : List ℕ → List Item → ℕ → List FamilyRow
list_at first items n = or_nil (families_of (list_text first items n))
