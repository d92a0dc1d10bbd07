-- The rows of a families list where they lie in its bytes, 64 for each (this project's own).
use Rattle.std.specs.Prelude.{ℕ, ◌≡◌, true, List, take, drop, None}
use Rattle.std.specs.Int.{w32, from_be_bytes}
use Rattle.std.specs.List.{AllByRecursion}
use Rattle.lms_tree.specs.PublicKey.{key_reads}
use Rattle.cp_families.specs.Families.{FamilyRow, family_ascends}

-- the row that these 64 bytes are
abbrev pub row_of : List ℕ → FamilyRow
row_of bytes = record { family = from_be_bytes w32 (take 4 bytes); client = from_be_bytes w32 (take 4 (drop 4 bytes)); key = drop 8 bytes }

-- what every list that was read has: its rows ascend, and each key reads
pub record IsListed (rows : List FamilyRow) : Type 0 where
  pub ascends : family_ascends None rows ≡ true
  pub keys_read : AllByRecursion (λ r. key_reads r.key ≡ true) rows
