-- How a block stands (this project's own).
use Rattle.std.specs.Prelude.{ℕ, Bool, ◌&&◌, List, ◌==◌, bytes_eq}
use Rattle.cp_bytes.specs.Hashes.{zero_hash, genesis}

-- the number of its entries, its latest version and that version's content hash, its chain's head
pub record Tip : Type 0 where
  pub count : ℕ
  pub version : ℕ
  pub content : List ℕ
  pub head : List ℕ

-- a block that was never written or read
abbrev pub fresh : ℕ → Tip
fresh block = record { count = 0; version = 0; content = zero_hash; head = genesis block }

abbrev pub same_tip : Tip → Tip → Bool
same_tip a b = (a.count == b.count) && ((a.version == b.version) && (bytes_eq a.content b.content && bytes_eq a.head b.head))
