-- The rows of a table where they lie in its bytes, 88 for each (this project's own).
use Rattle.std.specs.Prelude.{ℕ, Bool, true, List, Option, Some, None, take, drop, nat_lt}
use Rattle.std.specs.Int.{w64, from_be_bytes}
use Rattle.cp_tips.specs.Tip.{Tip}
use Rattle.cp_tips.specs.Table.{TableRow}

-- the tip that the bytes after the block are
abbrev pub tip_of : List ℕ → Tip
tip_of bytes = record { count = from_be_bytes w64 (take 8 (drop 8 bytes)); version = from_be_bytes w64 (take 8 (drop 16 bytes)); content = take 32 (drop 24 bytes); head = take 32 (drop 56 bytes) }

-- the row that these 88 bytes are
abbrev pub row_of : List ℕ → TableRow
row_of bytes = record { block = from_be_bytes w64 (take 8 bytes); tip = tip_of bytes }

-- the block is greater than the one before
abbrev pub comes_behind : Option ℕ → ℕ → Bool
comes_behind None block = true
comes_behind (Some before) block = nat_lt before block
