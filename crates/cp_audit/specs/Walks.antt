-- Places in a table that is walked up.
use Rattle.std.specs.Prelude.{ℕ, ◌<◌, ◌≤◌, List, length, get_or}
use Rattle.cp_tips.specs.Table.{TableRow}
use Rattle.cp_evidence.specs.Material.{blocks_in}

-- the rows before the place are below the block
abbrev pub AreBelow : List TableRow → ℕ → ℕ → Type 0
AreBelow rows block place = (k : ℕ) → k < place → get_or (blocks_in rows) k 0 < block

-- the place of the first row that is not below the block, or the end where there is none
pub record IsPlace (rows : List TableRow) (block place : ℕ) : Type 0 where
  pub within : place ≤ length rows
  pub below : AreBelow rows block place
  pub stops : place < length rows → block ≤ get_or (blocks_in rows) place 0
