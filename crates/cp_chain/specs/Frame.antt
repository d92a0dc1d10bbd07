-- Where a segment stands (this project's own).
use Rattle.std.specs.Prelude.{ℕ, List}
use Rattle.cp_tips.specs.Tip.{Tip}
use Rattle.cp_families.specs.Families.{FamilyRow}

-- what is fixed before its first text: the store's id, the families list of its epoch, its epoch, its
-- block, and the block's tip at the end of the epoch before
pub record Side : Type 0 where
  pub store : List ℕ
  pub families : List FamilyRow
  pub epoch : ℕ
  pub block : ℕ
  pub before : Tip

-- that, and the block's tip at the epoch's end
pub record Frame : Type 0 where
  pub side : Side
  pub after : Tip
