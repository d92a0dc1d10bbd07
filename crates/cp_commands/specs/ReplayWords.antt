-- The words of `replay` (this project's own). Files are named by lists of bytes.
use Rattle.std.specs.Prelude.{ℕ, List}
use Rattle.lms_ots.specs.declared.ots_type.OtsType.{OtsType}
use Rattle.lms_tree.specs.declared.height.Height.{Height}
use Rattle.cp_commands.specs.declared.by.By.{By}

-- the files of the store's seed and of the script, the store's key and the pages of its shards, and what
-- serves it
pub record ReplayWords : Type 0 where
  pub seed : List ℕ
  pub height : Height
  pub ots : OtsType
  pub pages : ℕ  -- 0 to 65,536
  pub script : List ℕ
  pub by : By
