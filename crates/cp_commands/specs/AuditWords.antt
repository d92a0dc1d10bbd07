-- The words of `audit` (this project's own). Files are named by lists of bytes.
use Rattle.std.specs.Prelude.{ℕ, List}

-- the files of the store's key and of the hand-ins, and the one that is written where it is guilty
pub record AuditWords : Type 0 where
  pub key : List ℕ
  pub epoch : ℕ  -- at least 1
  pub hand_ins : List ℕ
  pub out : List ℕ
