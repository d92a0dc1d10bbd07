-- What the statuses of `judge` and `verify` say (this project's own).
use Rattle.std.specs.Prelude.{ℕ, ◌≡◌, false, List, IsTrue}
use Rattle.lms_tree.specs.PublicKey.{key_reads}
use Rattle.lms_tree.specs.Verifying.{verifies}
use Rattle.cp_evidence.specs.Conditions.{Convicts}
pub use Rattle.cp_endings.specs.Exactly.{ExactlyWhere, Unless}

-- of a key and evidence that were within their limits
pub record JudgeStatus (key evidence : List ℕ) (status : ℕ) : Type 0 where
  pub guilty : ExactlyWhere status 0 (Convicts key evidence)
  pub innocent : ExactlyWhere status 1 (IsTrue (key_reads key) × ¬ Convicts key evidence)
  pub refused : ExactlyWhere status 3 (key_reads key ≡ false)

-- of a key, a text and a signature that were within their limits
pub record VerifyStatus (key text signature : List ℕ) (status : ℕ) : Type 0 where
  pub valid : ExactlyWhere status 0 (IsTrue (verifies key text signature))
  pub invalid : ExactlyWhere status 1 (IsTrue (key_reads key) × (verifies key text signature ≡ false))
  pub refused : ExactlyWhere status 3 (key_reads key ≡ false)
