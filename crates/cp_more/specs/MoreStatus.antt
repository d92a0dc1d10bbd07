-- What the statuses of `certify`, `judge-life` and `forgery` say (this project's own).
use Rattle.std.specs.Prelude.{ℕ, ◌≡◌, ◌≢◌, [], false, List, length, None, Ok, IsTrue}
use Rattle.lms_hss.specs.Hss.{certifies, life_key}
use Rattle.lms_tree.specs.Secret.{Secret, leaves_of}
use Rattle.lms_forge.specs.Forgery.{IsForged}
use Rattle.cp_evidence.specs.Conditions.{Convicts}
use Rattle.cp_commands.specs.MoreWords.{CertifyWords}
use Rattle.cp_endings.specs.Exactly.{ExactlyWhere}
use Rattle.cp_endings.specs.Folders.{Files}
use Rattle.cp_endings.specs.Writes.{WritesAll}
use Rattle.cp_more.specs.Certifying.{life_made, life_writes}
use Rattle.cp_more.specs.Pairs.{clash, pairs_of}

-- of an operator's seed file that was within its limit: with 0 the operator's key, the certificate and the
-- seed of the life were written, and no other file
pub record CertifyStatus (words : CertifyWords) (seed : List ℕ) (old new : Files) (status : ℕ) : Type 0 where
  pub made : ExactlyWhere status 0 (length seed ≡ 48)
  pub refused : ExactlyWhere status 3 (length seed ≢ 48)
  pub written : status ≡ 0 → WritesAll (life_writes words (life_made words seed)) old new

-- of an operator's key, a certificate and evidence that were within their limits
pub record JudgeLifeStatus (key certificate evidence : List ℕ) (status : ℕ) : Type 0 where
  pub guilty : ExactlyWhere status 0 (IsTrue (certifies key certificate) × Convicts (life_key key certificate) evidence)
  pub innocent : ExactlyWhere status 1 (IsTrue (certifies key certificate) × ¬ Convicts (life_key key certificate) evidence)
  pub refused : ExactlyWhere status 3 (certifies key certificate ≡ false)

-- the bytes are a list of what the key signed, one text for each leaf
pub record Listed (key : Secret) (bytes : List ℕ) : Type 0 where
  pub pairs : List (ℕ × List ℕ)
  pub read : pairs_of (leaves_of key) bytes ≡ Ok pairs
  pub one_text : clash [] pairs ≡ None

-- of a list, a text and a signature that were within their limits: with 0 the witness that is printed is
-- true, by the law on forgeries
pub record ForgeryStatus (key : Secret) (signed text sig : List ℕ) (status : ℕ) : Type 0 where
  pub forged : ExactlyWhere status 0 ((x : Listed key signed) × IsForged (record { key = key; texts = x.pairs }) text sig)
  pub not_forged : ExactlyWhere status 1 ((x : Listed key signed) × ¬ IsForged (record { key = key; texts = x.pairs }) text sig)
  pub refused : ExactlyWhere status 3 (¬ Listed key signed)
