-- The words of `certify` and `forgery` (this project's own). Files are named by lists of bytes.
use Rattle.std.specs.Prelude.{ℕ, List}
use Rattle.lms_ots.specs.declared.ots_type.OtsType.{OtsType}
use Rattle.lms_tree.specs.declared.height.Height.{Height}

-- the file of the operator's seed, the heights of the top tree and of the life's tree, their one-time
-- type, the life's number, and the files of the operator's key, the certificate and the life's seed
pub record CertifyWords : Type 0 where
  pub seed : List ℕ
  pub top : Height
  pub height : Height
  pub ots : OtsType
  pub life : ℕ
  pub key : List ℕ
  pub certificate : List ℕ
  pub out : List ℕ

-- the file of a key's seed, its height and one-time type, and the files of what it signed, of a text and
-- of a signature on it
pub record ForgeryWords : Type 0 where
  pub seed : List ℕ
  pub height : Height
  pub ots : OtsType
  pub signed : List ℕ
  pub text : List ℕ
  pub signature : List ℕ
