-- The words of the client's commands (this project's own). Files are named by lists of bytes.
use Rattle.std.specs.Prelude.{ℕ, List}
use Rattle.lms_ots.specs.declared.ots_type.OtsType.{OtsType}
use Rattle.lms_tree.specs.declared.height.Height.{Height}

-- the numbers of a call
pub record CallWords : Type 0 where
  pub epoch : ℕ  -- at least 1
  pub block : ℕ
  pub client : ℕ
  pub nonce : ℕ

-- of `ask-put`: the files of the writer's seed, the store's key and the content, and the one to write
pub record PutWords : Type 0 where
  pub seed : List ℕ
  pub height : Height
  pub ots : OtsType
  pub store : List ℕ
  pub call : CallWords
  pub version : ℕ
  pub content : List ℕ
  pub out : List ℕ

-- of `ask-get`: the file of the store's key, and the one to write
pub record GetWords : Type 0 where
  pub store : List ℕ
  pub call : CallWords
  pub out : List ℕ

-- of `accept`: the files of the store's key, the request and the reply, and the two to write
pub record AcceptWords : Type 0 where
  pub store : List ℕ
  pub request : List ℕ
  pub reply : List ℕ
  pub out : List ℕ
  pub content : List ℕ
