-- An operator's private key and the lives of a store under it. How a life's seed and identifier are
-- made of the operator's is this project's own; the rest is RFC 8554, section 6.
use Rattle.std.specs.Prelude.{ℕ, ◌^◌, List, ◌++◌, take, codes}
use Rattle.std.specs.Int.{w32, to_be_bytes}
use Rattle.sha2.specs.Sha256.{sha256}
use Rattle.lms_ots.specs.declared.ots_type.OtsType.{OtsType}
use Rattle.lms_tree.specs.declared.height.Height.{Height}
use Rattle.lms_tree.specs.Parameters.{levels_of}
use Rattle.lms_tree.specs.Secret.{Secret, public_of, signature}
use Rattle.lms_hss.specs.Hss.{joined}

-- what an operator's key is made of: the heights of the top tree and of each life's tree, the
-- one-time type of both, the top tree's identifier I and the seed
pub record HssSecret : Type 0 where
  pub top : Height
  pub bottom : Height
  pub ots : OtsType
  pub id : List ℕ
  pub seed : List ℕ

-- the top tree
abbrev pub top_of : HssSecret → Secret
top_of key = record { height = key.top; ots = key.ots; id = key.id; seed = key.seed }

-- how many lives there are
abbrev pub lives_of : HssSecret → ℕ
lives_of key = 2 ^ levels_of key.top

-- the operator's public key
abbrev pub hss_public : HssSecret → List ℕ
hss_public key = to_be_bytes w32 2 ++ public_of (top_of key)

-- ---- lives

-- the seed of life a
unfoldable pub life_seed : HssSecret → ℕ → List ℕ
life_seed key a = sha256 (codes "CPhs" ++ key.id ++ to_be_bytes w32 a ++ key.seed)

-- the identifier of life a
unfoldable pub life_id : HssSecret → ℕ → List ℕ
life_id key a = take 16 (sha256 (codes "CPhi" ++ key.id ++ to_be_bytes w32 a ++ key.seed))

-- the bottom tree of life a
abbrev pub life_of : HssSecret → ℕ → Secret
life_of key a = record { height = key.bottom; ots = key.ots; id = life_id key a; seed = life_seed key a }

-- the seed file of life a: its seed and its identifier
abbrev pub life_seed_file : HssSecret → ℕ → List ℕ
life_seed_file key a = life_seed key a ++ life_id key a

-- the top tree's signature, by its leaf a, of the public key of life a
abbrev pub life_signed : HssSecret → ℕ → List ℕ
life_signed key a = signature (top_of key) a (public_of (life_of key a))

-- the certificate of life a
unfoldable pub certificate : HssSecret → ℕ → List ℕ
certificate key a = joined (life_signed key a) (public_of (life_of key a))
