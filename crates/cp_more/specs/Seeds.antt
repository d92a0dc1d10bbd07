-- What a seed file of 48 bytes makes: SEED of 32 bytes and I of 16 (this project's own).
use Rattle.std.specs.Prelude.{ℕ, List, take, drop}
use Rattle.lms_ots.specs.declared.ots_type.OtsType.{OtsType}
use Rattle.lms_tree.specs.declared.height.Height.{Height}
use Rattle.lms_tree.specs.Secret.{Secret}

abbrev pub secret_in : Height → OtsType → List ℕ → Secret
secret_in height ots bytes = record { height = height; ots = ots; id = take 16 (drop 32 bytes); seed = take 32 bytes }
