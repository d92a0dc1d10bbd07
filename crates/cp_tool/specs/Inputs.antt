-- What a seed file makes.
use Rattle.std.specs.Prelude.{ℕ, ◌≡◌, ◌⊎◌, ◌≤◌, ◌<◌, List, length, Result, Ok, Err}
use Rattle.lms_ots.specs.declared.ots_type.OtsType.{OtsType}
use Rattle.lms_tree.specs.declared.height.Height.{Height}
use Rattle.lms_tree.specs.Secret.{public_of}
use Rattle.cp_endings.specs.Endings.{short_seed, no_memory}
use Rattle.cp_endings.specs.View.{ending_view}
use Rattle.cp_endings.specs.declared.ending.Ending.{Ending}
use Rattle.cp_more.specs.Seeds.{secret_in}

-- what the bytes of a seed file make: the public key, or a refusal
abbrev pub MakesKey : Height → OtsType → List ℕ → Result (List ℕ) Ending → Type 0
MakesKey height ots bytes (Ok key) = (48 ≤ length bytes) × (key ≡ public_of (secret_in height ots bytes))
MakesKey height ots bytes (Err ending) = ((length bytes < 48) × (ending_view ending ≡ short_seed)) ⊎ (ending_view ending ≡ no_memory)
