-- The keys of a replay and its store (this project's own).
use Rattle.std.specs.Prelude.{ℕ, ◌/◌, List, ◌++◌, take, drop, codes, nat_lt, if◌then◌else◌}
use Rattle.sha2.specs.Sha256.{sha256}
use Rattle.lms_ots.specs.declared.ots_type.OtsType.{OtsType}
use Rattle.lms_ots.specs.declared.ots_type.OtsType.TheVariants.{W4}
use Rattle.lms_tree.specs.declared.height.Height.{Height}
use Rattle.lms_tree.specs.declared.height.Height.TheVariants.{H10}
use Rattle.lms_tree.specs.Secret.{Secret}

-- the store's key, by its seed file: SEED of 32 bytes and I of 16
abbrev pub store_secret : Height → OtsType → List ℕ → Secret
store_secret height ots seed = record { height = height; ots = ots; id = take 16 (drop 32 seed); seed = take 32 seed }

-- the one key that signs all puts of a replay, by the store's seed file
abbrev pub writer_secret : List ℕ → Secret
writer_secret seed = record { height = H10; ots = W4; id = take 16 (sha256 (codes "CPri" ++ seed)); seed = sha256 (codes "CPrw" ++ seed) }

-- how many of so many leaves, the last ones, are for closings: a sixteenth, and at least four
abbrev pub closings_in : ℕ → ℕ
closings_in leaves = if nat_lt (leaves / 16) 4 then 4 else leaves / 16
