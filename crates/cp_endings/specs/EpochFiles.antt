-- The names of the files of an epoch's material (this project's own).
use Rattle.std.specs.Prelude.{ℕ, List, ◌++◌, codes, decimal}
use Rattle.cp_endings.specs.declared.epoch_part.EpochPart.{EpochPart}
use Rattle.cp_endings.specs.declared.epoch_part.EpochPart.TheVariants.{Families, Closing, Table, Log}

abbrev pub part_label : EpochPart → List ℕ
part_label Families = codes "families-"
part_label Closing = codes "closing-"
part_label Table = codes "table-"
part_label Log = codes "log-"

-- as "closing-7"
abbrev pub epoch_file : EpochPart → ℕ → List ℕ
epoch_file part epoch = part_label part ++ decimal epoch
