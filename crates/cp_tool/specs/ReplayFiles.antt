-- The files that a replay writes (this project's own).
use Rattle.std.specs.Prelude.{ℕ, ◌+◌, ◌≡◌, ◌⊎◌, List, [], ◌∷◌, ◌++◌, codes}
use Rattle.cp_replay.specs.Replay as replay
use Rattle.cp_replay.specs.declared.epoch_files.EpochFiles.{EpochFiles}
use Rattle.cp_endings.specs.EpochFiles.{epoch_file}
use Rattle.cp_endings.specs.Writes.{FileWrite, write_of}
use Rattle.cp_endings.specs.declared.epoch_part.EpochPart.{EpochPart}
use Rattle.cp_endings.specs.declared.epoch_part.EpochPart.TheVariants.{Families, Closing, Table, Log}

-- ---- which files, in the order in which they are written

-- the files of a closed epoch
abbrev pub epoch_writes : ℕ → EpochFiles → List FileWrite
epoch_writes epoch x = write_of (epoch_file Families epoch) x.families ∷ (write_of (epoch_file Closing epoch) x.closing ∷ (write_of (epoch_file Table epoch) x.table ∷ (write_of (epoch_file Log epoch) x.log ∷ [])))

-- those of the closed epochs from this one on
unfoldable pub epochs_writes : ℕ → List EpochFiles → List FileWrite
epochs_writes epoch [] = []
epochs_writes epoch (x ∷ xs) = epoch_writes epoch x ++ epochs_writes (epoch + 1) xs

abbrev pub writes_of : replay.ReplayFiles → List FileWrite
writes_of x = write_of (codes "store.key") x.key ∷ (write_of (codes "handins") x.handins ∷ epochs_writes 1 x.epochs)

-- the name of a file that some replay writes
abbrev pub IsReplayFile : List ℕ → Type 0
IsReplayFile name =
    (name ≡ codes "store.key") ⊎ (name ≡ codes "handins") ⊎ ((part : EpochPart) × (epoch : ℕ) × (name ≡ epoch_file part epoch))
