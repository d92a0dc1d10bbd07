-- A folder as contracts see it, its input files, and where a command stops (this project's own).
use Rattle.std.specs.Prelude.{ℕ, ◌≡◌, ◌≢◌, ◌⊎◌, Bool, List, length, Option, Some, None, Result, Ok, Err, nat_lt, if◌then◌else◌, IsTrue}
use Rattle.cp_outside.specs.Causes.{Rose}
use Rattle.cp_outside.specs.declared.folders.Folder as folder
use Rattle.cp_endings.specs.Endings.{Outcome, missing, too_long, fault, no_memory}

-- a folder, as its contract sees it
pub record Files : Type 0 where
  pub tells : Bool
  pub file : List ℕ → Option (List ℕ)
  pub read_faults : ℕ
  pub write_faults : ℕ

module _ {F : Type 0} (g : folder.Ghosts F) where
  abbrev pub files_of : F → Files
  files_of f = record {
    tells = g.tells f;
    file = g.file f;
    read_faults = g.read_faults f;
    write_faults = g.write_faults f;
  }

-- the bytes of an input file of this name and limit, or how the command ends without them
abbrev pub input_of : Option (List ℕ) → List ℕ → ℕ → Result (List ℕ) Outcome
input_of None name limit = Err (missing name)
input_of (Some bytes) name limit = if nat_lt limit (length bytes) then Err (too_long limit) else Ok bytes

-- a step that ends the command, or its last step
abbrev pub ending_of : Result Outcome Outcome → Outcome
ending_of (Ok ending) = ending
ending_of (Err ending) = ending

-- a read failed, by the count before it and now, or memory was wanted
abbrev pub Stops : ℕ → ℕ → Outcome → Type 0
Stops before now ending = ((ending ≡ fault) × Rose before now) ⊎ (ending ≡ no_memory)

-- a read or a write of the folder failed, by the counts before and now
abbrev pub FolderFailed : Files → Files → Type 0
FolderFailed old new = Rose old.read_faults new.read_faults ⊎ Rose old.write_faults new.write_faults

-- All files stay as they were, but for those of the name, if there is one.
abbrev pub KeepsAll : Files → Files → Type 0
KeepsAll old new = (name : List ℕ) → new.file name ≡ old.file name

abbrev pub KeepsOthers : List ℕ → Files → Files → Type 0
KeepsOthers out old new = (name : List ℕ) → name ≢ out → new.file name ≡ old.file name

-- what the folder gave as a file is the file, where it tells its files
abbrev pub IsFile : Files → List ℕ → Option (List ℕ) → Type 0
IsFile files name content = IsTrue files.tells → content ≡ files.file name

-- Either the count of failed reads stays, or the command ended at one with a fault and all files are as
-- before.
abbrev pub ReadsFirst : Files → Files → Outcome → Type 0
ReadsFirst old new ending = (new.read_faults ≡ old.read_faults) ⊎ ((ending ≡ fault) × KeepsAll old new)
