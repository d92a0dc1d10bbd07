-- What reading an input file gives.
use Rattle.std.specs.Prelude.{ℕ, ◌≡◌, ◌⊎◌, ◌≤◌, Bool, List, Option, Result, Ok, Err, IsTrue}
use Rattle.std.specs.Global.{Vec}
use Rattle.cp_outside.specs.declared.folders.Folder as folder
use Rattle.cp_endings.specs.Endings.{fault}
use Rattle.cp_endings.specs.Folders.{input_of, Stops}
use Rattle.cp_endings.specs.View.{ending_view}
use Rattle.cp_endings.specs.declared.ending.Ending.{Ending}

abbrev pub GivesInput : Option (List ℕ) → List ℕ → ℕ → ℕ → ℕ → Result (Vec ℕ) Ending → Type 0
GivesInput content name limit before now (Ok bytes) = input_of content name limit ≡ Ok bytes.items
GivesInput content name limit before now (Err ending) = (input_of content name limit ≡ Err (ending_view ending)) ⊎ Stops before now (ending_view ending)

-- the count of failed reads stays, or the step ends the command with a fault
abbrev pub StopsAtFault : {A : Type 0} → ℕ → ℕ → Result A Ending → Type 0
StopsAtFault before now (Ok x) = now ≡ before
StopsAtFault before now (Err ending) = (now ≡ before) ⊎ (ending_view ending ≡ fault)

-- some content was read, which is the file's where the folder tells its files
pub record ReadsInput (tells : Bool) (file : Option (List ℕ)) (name : List ℕ) (limit before now : ℕ) (result : Result (Vec ℕ) Ending) : Type 0 where
  pub content : Option (List ℕ)
  pub told : IsTrue tells → content ≡ file
  pub gives : GivesInput content name limit before now result
  pub later : before ≤ now
  pub failed : StopsAtFault before now result

-- the same of a folder, as its contract sees it before and after
module _ {F : Type 0} (g : folder.Ghosts F) where
  abbrev pub ReadsFrom : F → F → List ℕ → ℕ → Result (Vec ℕ) Ending → Type 0
  ReadsFrom old new name limit result = ReadsInput (g.tells old) (g.file old name) name limit (g.read_faults old) (g.read_faults new) result
