-- What reading three input files gives, one after another.
use Rattle.std.specs.Prelude.{ℕ, ◌≡◌, ◌⊎◌, ◌≤◌, List, Option, Result, Ok, Err}
use Rattle.cp_bytes.specs.Fields.{◌>>=◌}
use Rattle.cp_endings.specs.Endings.{Outcome}
use Rattle.cp_endings.specs.Folders.{Files, input_of, Stops, IsFile}
use Rattle.cp_endings.specs.Inputs.{StopsAtFault}
use Rattle.cp_endings.specs.View.{ending_view}
use Rattle.cp_endings.specs.declared.ending.Ending.{Ending}
use Rattle.cp_endings.specs.declared.three.Input as code
use Rattle.cp_endings.specs.declared.three.ThreeFiles.{ThreeFiles}

-- a file's name and the most bytes that it may have
pub record Input : Type 0 where
  pub name : List ℕ
  pub limit : ℕ

pub record Three : Type 0 where
  pub first : List ℕ
  pub second : List ℕ
  pub third : List ℕ

-- their bytes, or how the command ends at the first that is refused
abbrev pub three_of : Option (List ℕ) → Input → Option (List ℕ) → Input → Option (List ℕ) → Input → Result Three Outcome
three_of a_file a b_file b c_file c = do
  first ← input_of a_file a.name a.limit
  second ← input_of b_file b.name b.limit
  third ← input_of c_file c.name c.limit
  Ok (record { first = first; second = second; third = third })

-- ---- what the code gives

abbrev pub input_view : code.Input → Input
input_view input = record { name = input.name.now; limit = input.limit }

abbrev pub three_view : ThreeFiles → Three
three_view files = record { first = files.first.items; second = files.second.items; third = files.third.items }

abbrev pub GivesThree : Result Three Outcome → ℕ → ℕ → Result ThreeFiles Ending → Type 0
GivesThree three before now (Ok files) = three ≡ Ok (three_view files)
GivesThree three before now (Err ending) = (three ≡ Err (ending_view ending)) ⊎ Stops before now (ending_view ending)

-- some contents were read, which are the files' where the folder tells its files
pub record ReadsThree (a b c : Input) (old new : Files) (result : Result ThreeFiles Ending) : Type 0 where
  pub first_file : Option (List ℕ)
  pub second_file : Option (List ℕ)
  pub third_file : Option (List ℕ)
  pub first_is : IsFile old a.name first_file
  pub second_is : IsFile old b.name second_file
  pub third_is : IsFile old c.name third_file
  pub gives : GivesThree (three_of first_file a second_file b third_file c) old.read_faults new.read_faults result
  pub later : old.read_faults ≤ new.read_faults
  pub failed : StopsAtFault old.read_faults new.read_faults result

-- the same of three inputs, as the code has them
abbrev pub ReadsThreeOf : code.Input → code.Input → code.Input → Files → Files → Result ThreeFiles Ending → Type 0
ReadsThreeOf a b c old new result = ReadsThree (input_view a) (input_view b) (input_view c) old new result
