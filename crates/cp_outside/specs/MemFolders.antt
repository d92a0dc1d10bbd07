-- The form in memory of a folder, and what its calls do (this project's own).
use Rattle.std.specs.Prelude.{◌≡◌, ℕ, ◌+◌, ◌-◌, List, [], ◌∷◌, ◌++◌, length, take, drop, min, Option, Some, None, Result, Ok, Err, IsSomeAnd, if◌then◌else◌, sum_by}
use Rattle.std.specs.Str.{bytes_eq}
use Rattle.cp_outside.specs.Causes.{one_more}
use Rattle.cp_outside.specs.Schedules.{CallPlan, after_call}
use Rattle.cp_outside.specs.declared.folders.FolderFault.{FolderFault}
use Rattle.cp_outside.specs.declared.folders.FolderFault.TheVariants.{Missing, Failed}

-- One write into a folder.
pub record Written : Type 0 where
  pub name : List ℕ
  pub content : List ℕ

-- The writes into a folder that succeeded, in order, which may fill `room`.
pub record Writes : Type 0 where
  pub all : List Written
  pub room : ℕ

-- A folder: the writes that succeeded, in order, which may fill `room`.
pub record FolderState : Type 0 where
  pub writes : List Written
  pub room : ℕ
  pub plan : CallPlan
  pub read_faults : ℕ
  pub write_faults : ℕ

-- How much of the room a write fills.
abbrev pub size_of : Written → ℕ
size_of write = 64 + length write.name + length write.content

-- How much of the room these writes fill. What was overwritten is not given back.
abbrev pub size_of_all : List Written → ℕ
size_of_all writes = sum_by size_of writes

-- The file of a name after these writes, from what there was before them: a write hides what was
-- written under its name before.
unfoldable pub file_after : Option (List ℕ) → List Written → List ℕ → Option (List ℕ)
file_after before [] name = before
file_after before (write ∷ writes) name =
    file_after (if bytes_eq write.name name then Some write.content else before) writes name

-- What a read answers and makes of a folder: it gives as many bytes of the file as there are from
-- `at` on and fit, and leaves every file.
abbrev pub FolderReads : FolderState → FolderState → List ℕ → ℕ → List ℕ → Result ℕ FolderFault → Type 0
FolderReads old new name at into (Ok n) =
    IsSomeAnd (file_after None old.writes name)
    (λ file. (n ≡ min (length into) (length file - at)) × (take n into ≡ take n (drop at file)))
    × (new ≡ record old { plan = after_call old.plan })
FolderReads old new name at into (Err Missing) =
    (file_after None old.writes name ≡ None) × (new ≡ record old { plan = after_call old.plan })
FolderReads old new name at into (Err Failed) =
    new ≡ record old { plan = after_call old.plan; read_faults = one_more old.read_faults }

-- What a write makes of a folder. Where it fails, all files are as before.
abbrev pub FolderWrites : {T E : Type 0} → FolderState → FolderState → List ℕ → List ℕ → Result T E → Type 0
FolderWrites old new name bytes (Ok value) =
    new ≡ record old { writes = old.writes ++ record { name = name; content = bytes } ∷ []; plan = after_call old.plan }
FolderWrites old new name bytes (Err fault) =
    new ≡ record old { plan = after_call old.plan; write_faults = one_more old.write_faults }
