-- What reading the files of an audit gives.
use Rattle.std.specs.Prelude.{ℕ, ◌≡◌, ◌⊎◌, ◌≤◌, Bool, List, Option, Result, Ok, Err, IsTrue}
use Rattle.std.specs.Global.{Vec}
use Rattle.cp_tool.specs.AuditRuns as spec
use Rattle.cp_tool.specs.AuditRuns.{Input, AuditFiles, content_at, bytes_of, files_in, sources_of}
use Rattle.cp_commands.specs.AuditWords.{AuditWords}
use Rattle.cp_endings.specs.Folders.{Files, Stops, KeepsAll}
use Rattle.cp_endings.specs.Inputs.{StopsAtFault}
use Rattle.cp_endings.specs.View.{ending_view}
use Rattle.cp_endings.specs.declared.ending.Ending.{Ending}
use Rattle.cp_tool.specs.declared.audit_sources.Sources.{Sources}

abbrev pub GivesBytes : Option Input → Option (List ℕ) → ℕ → ℕ → Result (Vec ℕ) Ending → Type 0
GivesBytes input content before now (Ok bytes) = bytes_of input content ≡ Ok bytes.items
GivesBytes input content before now (Err ending) = (bytes_of input content ≡ Err (ending_view ending)) ⊎ Stops before now (ending_view ending)

-- some content was read, which is the file's where the folder tells its files
pub record ReadsSource (tells : Bool) (file : List ℕ → Option (List ℕ)) (input : Option Input) (before now : ℕ) (result : Result (Vec ℕ) Ending) : Type 0 where
  pub content : Option (List ℕ)
  pub told : IsTrue tells → content ≡ content_at file input
  pub gives : GivesBytes input content before now result
  pub later : before ≤ now
  pub failed : StopsAtFault before now result

abbrev pub sources_view : ℕ → Sources → spec.Sources
sources_view epoch s = record {
  material = record { key = s.key.items; epoch = epoch; families = s.families.items; before = s.before.items; closing = s.closing.items; table_before = s.table_before.items; table = s.table.items; log = s.log.items };
  hand_ins = s.hand_ins.items;
}

abbrev pub GivesSources : AuditWords → AuditFiles → ℕ → ℕ → Result Sources Ending → Type 0
GivesSources words files before now (Ok s) = sources_of words files ≡ Ok (sources_view words.epoch s)
GivesSources words files before now (Err ending) = (sources_of words files ≡ Err (ending_view ending)) ⊎ Stops before now (ending_view ending)

-- a folder whose files stay, and whose count of failed reads does not fall
pub record Follows (old new : Files) : Type 0 where
  pub kept : KeepsAll old new
  pub tells : new.tells ≡ old.tells
  pub later : old.read_faults ≤ new.read_faults

-- some contents were read, which are the files' where the folder tells its files
pub record ReadsSources (words : AuditWords) (old new : Files) (result : Result Sources Ending) : Type 0 where
  pub files : AuditFiles
  pub are_files : IsTrue old.tells → files ≡ files_in old.file words
  pub gives : GivesSources words files old.read_faults new.read_faults result
  pub follows : Follows old new
  pub failed : StopsAtFault old.read_faults new.read_faults result
