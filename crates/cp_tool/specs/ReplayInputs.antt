-- What the steps of `replay` give.
use Rattle.std.specs.Prelude.{ℕ, ◌≡◌, ◌⊎◌, List, Option, Result, Ok, Err}
use Rattle.cp_outside.specs.Causes.{Rose}
use Rattle.cp_outside.specs.declared.failures.Failed.{Failed}
use Rattle.cp_replay.specs.Replay as replay
use Rattle.cp_replay.specs.View.{replayed_view}
use Rattle.cp_replay.specs.declared.replayed.Replayed.{Replayed}
use Rattle.cp_endings.specs.Endings.{Outcome, fault, no_memory}
use Rattle.cp_endings.specs.Folders.{Files, KeepsAll, Stops, IsFile}
use Rattle.cp_endings.specs.Inputs.{StopsAtFault}
use Rattle.cp_tool.specs.ReplayFiles.{writes_of}
use Rattle.cp_endings.specs.Writes.{FileWrite, WritesAll, StopsAt}
use Rattle.cp_tool.specs.ReplayRuns.{replay_in, replay_made}
use Rattle.cp_commands.specs.ReplayWords.{ReplayWords}
use Rattle.cp_endings.specs.View.{ending_view}
use Rattle.cp_endings.specs.declared.ending.Ending.{Ending}

-- the replay of these bytes, or how the command ends without one
abbrev pub GivesReplay : ReplayWords → List ℕ → List ℕ → Result Replayed Ending → Type 0
GivesReplay words seed script (Ok done) = replay_in words seed script ≡ Ok (replayed_view done)
GivesReplay words seed script (Err ending) = (replay_in words seed script ≡ Err (ending_view ending)) ⊎ (ending_view ending ≡ no_memory)

-- the replay of the files' bytes, or how the command ends without one
abbrev pub GivesMade : Result replay.ReplayFiles Outcome → ℕ → ℕ → Result Replayed Ending → Type 0
GivesMade made before now (Ok done) = made ≡ Ok (replayed_view done)
GivesMade made before now (Err ending) = (made ≡ Err (ending_view ending)) ⊎ Stops before now (ending_view ending)

-- some contents were read, which are the files' where the folder tells its files
pub record MakesReplay (words : ReplayWords) (old new : Files) (result : Result Replayed Ending) : Type 0 where
  pub seed_file : Option (List ℕ)
  pub script_file : Option (List ℕ)
  pub seed_is : IsFile old words.seed seed_file
  pub script_is : IsFile old words.script script_file
  pub gives : GivesMade (replay_made words seed_file script_file) old.read_faults new.read_faults result
  pub failed : StopsAtFault old.read_faults new.read_faults result

-- all files were written, or those before one whose write failed
abbrev pub WritesFiles : List FileWrite → Files → Files → Result (Unit {0}) Failed → Type 0
WritesFiles writes old new (Ok done) = WritesAll writes old new
WritesFiles writes old new (Err failed) = Rose old.write_faults new.write_faults × StopsAt writes old new

-- its files were written, or those before one whose write failed, or memory was wanted before them
abbrev pub WritesReplay : Replayed → Files → Files → Result (Unit {0}) Ending → Type 0
WritesReplay done old new (Ok written) = WritesAll (writes_of (replayed_view done)) old new
WritesReplay done old new (Err ending) = ((ending_view ending ≡ fault) × Rose old.write_faults new.write_faults × StopsAt (writes_of (replayed_view done)) old new) ⊎ ((ending_view ending ≡ no_memory) × KeepsAll old new)
