-- How `replay` ends, over the files of its folder (this project's own).
use Rattle.std.specs.Prelude.{ℕ, ◌≡◌, ◌⊎◌, List, length, Option, Result, Ok, Err, nat_lt, if◌then◌else◌}
use Rattle.cp_bytes.specs.Fields.{◌>>=◌}
use Rattle.cp_outside.specs.Causes.{Rose}
use Rattle.cp_replay.specs.Replay as replay
use Rattle.cp_replay.specs.Replay.{Making, replayed}
use Rattle.cp_replay.specs.Script.{script_of}
use Rattle.cp_replay.specs.declared.line.Line.{Line}
use Rattle.cp_endings.specs.Endings.{Outcome, short_seed, malformed, printed, fault}
use Rattle.cp_endings.specs.Folders.{Files, input_of, Stops, KeepsAll, IsFile, ReadsFirst}
use Rattle.cp_tool.specs.ReplayFiles.{IsReplayFile, writes_of}
use Rattle.cp_endings.specs.Writes.{WritesAll, StopsAt}
use Rattle.cp_commands.specs.ReplayWords.{ReplayWords}

-- what the store is made with
abbrev pub making : ReplayWords → List ℕ → Making
making words seed = record { height = words.height; ots = words.ots; seed = seed; pages = words.pages }

abbrev pub replay_by : ReplayWords → List ℕ → Result (List Line) ℕ → Result replay.ReplayFiles Outcome
replay_by words seed (Ok lines) = Ok (replayed (making words seed) lines)
replay_by words seed (Err at) = Err (malformed at)

-- the replay of these bytes: the seed is judged, and then the script; whatever serves the store, it is the same
abbrev pub replay_in : ReplayWords → List ℕ → List ℕ → Result replay.ReplayFiles Outcome
replay_in words seed script = if nat_lt (length seed) 48 then Err short_seed else replay_by words seed (script_of script)

-- a seed of 48 bytes and a script of at most 1 MiB, which are read first
abbrev pub replay_made : ReplayWords → Option (List ℕ) → Option (List ℕ) → Result replay.ReplayFiles Outcome
replay_made words seed_file script_file = do
  seed ← input_of seed_file words.seed 48
  script ← input_of script_file words.script 1048576
  replay_in words seed script

-- Its files were written and its lines are printed; or a write failed, after those before it; or an
-- input was refused and nothing was written.
abbrev pub WrittenEnds : Result replay.ReplayFiles Outcome → Files → Files → Outcome → Type 0
WrittenEnds (Ok x) old new ending = ((ending ≡ printed x.text) × WritesAll (writes_of x) old new) ⊎ ((ending ≡ fault) × Rose old.write_faults new.write_faults × StopsAt (writes_of x) old new)
WrittenEnds (Err refusal) old new ending = (ending ≡ refusal) × KeepsAll old new

-- Where the command stops before its writes, for want of memory or at a fault of a read, all files stay.
pub record ReplayEnds (words : ReplayWords) (old new : Files) (ending : Outcome) : Type 0 where
  pub seed_file : Option (List ℕ)
  pub script_file : Option (List ℕ)
  pub seed_is : IsFile old words.seed seed_file
  pub script_is : IsFile old words.script script_file
  pub ends : WrittenEnds (replay_made words seed_file script_file) old new ending ⊎ (Stops old.read_faults new.read_faults ending × KeepsAll old new)
  pub others : (name : List ℕ) → ¬ IsReplayFile name → new.file name ≡ old.file name
  pub reads_first : ReadsFirst old new ending
