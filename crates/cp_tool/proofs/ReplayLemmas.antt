-- How `replay` ends, from what its steps gave.
use Rattle.std.proofs.Common.{◌≡◌, ◌⊎◌, inl, inr, ℕ, ◌≤◌, true, false, List, Option, Result, Ok, Err, length, refl, sym, ap, ◌∙◌, arith}
use Rattle.std.specs.Prelude.{nat_lt}
use Rattle.std.specs.Global.{Vec}
use Rattle.std.proofs.lemmas.Bool.{le-ltb}
use Rattle.cp_replay.specs.Replay as replay
use Rattle.cp_replay.specs.Replay.{replayed}
use Rattle.cp_replay.specs.Script.{script_of}
use Rattle.cp_replay.specs.View.{replayed_view}
use Rattle.cp_replay.specs.declared.line.Line.{Line}
use Rattle.cp_replay.specs.declared.replayed.Replayed.{Replayed}
use Rattle.cp_endings.specs.Endings.{printed}
use Rattle.cp_endings.specs.Folders.{Files, KeepsAll, Stops, input_of}
use Rattle.cp_endings.specs.Inputs.{ReadsInput, StopsAtFault}
use Rattle.cp_tool.specs.ReplayFiles.{IsReplayFile, writes_of}
use Rattle.cp_endings.specs.Writes.{StopsAt, WritesAll, content_after}
use Rattle.cp_tool.specs.ReplayInputs.{GivesReplay, GivesMade, MakesReplay, WritesReplay}
use Rattle.cp_tool.specs.ReplayRuns.{ReplayEnds, WrittenEnds, making, replay_in, replay_made}
use Rattle.cp_commands.specs.ReplayWords.{ReplayWords}
use Rattle.cp_endings.specs.View.{ending_view}
use Rattle.cp_endings.specs.declared.ending.Ending.{Ending}
use Rattle.cp_endings.specs.declared.ending.Ending.TheVariants.{ShortSeed, Malformed}
use Rattle.cp_endings.proofs.InputLemmas.{stops_first}

-- ---- the replay

module _ (words : ReplayWords) (seed script : List ℕ) where
  pub short : nat_lt (length seed) 48 ≡ true → GivesReplay words seed script (Err ShortSeed)
  short e = inl (rw e refl)

  pub unread : nat_lt (length seed) 48 ≡ false → (at : ℕ) → script_of script ≡ Err at → GivesReplay words seed script (Err (Malformed at))
  unread e at refused = inl (rw (e, refused) refl)

  pub done_with : 48 ≤ length seed → (lines : List Line) → script_of script ≡ Ok lines → (whole : List ℕ) → whole ≡ seed → (done : Replayed)
      → replayed_view done ≡ replayed (making words whole) lines → GivesReplay words seed script (Ok done)
  done_with long lines read whole same done is = rw (le-ltb (length seed) 48 long, read) (ap (λ (x : replay.ReplayFiles). Ok x) (ap (λ (s : List ℕ). replayed (making words s) lines) (sym same) ∙ sym is))

-- ---- its files

module _ (words : ReplayWords) (old : Files) where
  -- the seed's file was refused
  pub made_first : (new : Files) (ending : Ending) → ReadsInput old.tells (old.file words.seed) words.seed 48 old.read_faults new.read_faults (Err ending) → MakesReplay words old new (Err ending)
  made_first new ending read = record { seed_file = read.content; script_file = old.file words.script; seed_is = read.told; script_is = λ t. refl; gives = gives read.gives; failed = read.failed }
    where
      gives : (input_of read.content words.seed 48 ≡ Err (ending_view ending)) ⊎ Stops old.read_faults new.read_faults (ending_view ending)
          → GivesMade (replay_made words read.content (old.file words.script)) old.read_faults new.read_faults (Err ending)
      gives (inl refused) = inl (rw refused refl)
      gives (inr stops) = inr stops

  -- the seed's file was read, and the script's was refused
  pub made_second : (new : Files) (after : ℕ) (seed : Vec ℕ) (ending : Ending) → ReadsInput old.tells (old.file words.seed) words.seed 48 old.read_faults after (Ok seed)
      → ReadsInput old.tells (old.file words.script) words.script 1048576 old.read_faults new.read_faults (Err ending) → MakesReplay words old new (Err ending)
  made_second new after seed ending first second = record { seed_file = first.content; script_file = second.content; seed_is = first.told; script_is = second.told; gives = gives second.gives; failed = second.failed }
    where
      gives : (input_of second.content words.script 1048576 ≡ Err (ending_view ending)) ⊎ Stops old.read_faults new.read_faults (ending_view ending)
          → GivesMade (replay_made words first.content second.content) old.read_faults new.read_faults (Err ending)
      gives (inl refused) = inl (rw (first.gives, refused) refl)
      gives (inr stops) = inr stops

  -- both were read
  pub made_both : (new : Files) (after : ℕ) (seed script : Vec ℕ) (result : Result Replayed Ending) → ReadsInput old.tells (old.file words.seed) words.seed 48 old.read_faults after (Ok seed)
      → ReadsInput old.tells (old.file words.script) words.script 1048576 old.read_faults new.read_faults (Ok script) → GivesReplay words seed.items script.items result → MakesReplay words old new result
  made_both new after seed script result first second is =
      record { seed_file = first.content; script_file = second.content; seed_is = first.told; script_is = second.told; gives = gives result is; failed = stays result }
    where
      stays : (r : Result Replayed Ending) → StopsAtFault old.read_faults new.read_faults r
      stays (Ok done) = second.failed
      stays (Err ending) = inl second.failed

      whole : replay_made words first.content second.content ≡ replay_in words seed.items script.items
      whole = rw (first.gives, second.gives) refl

      gives : (r : Result Replayed Ending) → GivesReplay words seed.items script.items r → GivesMade (replay_made words first.content second.content) old.read_faults new.read_faults r
      gives (Ok done) is = whole ∙ is
      gives (Err ending) (inl refused) = inl (whole ∙ refused)
      gives (Err ending) (inr memory) = inr (inr memory)

  -- ---- how it ends

  pub replay_unmade : (new : Files) (ending : Ending) → MakesReplay words old new (Err ending) → KeepsAll old new → ReplayEnds words old new (ending_view ending)
  replay_unmade new ending made kept = record { seed_file = made.seed_file; script_file = made.script_file; seed_is = made.seed_is; script_is = made.script_is; ends = ends made.gives; others = λ n other. kept n; reads_first = stops_first old new (ending_view ending) made.failed kept }
    where
      ends : (replay_made words made.seed_file made.script_file ≡ Err (ending_view ending)) ⊎ Stops old.read_faults new.read_faults (ending_view ending)
          → WrittenEnds (replay_made words made.seed_file made.script_file) old new (ending_view ending) ⊎ (Stops old.read_faults new.read_faults (ending_view ending) × KeepsAll old new)
      ends (inl refused) = inl (rw refused (refl, kept))
      ends (inr stops) = inr (stops, kept)

  module _ (mid new : Files) (done : Replayed) (made : MakesReplay words old mid (Ok done)) (kept : KeepsAll old mid) (tells : mid.tells ≡ old.tells) (unwritten : mid.write_faults ≡ old.write_faults)
      (unread : new.read_faults ≡ mid.read_faults) (others : (name : List ℕ) → ¬ IsReplayFile name → new.file name ≡ mid.file name) where
    all_written : WritesAll (writes_of (replayed_view done)) mid new → WritesAll (writes_of (replayed_view done)) old new
    all_written writes = λ t name. writes (tells ∙ t) name ∙ ap (λ (c : Option (List ℕ)). content_after name c (writes_of (replayed_view done))) (kept name)

    stopped_at : StopsAt (writes_of (replayed_view done)) mid new → StopsAt (writes_of (replayed_view done)) old new
    stopped_at s = record { done = s.done; failed = s.failed; left = s.left; split = s.split; files = λ t name ne. s.files (tells ∙ t) name ne ∙ ap (λ (c : Option (List ℕ)). content_after name c s.done) (kept name) }

    pub replay_written : WritesReplay done mid new (Ok tt) → ReplayEnds words old new (printed done.text)
    replay_written writes = record {
      seed_file = made.seed_file;
      script_file = made.script_file;
      seed_is = made.seed_is;
      script_is = made.script_is;
      ends = inl (rw made.gives (inl (refl, all_written writes)));
      others = λ n other. others n other ∙ kept n;
      reads_first = inl (unread ∙ made.failed);
    }

    pub replay_unwritten : (ending : Ending) → WritesReplay done mid new (Err ending) → ReplayEnds words old new (ending_view ending)
    replay_unwritten ending writes = record {
      seed_file = made.seed_file;
      script_file = made.script_file;
      seed_is = made.seed_is;
      script_is = made.script_is;
      ends = ends writes;
      others = λ n other. others n other ∙ kept n;
      reads_first = inl (unread ∙ made.failed);
    }
      where
        ends : WritesReplay done mid new (Err ending) → WrittenEnds (replay_made words made.seed_file made.script_file) old new (ending_view ending) ⊎ (Stops old.read_faults new.read_faults (ending_view ending) × KeepsAll old new)
        ends (inl failed) = inl (rw made.gives (inr (failed.0, omega (arith, unwritten, failed.1), stopped_at failed.2)))
        ends (inr memory) = inr (inr memory.0, λ name. memory.1 name ∙ kept name)

pub ruleset replay_ends = (replay_unmade, replay_written, replay_unwritten)

pub ruleset replay_gives = (short, unread, done_with)
