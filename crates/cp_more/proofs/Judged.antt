-- How `judge-life` ends, from what reading its files gave.
use Rattle.std.proofs.Common.{◌≡◌, ◌⊎◌, inl, inr, ℕ, List, Result, Ok, Err, refl}
use Rattle.cp_endings.specs.Endings.{Outcome}
use Rattle.cp_endings.specs.Folders.{Files, KeepsAll, Stops}
use Rattle.cp_endings.specs.ThreeInputs.{ReadsThree, three_view}
use Rattle.cp_endings.specs.View.{ending_view}
use Rattle.cp_endings.specs.declared.ending.Ending.{Ending}
use Rattle.cp_endings.specs.declared.three.ThreeFiles.{ThreeFiles}
use Rattle.cp_endings.proofs.InputLemmas.{stops_first}
use Rattle.cp_more.specs.LifeJudging.{JudgeLifeEnds, judge_life_ending, life_inputs, life_judged_of}

module _ (key certificate evidence : List ℕ) (old new : Files) where
  abbrev Reads : Result ThreeFiles Ending → Type 0
  Reads result = ReadsThree (record { name = key; limit = 60 }) (record { name = certificate; limit = 16384 }) (record { name = evidence; limit = 536870912 }) old new result

  -- a file was refused
  pub life_unread : (ending : Ending) → Reads (Err ending) → KeepsAll old new → JudgeLifeEnds key certificate evidence old new (ending_view ending)
  life_unread ending reads kept = record {
    key_file = reads.first_file;
    certificate_file = reads.second_file;
    evidence_file = reads.third_file;
    key_is = reads.first_is;
    certificate_is = reads.second_is;
    evidence_is = reads.third_is;
    ends = ends reads.gives;
    kept = kept;
    reads_first = stops_first old new (ending_view ending) reads.failed kept;
  }
    where
      ends : (life_inputs key certificate evidence reads.first_file reads.second_file reads.third_file ≡ Err (ending_view ending)) ⊎ Stops old.read_faults new.read_faults (ending_view ending)
          → (ending_view ending ≡ judge_life_ending (life_inputs key certificate evidence reads.first_file reads.second_file reads.third_file)) ⊎ Stops old.read_faults new.read_faults (ending_view ending)
      ends (inl refused) = inl (rw refused refl)
      ends (inr stops) = inr stops

  -- all were read
  pub life_read : (files : ThreeFiles) (ending : Outcome) → Reads (Ok files) → ending ≡ life_judged_of (three_view files) → KeepsAll old new → JudgeLifeEnds key certificate evidence old new ending
  life_read files ending reads is kept = record {
    key_file = reads.first_file;
    certificate_file = reads.second_file;
    evidence_file = reads.third_file;
    key_is = reads.first_is;
    certificate_is = reads.second_is;
    evidence_is = reads.third_is;
    ends = inl (rw reads.gives is);
    kept = kept;
    reads_first = inl reads.failed;
  }
