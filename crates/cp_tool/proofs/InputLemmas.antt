-- How a command ends, from what reading its input files gave.
use Rattle.std.proofs.Common.{◌≡◌, ◌⊎◌, inl, inr, ℕ, List, Ok, Err, refl, ap}
use Rattle.std.specs.Global.{Vec}
use Rattle.cp_judge.specs.Judging.{judgement_of}
use Rattle.cp_judge.specs.declared.judgement.Judgement.{Judgement}
use Rattle.cp_endings.specs.Endings.{Outcome, judged}
use Rattle.cp_tool.specs.Runs.{Files, input_of, Stops, KeepsAll, JudgeEnds, VerifyEnds, judge_ending, verify_ending, verified}
use Rattle.cp_endings.specs.Inputs.{ReadsInput}
use Rattle.cp_endings.proofs.InputLemmas.{stops_first}
use Rattle.cp_endings.specs.View.{ending_view}
use Rattle.cp_endings.specs.declared.ending.Ending.{Ending}

-- ---- judge

-- the key's file was refused
pub judge_first : (key evidence : List ℕ) (old new : Files) (ending : Ending) → ReadsInput old.tells (old.file key) key 56 old.read_faults new.read_faults (Err ending)
    → KeepsAll old new → JudgeEnds key evidence old new (ending_view ending)
judge_first key evidence old new ending read kept =
    record { key_file = read.content; evidence_file = old.file evidence; key_is = read.told; evidence_is = λ t. refl; ends = ends read.gives; kept = kept; reads_first = stops_first old new (ending_view ending) read.failed kept }
  where
    ends : (input_of read.content key 56 ≡ Err (ending_view ending)) ⊎ Stops old.read_faults new.read_faults (ending_view ending)
        → (ending_view ending ≡ judge_ending read.content key (old.file evidence) evidence) ⊎ Stops old.read_faults new.read_faults (ending_view ending)
    ends (inl refused) = inl (rw refused refl)
    ends (inr stops) = inr stops

-- the key's file was read, and the evidence's was refused
pub judge_second : (key evidence : List ℕ) (old new : Files) (after : ℕ) (bytes : Vec ℕ) (ending : Ending) → ReadsInput old.tells (old.file key) key 56 old.read_faults after (Ok bytes)
    → ReadsInput old.tells (old.file evidence) evidence 536870912 old.read_faults new.read_faults (Err ending)
    → KeepsAll old new → JudgeEnds key evidence old new (ending_view ending)
judge_second key evidence old new after bytes ending first second kept =
    record { key_file = first.content; evidence_file = second.content; key_is = first.told; evidence_is = second.told; ends = ends second.gives; kept = kept; reads_first = stops_first old new (ending_view ending) second.failed kept }
  where
    ends : (input_of second.content evidence 536870912 ≡ Err (ending_view ending)) ⊎ Stops old.read_faults new.read_faults (ending_view ending)
        → (ending_view ending ≡ judge_ending first.content key second.content evidence) ⊎ Stops old.read_faults new.read_faults (ending_view ending)
    ends (inl refused) = inl (rw (first.gives, refused) refl)
    ends (inr stops) = inr stops

-- both files were read
pub judge_both : (key evidence : List ℕ) (old new : Files) (after : ℕ) (bytes more : Vec ℕ) (judgement : Judgement) → ReadsInput old.tells (old.file key) key 56 old.read_faults after (Ok bytes)
    → ReadsInput old.tells (old.file evidence) evidence 536870912 old.read_faults new.read_faults (Ok more) → judgement ≡ judgement_of bytes.items more.items
    → KeepsAll old new → JudgeEnds key evidence old new (judged judgement)
judge_both key evidence old new after bytes more judgement first second is kept =
    record { key_file = first.content; evidence_file = second.content; key_is = first.told; evidence_is = second.told; ends = inl (rw (first.gives, second.gives) (ap judged is)); kept = kept; reads_first = inl second.failed }

-- ---- verify

pub verify_first : (key text signature : List ℕ) (old new : Files) (ending : Ending) → ReadsInput old.tells (old.file key) key 56 old.read_faults new.read_faults (Err ending)
    → KeepsAll old new → VerifyEnds key text signature old new (ending_view ending)
verify_first key text signature old new ending read kept =
    record { key_file = read.content; text_file = old.file text; signature_file = old.file signature; key_is = read.told; text_is = λ t. refl; signature_is = λ t. refl; ends = ends read.gives; kept = kept; reads_first = stops_first old new (ending_view ending) read.failed kept }
  where
    ends : (input_of read.content key 56 ≡ Err (ending_view ending)) ⊎ Stops old.read_faults new.read_faults (ending_view ending)
        → (ending_view ending ≡ verify_ending read.content key (old.file text) text (old.file signature) signature) ⊎ Stops old.read_faults new.read_faults (ending_view ending)
    ends (inl refused) = inl (rw refused refl)
    ends (inr stops) = inr stops

pub verify_second : (key text signature : List ℕ) (old new : Files) (after : ℕ) (bytes : Vec ℕ) (ending : Ending) → ReadsInput old.tells (old.file key) key 56 old.read_faults after (Ok bytes)
    → ReadsInput old.tells (old.file text) text 1048576 old.read_faults new.read_faults (Err ending)
    → KeepsAll old new → VerifyEnds key text signature old new (ending_view ending)
verify_second key text signature old new after bytes ending first second kept =
    record { key_file = first.content; text_file = second.content; signature_file = old.file signature; key_is = first.told; text_is = second.told; signature_is = λ t. refl; ends = ends second.gives; kept = kept; reads_first = stops_first old new (ending_view ending) second.failed kept }
  where
    ends : (input_of second.content text 1048576 ≡ Err (ending_view ending)) ⊎ Stops old.read_faults new.read_faults (ending_view ending)
        → (ending_view ending ≡ verify_ending first.content key second.content text (old.file signature) signature) ⊎ Stops old.read_faults new.read_faults (ending_view ending)
    ends (inl refused) = inl (rw (first.gives, refused) refl)
    ends (inr stops) = inr stops

pub verify_third : (key text signature : List ℕ) (old new : Files) (after later : ℕ) (bytes more : Vec ℕ) (ending : Ending) → ReadsInput old.tells (old.file key) key 56 old.read_faults after (Ok bytes)
    → ReadsInput old.tells (old.file text) text 1048576 old.read_faults later (Ok more)
    → ReadsInput old.tells (old.file signature) signature 16384 old.read_faults new.read_faults (Err ending)
    → KeepsAll old new → VerifyEnds key text signature old new (ending_view ending)
verify_third key text signature old new after later bytes more ending first second third kept =
    record { key_file = first.content; text_file = second.content; signature_file = third.content; key_is = first.told; text_is = second.told; signature_is = third.told; ends = ends third.gives; kept = kept; reads_first = stops_first old new (ending_view ending) third.failed kept }
  where
    ends : (input_of third.content signature 16384 ≡ Err (ending_view ending)) ⊎ Stops old.read_faults new.read_faults (ending_view ending)
        → (ending_view ending ≡ verify_ending first.content key second.content text third.content signature) ⊎ Stops old.read_faults new.read_faults (ending_view ending)
    ends (inl refused) = inl (rw (first.gives, second.gives, refused) refl)
    ends (inr stops) = inr stops

pub verify_all : (key text signature : List ℕ) (old new : Files) (after later : ℕ) (bytes more most : Vec ℕ) (ending : Outcome) → ReadsInput old.tells (old.file key) key 56 old.read_faults after (Ok bytes)
    → ReadsInput old.tells (old.file text) text 1048576 old.read_faults later (Ok more)
    → ReadsInput old.tells (old.file signature) signature 16384 old.read_faults new.read_faults (Ok most)
    → ending ≡ verified bytes.items more.items most.items → KeepsAll old new → VerifyEnds key text signature old new ending
verify_all key text signature old new after later bytes more most ending first second third is kept =
    record { key_file = first.content; text_file = second.content; signature_file = third.content; key_is = first.told; text_is = second.told; signature_is = third.told; ends = inl (rw (first.gives, second.gives, third.gives) is); kept = kept; reads_first = inl third.failed }
