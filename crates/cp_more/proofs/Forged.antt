-- How `forgery` ends, from what its steps gave.
use Rattle.std.proofs.Common.{◌≡◌, ◌⊎◌, inl, inr, ℕ, ◌≤◌, List, Result, Ok, Err, length, refl, ap, ◌∙◌}
use Rattle.std.specs.Global.{Vec}
use Rattle.std.proofs.lemmas.Bool.{le-ltb}
use Rattle.lms_tree.specs.Secret.{Secret}
use Rattle.cp_commands.specs.MoreWords.{ForgeryWords}
use Rattle.cp_endings.specs.Endings.{Outcome, no_memory}
use Rattle.cp_endings.specs.Folders.{Files, KeepsAll, Stops, input_of}
use Rattle.cp_endings.specs.Inputs.{ReadsInput}
use Rattle.cp_endings.specs.ThreeInputs.{ReadsThree, Three, three_view}
use Rattle.cp_endings.specs.View.{ending_view}
use Rattle.cp_endings.specs.declared.ending.Ending.{Ending}
use Rattle.cp_endings.specs.declared.three.ThreeFiles.{ThreeFiles}
use Rattle.cp_endings.proofs.InputLemmas.{stops_first}
use Rattle.cp_more.specs.Forging.{ForgeryEnds, forgery_ending, forgery_in, forgery_inputs, of_list}
use Rattle.cp_more.specs.Seeds.{secret_in}

module _ (words : ForgeryWords) (old new : Files) where
  abbrev Reads : Result ThreeFiles Ending → Type 0
  Reads result = ReadsThree (record { name = words.signed; limit = 67108864 }) (record { name = words.text; limit = 1048576 }) (record { name = words.signature; limit = 16384 }) old new result

  -- the seed was refused
  pub forgery_first : (ending : Ending) → ReadsInput old.tells (old.file words.seed) words.seed 48 old.read_faults new.read_faults (Err ending) → KeepsAll old new → ForgeryEnds words old new (ending_view ending)
  forgery_first ending read kept = record {
    seed_file = read.content;
    signed_file = old.file words.signed;
    text_file = old.file words.text;
    signature_file = old.file words.signature;
    seed_is = read.told;
    signed_is = λ t. refl;
    text_is = λ t. refl;
    signature_is = λ t. refl;
    ends = ends read.gives;
    kept = kept;
    reads_first = stops_first old new (ending_view ending) read.failed kept;
  }
    where
      ends : (input_of read.content words.seed 48 ≡ Err (ending_view ending)) ⊎ Stops old.read_faults new.read_faults (ending_view ending)
          → (ending_view ending ≡ forgery_ending words read.content (forgery_inputs words (old.file words.signed) (old.file words.text) (old.file words.signature))) ⊎ Stops old.read_faults new.read_faults (ending_view ending)
      ends (inl refused) = inl (rw refused refl)
      ends (inr stops) = inr stops

  -- the seed was read, and another file was refused
  pub forgery_second : (after : ℕ) (seed : Vec ℕ) (ending : Ending) → ReadsInput old.tells (old.file words.seed) words.seed 48 old.read_faults after (Ok seed) → Reads (Err ending) → KeepsAll old new
      → ForgeryEnds words old new (ending_view ending)
  forgery_second after seed ending read reads kept = record {
    seed_file = read.content;
    signed_file = reads.first_file;
    text_file = reads.second_file;
    signature_file = reads.third_file;
    seed_is = read.told;
    signed_is = reads.first_is;
    text_is = reads.second_is;
    signature_is = reads.third_is;
    ends = ends reads.gives;
    kept = kept;
    reads_first = stops_first old new (ending_view ending) reads.failed kept;
  }
    where
      ends : (forgery_inputs words reads.first_file reads.second_file reads.third_file ≡ Err (ending_view ending)) ⊎ Stops old.read_faults new.read_faults (ending_view ending)
          → (ending_view ending ≡ forgery_ending words read.content (forgery_inputs words reads.first_file reads.second_file reads.third_file)) ⊎ Stops old.read_faults new.read_faults (ending_view ending)
      ends (inl refused) = inl (rw (read.gives, refused) refl)
      ends (inr stops) = inr stops

  -- all were read
  pub forgery_read : (after : ℕ) (seed : Vec ℕ) (bytes : List ℕ) (files : ThreeFiles) (ending : Outcome) → ReadsInput old.tells (old.file words.seed) words.seed 48 old.read_faults after (Ok seed) → Reads (Ok files)
      → bytes ≡ seed.items → (ending ≡ forgery_in words bytes (three_view files)) ⊎ (ending ≡ no_memory) → KeepsAll old new → ForgeryEnds words old new ending
  forgery_read after seed bytes files ending read reads same is kept = record {
    seed_file = read.content;
    signed_file = reads.first_file;
    text_file = reads.second_file;
    signature_file = reads.third_file;
    seed_is = read.told;
    signed_is = reads.first_is;
    text_is = reads.second_is;
    signature_is = reads.third_is;
    ends = ends is;
    kept = kept;
    reads_first = inl reads.failed;
  }
    where
      ends : (ending ≡ forgery_in words bytes (three_view files)) ⊎ (ending ≡ no_memory)
          → (ending ≡ forgery_ending words read.content (forgery_inputs words reads.first_file reads.second_file reads.third_file)) ⊎ Stops old.read_faults new.read_faults ending
      ends (inl found) = inl (rw (read.gives, reads.gives) (found ∙ ap (λ (l : List ℕ). forgery_in words l (three_view files)) same))
      ends (inr memory) = inr (inr memory)

-- what the key of a seed file found
pub forged_with : (words : ForgeryWords) (seed : List ℕ) (key : Secret) (files : Three) (ending : Outcome) → 48 ≤ length seed → key ≡ secret_in words.height words.ots seed
    → (ending ≡ of_list key files) ⊎ (ending ≡ no_memory) → (ending ≡ forgery_in words seed files) ⊎ (ending ≡ no_memory)
forged_with words seed key files ending long is (inl found) = inl (rw (le-ltb (length seed) 48 long) (found ∙ ap (λ (k : Secret). of_list k files) is))
forged_with words seed key files ending long is (inr memory) = inr memory
