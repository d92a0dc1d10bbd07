-- How the command `forgery` ends, over the files of its folder (this project's own): a seed of 48 bytes, a
-- list of at most 64 MiB, a text of at most 1 MiB and a signature of at most 16 KiB.
use Rattle.std.specs.Prelude.{ℕ, ◌≡◌, ◌⊎◌, List, [], length, Bool, false, Option, Some, None, Result, Ok, Err, bytes_eq, nat_lt, if◌then◌else◌}
use Rattle.cp_bytes.specs.Fields.{◌>>=◌}
use Rattle.lms_tree.specs.Secret.{Secret, leaves_of, public_of}
use Rattle.lms_tree.specs.Verifying.{leaf_of, verifies}
use Rattle.lms_forge.specs.Pairs.{text_at}
use Rattle.lms_forge.specs.Witness.{witness_of}
use Rattle.lms_forge.specs.declared.witness.Witness.{Witness}
use Rattle.lms_forge.specs.declared.witness.Witness.TheVariants.{Twins, Low}
use Rattle.cp_commands.specs.MoreWords.{ForgeryWords}
use Rattle.cp_endings.specs.Endings.{Outcome, malformed, no_memory, short_seed}
use Rattle.cp_endings.specs.Folders.{Files, input_of, ending_of, Stops, KeepsAll, IsFile, ReadsFirst}
use Rattle.cp_endings.specs.MoreEndings.{leaf_used, low, not_forged_invalid, not_forged_known, twins}
use Rattle.cp_endings.specs.ThreeInputs.{Three, three_of}
use Rattle.cp_more.specs.Pairs.{clash, pairs_of}
use Rattle.cp_more.specs.Seeds.{secret_in}

-- what is printed of a witness
abbrev pub witnessed : Witness → Outcome
witnessed (Twins first second) = twins
witnessed (Low leaf chain step revealed value) = low leaf chain step revealed

-- the leaf signed this text
abbrev pub is_known : Option (List ℕ) → List ℕ → Bool
is_known None text = false
is_known (Some known) text = bytes_eq known text

-- what a signature of a text is beside the pairs that the key signed
abbrev pub of_pairs : Secret → List (ℕ × List ℕ) → List ℕ → List ℕ → Outcome
of_pairs key pairs text sig =
    if verifies (public_of key) text sig
    then (if is_known (text_at pairs (leaf_of sig)) text then not_forged_known else witnessed (witness_of key (text_at pairs (leaf_of sig)) text sig))
    else not_forged_invalid

abbrev pub unless_used : Option ℕ → Outcome → Outcome
unless_used None ending = ending
unless_used (Some leaf) ending = leaf_used leaf

abbrev pub of_read : Secret → Result (List (ℕ × List ℕ)) ℕ → List ℕ → List ℕ → Outcome
of_read key (Ok pairs) text sig = unless_used (clash [] pairs) (of_pairs key pairs text sig)
of_read key (Err at) text sig = malformed at

-- of a list, a text and a signature: the list must read, and give no leaf two texts
abbrev pub of_list : Secret → Three → Outcome
of_list key files = of_read key (pairs_of (leaves_of key) files.first) files.second files.third

-- so the command ends, or memory was wanted
abbrev pub EndsAs : Outcome → Outcome → Type 0
EndsAs ending wanted = (ending ≡ wanted) ⊎ (ending ≡ no_memory)

abbrev pub forgery_in : ForgeryWords → List ℕ → Three → Outcome
forgery_in words seed files = if nat_lt (length seed) 48 then short_seed else of_list (secret_in words.height words.ots seed) files

abbrev pub forgery_inputs : ForgeryWords → Option (List ℕ) → Option (List ℕ) → Option (List ℕ) → Result Three Outcome
forgery_inputs words signed_file text_file signature_file =
    three_of signed_file (record { name = words.signed; limit = 67108864 }) text_file (record { name = words.text; limit = 1048576 }) signature_file (record { name = words.signature; limit = 16384 })

-- the seed is read first, and then the three others
abbrev pub forgery_ending : ForgeryWords → Option (List ℕ) → Result Three Outcome → Outcome
forgery_ending words seed_file inputs = ending_of (do
  seed ← input_of seed_file words.seed 48
  files ← inputs
  Ok (forgery_in words seed files))

pub record ForgeryEnds (words : ForgeryWords) (old new : Files) (ending : Outcome) : Type 0 where
  pub seed_file : Option (List ℕ)
  pub signed_file : Option (List ℕ)
  pub text_file : Option (List ℕ)
  pub signature_file : Option (List ℕ)
  pub seed_is : IsFile old words.seed seed_file
  pub signed_is : IsFile old words.signed signed_file
  pub text_is : IsFile old words.text text_file
  pub signature_is : IsFile old words.signature signature_file
  pub ends : (ending ≡ forgery_ending words seed_file (forgery_inputs words signed_file text_file signature_file)) ⊎ Stops old.read_faults new.read_faults ending
  pub kept : KeepsAll old new
  pub reads_first : ReadsFirst old new ending
