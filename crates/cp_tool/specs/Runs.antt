-- How each command ends, over the files of its folder (this project's own).
use Rattle.std.specs.Prelude.{ℕ, ◌≡◌, ◌⊎◌, List, length, Option, Some, None, Result, Ok, Err, nat_lt, if◌then◌else◌, IsTrue}
use Rattle.cp_bytes.specs.Fields.{◌>>=◌}
use Rattle.cp_outside.specs.Causes.{Rose}
use Rattle.lms_ots.specs.declared.ots_type.OtsType.{OtsType}
use Rattle.lms_tree.specs.declared.height.Height.{Height}
use Rattle.lms_tree.specs.PublicKey.{key_reads}
use Rattle.lms_tree.specs.Verifying.{verifies}
use Rattle.lms_tree.specs.Secret.{public_of}
use Rattle.cp_judge.specs.Judging.{judgement_of}
use Rattle.cp_commands.specs.Commands.{Command}
use Rattle.cp_commands.specs.Commands.Command.{Judge, Verify, Keygen, AskPut, AskGet, Accept, Audit, Replay, Certify, JudgeLife, Forgery}
use Rattle.cp_tool.specs.AuditRuns.{AuditEnds}
use Rattle.cp_tool.specs.ReplayRuns.{ReplayEnds}
use Rattle.cp_tool.specs.ClientRuns.{AskGetEnds, AcceptEnds}
use Rattle.cp_more.specs.Certifying.{CertifyEnds}
use Rattle.cp_more.specs.Forging.{ForgeryEnds}
use Rattle.cp_more.specs.LifeJudging.{JudgeLifeEnds}
use Rattle.cp_more.specs.Seeds.{secret_in}
pub use Rattle.cp_endings.specs.Folders.{Files, files_of, input_of, ending_of, Stops, KeepsAll, KeepsOthers, IsFile, ReadsFirst}
use Rattle.cp_endings.specs.Endings.{Outcome, usage, short_seed, bad_key, judged, valid, invalid, made, fault}

-- ---- judge: a key of 56 bytes, evidence of at most 512 MiB

abbrev pub judge_ending : Option (List ℕ) → List ℕ → Option (List ℕ) → List ℕ → Outcome
judge_ending key_file key evidence_file evidence = ending_of (do
  key_bytes ← input_of key_file key 56
  evidence_bytes ← input_of evidence_file evidence 536870912
  Ok (judged (judgement_of key_bytes evidence_bytes)))

pub record JudgeEnds (key evidence : List ℕ) (old new : Files) (ending : Outcome) : Type 0 where
  pub key_file : Option (List ℕ)
  pub evidence_file : Option (List ℕ)
  pub key_is : IsFile old key key_file
  pub evidence_is : IsFile old evidence evidence_file
  pub ends : (ending ≡ judge_ending key_file key evidence_file evidence) ⊎ Stops old.read_faults new.read_faults ending
  pub kept : KeepsAll old new
  pub reads_first : ReadsFirst old new ending

-- ---- verify: a key of 56 bytes, a text of at most 1 MiB, a signature of at most 16 KiB

abbrev pub verified : List ℕ → List ℕ → List ℕ → Outcome
verified key text signature = if key_reads key then (if verifies key text signature then valid else invalid) else bad_key

abbrev pub verify_ending : Option (List ℕ) → List ℕ → Option (List ℕ) → List ℕ → Option (List ℕ) → List ℕ → Outcome
verify_ending key_file key text_file text signature_file signature = ending_of (do
  key_bytes ← input_of key_file key 56
  text_bytes ← input_of text_file text 1048576
  signature_bytes ← input_of signature_file signature 16384
  Ok (verified key_bytes text_bytes signature_bytes))

pub record VerifyEnds (key text signature : List ℕ) (old new : Files) (ending : Outcome) : Type 0 where
  pub key_file : Option (List ℕ)
  pub text_file : Option (List ℕ)
  pub signature_file : Option (List ℕ)
  pub key_is : IsFile old key key_file
  pub text_is : IsFile old text text_file
  pub signature_is : IsFile old signature signature_file
  pub ends : (ending ≡ verify_ending key_file key text_file text signature_file signature) ⊎ Stops old.read_faults new.read_faults ending
  pub kept : KeepsAll old new
  pub reads_first : ReadsFirst old new ending

-- ---- keygen: a seed of 48 bytes, SEED and then I

-- the public key's bytes
abbrev pub key_made : Option (List ℕ) → List ℕ → Height → OtsType → Result (List ℕ) Outcome
key_made seed_file seed height ots = do
  bytes ← input_of seed_file seed 48
  if nat_lt (length bytes) 48 then Err short_seed else Ok (public_of (secret_in height ots bytes))

-- The key was written and is printed; or its write failed, after which the file of its name may hold
-- anything; or an input was refused and nothing was written.
abbrev pub KeyEnds : Result (List ℕ) Outcome → List ℕ → Files → Files → Outcome → Type 0
KeyEnds (Ok key) out old new ending = ((ending ≡ made key) × (IsTrue old.tells → new.file out ≡ Some key)) ⊎ ((ending ≡ fault) × Rose old.write_faults new.write_faults)
KeyEnds (Err refusal) out old new ending = (ending ≡ refusal) × KeepsAll old new

-- Where the command stops before its write, for want of memory or at a fault of a read, all files stay.
pub record KeygenEnds (seed : List ℕ) (height : Height) (ots : OtsType) (out : List ℕ) (old new : Files) (ending : Outcome) : Type 0 where
  pub seed_file : Option (List ℕ)
  pub seed_is : IsFile old seed seed_file
  pub ends : KeyEnds (key_made seed_file seed height ots) out old new ending ⊎ (Stops old.read_faults new.read_faults ending × KeepsAll old new)
  pub others : KeepsOthers out old new
  pub reads_first : ReadsFirst old new ending

-- ---- all commands that take files alone

abbrev pub RunEnds : Option Command → Files → Files → Outcome → Type 0
RunEnds None old new ending = (ending ≡ usage) × (new ≡ old)
RunEnds (Some (Judge key evidence)) old new ending = JudgeEnds key evidence old new ending
RunEnds (Some (Verify key text signature)) old new ending = VerifyEnds key text signature old new ending
RunEnds (Some (Keygen seed height ots out)) old new ending = KeygenEnds seed height ots out old new ending
RunEnds (Some (AskPut words)) old new ending = ⊥  -- it takes the vault's disk too, as `CommandEnds` says
RunEnds (Some (AskGet words)) old new ending = AskGetEnds words old new ending
RunEnds (Some (Accept words)) old new ending = AcceptEnds words old new ending
RunEnds (Some (Audit words)) old new ending = AuditEnds words old new ending
RunEnds (Some (Replay words)) old new ending = ReplayEnds words old new ending
RunEnds (Some (Certify words)) old new ending = CertifyEnds words old new ending
RunEnds (Some (JudgeLife key certificate evidence)) old new ending = JudgeLifeEnds key certificate evidence old new ending
RunEnds (Some (Forgery words)) old new ending = ForgeryEnds words old new ending
