-- How `audit` ends, over the files of its folder (this project's own).
use Rattle.std.specs.Prelude.{ℕ, ◌-◌, ◌≡◌, ◌≤◌, ◌⊎◌, List, [], length, Option, Some, None, Result, Ok, Err, nat_le, if◌then◌else◌, IsTrue}
use Rattle.cp_bytes.specs.Fields.{◌>>=◌}
use Rattle.cp_outside.specs.Causes.{Rose}
use Rattle.lms_tree.specs.PublicKey.{key_reads}
use Rattle.cp_evidence.specs.Audited.{Refused, audited}
use Rattle.cp_evidence.specs.Audited.Refused.{NotGiven, Malformed}
use Rattle.cp_evidence.specs.Conditions.{Convicts}
use Rattle.cp_evidence.specs.Evidence.{Evidence, evidence_text}
use Rattle.cp_evidence.specs.Material.{Material}
use Rattle.cp_evidence.specs.Verdict.{Verdict}
use Rattle.cp_evidence.specs.Verdict.Verdict.{Clean, Guilty}
use Rattle.cp_endings.specs.AuditEndings.{clean, guilt_of, guilty, not_given, malformed}
use Rattle.cp_commands.specs.AuditWords.{AuditWords}
use Rattle.cp_endings.specs.EpochFiles.{epoch_file}
use Rattle.cp_endings.specs.Endings.{Outcome, bad_key, fault}
use Rattle.cp_endings.specs.Folders.{Files, input_of, Stops, KeepsAll, KeepsOthers, ReadsFirst}
use Rattle.cp_endings.specs.declared.epoch_part.EpochPart.{EpochPart}
use Rattle.cp_endings.specs.declared.epoch_part.EpochPart.TheVariants.{Families, Closing, Table, Log}

-- ---- the files that are read

-- a file that is read, of at most so many bytes
pub record Input : Type 0 where
  pub name : List ℕ
  pub limit : ℕ

-- Some where there is one to read
abbrev pub named : List ℕ → ℕ → Option Input
named name limit = Some (record { name = name; limit = limit })

abbrev pub own : EpochPart → ℕ → ℕ → Option Input
own part epoch limit = named (epoch_file part epoch) limit

-- of the epoch before, from epoch 2 on
abbrev pub own_before : EpochPart → ℕ → ℕ → Option Input
own_before part epoch limit = if nat_le epoch 1 then None else own part (epoch - 1) limit

-- the file's content, where there is one to read
abbrev pub content_at : (List ℕ → Option (List ℕ)) → Option Input → Option (List ℕ)
content_at file None = None
content_at file (Some input) = file input.name

-- its bytes, or how the command ends without them; none where there is none to read
abbrev pub bytes_of : Option Input → Option (List ℕ) → Result (List ℕ) Outcome
bytes_of None content = Ok []
bytes_of (Some input) content = input_of content input.name input.limit

-- what there is of each file, in the order in which they are read
pub record AuditFiles : Type 0 where
  pub key : Option (List ℕ)
  pub families : Option (List ℕ)
  pub before : Option (List ℕ)
  pub closing : Option (List ℕ)
  pub table_before : Option (List ℕ)
  pub table : Option (List ℕ)
  pub log : Option (List ℕ)
  pub hand_ins : Option (List ℕ)

-- the folder's files
abbrev pub files_in : (List ℕ → Option (List ℕ)) → AuditWords → AuditFiles
files_in file words = record {
  key = content_at file (named words.key 56);
  families = content_at file (own Families words.epoch 1048576);
  before = content_at file (own_before Closing words.epoch 16384);
  closing = content_at file (own Closing words.epoch 16384);
  table_before = content_at file (own_before Table words.epoch 16777216);
  table = content_at file (own Table words.epoch 16777216);
  log = content_at file (own Log words.epoch 335544320);
  hand_ins = content_at file (named words.hand_ins 67108864);
}

-- an epoch's material and what was handed in
pub record Sources : Type 0 where
  pub material : Material
  pub hand_ins : List ℕ

-- what the files hold, or how the command ends at the first that is refused
abbrev pub sources_of : AuditWords → AuditFiles → Result Sources Outcome
sources_of words files = do
  key ← bytes_of (named words.key 56) files.key
  families ← bytes_of (own Families words.epoch 1048576) files.families
  before ← bytes_of (own_before Closing words.epoch 16384) files.before
  closing ← bytes_of (own Closing words.epoch 16384) files.closing
  table_before ← bytes_of (own_before Table words.epoch 16777216) files.table_before
  table ← bytes_of (own Table words.epoch 16777216) files.table
  log ← bytes_of (own Log words.epoch 335544320) files.log
  hand_ins ← bytes_of (named words.hand_ins 67108864) files.hand_ins
  Ok (record { material = record { key = key; epoch = words.epoch; families = families; before = before; closing = closing; table_before = table_before; table = table; log = log }; hand_ins = hand_ins })

-- ---- how it ends

abbrev pub answered : List ℕ → Result Verdict Refused → Result (List ℕ × Verdict) Outcome
answered key (Ok verdict) = Ok (key, verdict)
answered key (Err (NotGiven what)) = Err (not_given what)
answered key (Err (Malformed at)) = Err (malformed at)

-- the verdict on them beside the key, or how the command ends without one
abbrev pub verdict_of : Sources → Result (List ℕ × Verdict) Outcome
verdict_of sources = if key_reads sources.material.key then answered sources.material.key (audited sources.material sources.hand_ins) else Err bad_key

-- The evidence convicts, and is within the limit of what `judge` reads; it was written and is named, or its write failed, after which the file of its
-- name may hold anything.
pub record GuiltyEnds (key : List ℕ) (e : Evidence) (out : List ℕ) (old new : Files) (ending : Outcome) : Type 0 where
  pub convicts : Convicts key (evidence_text e)
  pub is_short : length (evidence_text e) ≤ 536870912
  pub written : ((ending ≡ guilty (guilt_of e)) × (IsTrue old.tells → new.file out ≡ Some (evidence_text e))) ⊎ ((ending ≡ fault) × Rose old.write_faults new.write_faults)

-- Nothing is written but evidence.
abbrev pub VerdictEnds : List ℕ → Verdict → List ℕ → Files → Files → Outcome → Type 0
VerdictEnds key (Clean entries handed aside) out old new ending = (ending ≡ clean entries handed aside) × KeepsAll old new
VerdictEnds key (Guilty e) out old new ending = GuiltyEnds key e out old new ending

abbrev pub AnswerEnds : Result (List ℕ × Verdict) Outcome → List ℕ → Files → Files → Outcome → Type 0
AnswerEnds (Ok answer) out old new ending = VerdictEnds answer.0 answer.1 out old new ending
AnswerEnds (Err refusal) out old new ending = (ending ≡ refusal) × KeepsAll old new

-- Where the command stops before its write, for want of memory or at a fault of a read, all files stay.
pub record AuditEnds (words : AuditWords) (old new : Files) (ending : Outcome) : Type 0 where
  -- what the folder gave as the files, which are its files where it tells them
  pub files : AuditFiles
  pub are_files : IsTrue old.tells → files ≡ files_in old.file words
  pub ends : AnswerEnds (sources_of words files >>= verdict_of) words.out old new ending ⊎ (Stops old.read_faults new.read_faults ending × KeepsAll old new)
  pub others : KeepsOthers words.out old new
  pub reads_first : ReadsFirst old new ending
