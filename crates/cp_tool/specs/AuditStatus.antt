-- What the status of `audit` says (this project's own).
use Rattle.std.specs.Prelude.{ℕ, ◌≡◌, ◌≤◌, List, length, Option, Some, Result, Ok, Err}
use Rattle.std.specs.List.{AllByRecursion}
use Rattle.sha2.specs.Sha256.{sha256}
use Rattle.cp_bytes.specs.Hashes.{CollisionFree}
use Rattle.cp_statements.specs.Envelope.{Envelope}
use Rattle.cp_core.specs.Store.{Store}
use Rattle.cp_core.specs.Honest.{Honest}
use Rattle.cp_core.specs.declared.chronicle.Chronicle.{Chronicle}
use Rattle.cp_evidence.specs.Conditions.{Convicts}
use Rattle.cp_evidence.specs.HandIns.{hand_ins_of}
use Rattle.cp_evidence.specs.Material.{GivenEpoch, given_of}
use Rattle.cp_evidence.specs.Sound.{Clean}
use Rattle.cp_guilt.specs.Framing.{WasSigned}
use Rattle.cp_guilt.specs.HonestAudit.{AuditedOrHashed, HolderSignedAll}
use Rattle.cp_guilt.specs.OwnAudit.{OwnMaterial, OwnTexts}
use Rattle.cp_endings.specs.Endings.{Outcome}
use Rattle.cp_tool.specs.AuditRuns.{Sources}
use Rattle.cp_tool.specs.Statuses.{ExactlyWhere, Unless}

-- the material is given, and the hand-ins read
pub record Readable (sources : Sources) : Type 0 where
  pub epoch : GivenEpoch
  pub hand_ins : List Envelope
  pub given : given_of sources.material ≡ Ok epoch
  pub read : hand_ins_of sources.hand_ins ≡ Ok hand_ins

-- the life of an honest store with this key, whose holder alone signed the given closings and the hand-ins
pub record SignedLife (sources : Sources) (x : Readable sources) : Type 0 where
  pub store : Store
  pub chronicle : Chronicle
  pub id : store.id ≡ sha256 sources.material.key
  pub honest : Honest store chronicle
  pub signed : HolderSignedAll store chronicle sources.material.key x.epoch x.hand_ins

-- the texts are those of an honest store's life, and no two different ones among those that the audit
-- hashes and those of the life have one digest
pub record IsHonest (sources : Sources) (x : Readable sources) : Type 0 where
  pub life : SignedLife sources x
  pub apart : CollisionFree (AuditedOrHashed life.chronicle x.epoch x.hand_ins)

-- the texts are the life's own
pub record IsOwn (sources : Sources) (x : Readable sources) : Type 0 where
  pub life : SignedLife sources x
  pub own : OwnTexts life.store life.chronicle x.epoch

-- the material is that of a seal of an honest store's life, and the holder of its key alone signed what
-- was handed in
pub record IsHandedOut (sources : Sources) (hand_ins : List Envelope) : Type 0 where
  pub store : Store
  pub chronicle : Chronicle
  pub id : store.id ≡ sha256 sources.material.key
  pub honest : Honest store chronicle
  pub own : OwnMaterial store chronicle sources.material
  pub signed : AllByRecursion (WasSigned store chronicle sources.material.key) hand_ins

-- What the status says of files that were within their limits, beside the file that evidence is written
-- to. 0 comes exactly where the material is given, the hand-ins read and the epoch is clean, 1 exactly
-- where they are given and read and it is not, and 3 exactly where they aren't; with 1 the evidence that
-- was written convicts, and is within the limit of what `judge` reads. Of given material of an honest store 0 comes, of its own
-- texts whatever digests do; and the material of each seal of its life is given, so that 0 comes of it.
pub record AuditStatus (sources : Sources) (written : Option (List ℕ)) (status : ℕ) : Type 0 where
  pub clean : ExactlyWhere status 0 ((x : Readable sources) × Clean x.epoch x.hand_ins)
  pub guilty : ExactlyWhere status 1 ((x : Readable sources) × ¬ Clean x.epoch x.hand_ins)
  pub evidence : status ≡ 1 → (bytes : List ℕ) × (written ≡ Some bytes) × (length bytes ≤ 536870912) × Convicts sources.material.key bytes
  pub refused : ExactlyWhere status 3 (¬ Readable sources)
  pub where_honest : (x : Readable sources) → IsHonest sources x → Unless status 0
  pub where_own : (x : Readable sources) → IsOwn sources x → Unless status 0
  pub where_handed_out : (hand_ins : List Envelope) → hand_ins_of sources.hand_ins ≡ Ok hand_ins → IsHandedOut sources hand_ins → Unless status 0

-- The same of the files as they were found: one that isn't there or is over its limit ends with 3.
abbrev pub StatusOfFiles : Result Sources Outcome → Option (List ℕ) → ℕ → Type 0
StatusOfFiles (Ok sources) written status = AuditStatus sources written status
StatusOfFiles (Err refusal) written status = Unless status 3
