-- What the audit answers.
use Rattle.std.specs.Prelude.{ℕ, ◌≡◌, ◌≤◌, ◌-◌, List, length, map, Result, Ok, Err, sum_by, count_by}
use Rattle.cp_evidence.specs.Conditions.{Convicts}
use Rattle.cp_evidence.specs.Evidence.{Evidence, evidence_of, evidence_text}
use Rattle.cp_evidence.specs.Material.{GivenEpoch}
use Rattle.cp_evidence.specs.Verdict as verdict
use Rattle.cp_evidence.specs.Audited as audited
use Rattle.cp_audit.specs.declared.refusal.AuditRefusal.{AuditRefusal}
use Rattle.cp_audit.specs.declared.refusal.AuditRefusal.TheVariants.{NotGiven, Malformed, OutOfMemory}
use Rattle.cp_audit.specs.declared.verdict.Verdict.{Verdict}
use Rattle.cp_audit.specs.declared.verdict.Verdict.TheVariants.{Clean, Guilty}
use Rattle.cp_statements.specs.View.{envelope_view}
use Rattle.cp_audit.specs.Counts.{is_of_epoch}
use Rattle.cp_audit.specs.Parts.{part_view}
use Rattle.cp_audit.specs.View.{what_view}
use Rattle.cp_audit.specs.declared.hand_ins.HandIns.{HandIns}
use Rattle.cp_audit.specs.declared.part.Part.{Part}

-- The code's answer is this one, whose evidence it gives as bytes, which read as it; want of memory says
-- nothing.
abbrev pub IsAnswer : Result verdict.Verdict audited.Refused → Result Verdict AuditRefusal → Type 0
IsAnswer a (Ok (Clean entries handed aside)) = a ≡ Ok (verdict.Verdict.Clean entries handed aside)
IsAnswer a (Ok (Guilty bytes)) = (e : Evidence) × (a ≡ Ok (verdict.Verdict.Guilty e)) × (bytes ≡ evidence_text e) × (evidence_of bytes ≡ Ok e)
IsAnswer a (Err (NotGiven what)) = a ≡ Err (audited.Refused.NotGiven (what_view what))
IsAnswer a (Err (Malformed at)) = a ≡ Err (audited.Refused.Malformed at)
IsAnswer a (Err OutOfMemory) = Unit {0}

-- the evidence convicts the store of the key
abbrev pub GuiltyConvicts : List ℕ → Result Verdict AuditRefusal → Type 0
GuiltyConvicts key (Ok (Guilty bytes)) = Convicts key bytes
GuiltyConvicts key (Ok (Clean entries handed aside)) = Unit {0}
GuiltyConvicts key (Err refusal) = Unit {0}

-- the evidence has at most so many bytes
abbrev pub GuiltyWithin : ℕ → Result Verdict AuditRefusal → Type 0
GuiltyWithin limit (Ok (Guilty bytes)) = length bytes ≤ limit
GuiltyWithin limit (Ok (Clean entries handed aside)) = Unit {0}
GuiltyWithin limit (Err refusal) = Unit {0}

-- how many hand-ins verify as attestations of the epoch
abbrev pub handed_in : GivenEpoch → HandIns → ℕ
handed_in o found = count_by (is_of_epoch o) (map envelope_view found.verified.items)

-- the texts of the log, the attestations of the epoch, and the other hand-ins
abbrev pub clean_counts : GivenEpoch → List Part → HandIns → Verdict
clean_counts o parts found = Clean (sum_by (λ p. length p.texts) (map part_view parts)) (handed_in o found) (found.count - handed_in o found)
