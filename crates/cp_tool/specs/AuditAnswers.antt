-- The verdict that the code has, and what is written of it.
use Rattle.std.specs.Prelude.{ℕ, ◌≡◌, ◌≤◌, ◌⊎◌, List, length, Some, Result, Ok, Err, IsTrue}
use Rattle.cp_outside.specs.Causes.{Rose}
use Rattle.cp_evidence.specs.AuditLaws.{evidence_limit}
use Rattle.cp_evidence.specs.Conditions.{Convicts}
use Rattle.cp_evidence.specs.Evidence.{Evidence, evidence_of, evidence_text}
use Rattle.cp_evidence.specs.Verdict as spec
use Rattle.cp_audit.specs.declared.verdict.Verdict.{Verdict}
use Rattle.cp_audit.specs.declared.verdict.Verdict.TheVariants.{Clean, Guilty}
use Rattle.cp_endings.specs.AuditEndings.{guilt_of, guilty}
use Rattle.cp_tool.specs.AuditRuns.{Sources, verdict_of}
use Rattle.cp_endings.specs.Endings.{Outcome, fault, no_memory}
use Rattle.cp_endings.specs.Folders.{Files, KeepsOthers}
use Rattle.cp_endings.specs.View.{ending_view}
use Rattle.cp_endings.specs.declared.ending.Ending.{Ending}

-- the bytes spell the evidence, convict and are few
pub record Spells (sources : Sources) (e : Evidence) (bytes : List ℕ) : Type 0 where
  pub spelled : bytes ≡ evidence_text e
  pub reads : evidence_of bytes ≡ Ok e
  pub convicts : Convicts sources.material.key bytes
  pub is_short : length bytes ≤ evidence_limit sources.material sources.hand_ins

-- the verdict, with the evidence as its bytes, or how the command ends without one
abbrev pub Answers : Sources → Result Verdict Ending → Type 0
Answers sources (Ok (Clean entries handed aside)) = verdict_of sources ≡ Ok (sources.material.key, spec.Verdict.Clean entries handed aside)
Answers sources (Ok (Guilty bytes)) = (e : Evidence) × (verdict_of sources ≡ Ok (sources.material.key, spec.Verdict.Guilty e)) × Spells sources e bytes
Answers sources (Err ending) = (verdict_of sources ≡ Err (ending_view ending)) ⊎ (ending_view ending ≡ no_memory)

-- the evidence was written and is named, or its write failed; the other files stay
pub record WritesEvidence (e : Evidence) (bytes out : List ℕ) (old new : Files) (ending : Outcome) : Type 0 where
  pub written : ((ending ≡ guilty (guilt_of e)) × (IsTrue old.tells → new.file out ≡ Some bytes)) ⊎ ((ending ≡ fault) × Rose old.write_faults new.write_faults)
  pub others : KeepsOthers out old new
