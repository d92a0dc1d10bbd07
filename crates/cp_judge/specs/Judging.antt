-- What the judge answers (this project's own).
use Rattle.std.specs.Prelude.{ℕ, List, Result, Ok, Err, if◌then◌else◌}
use Rattle.lms_tree.specs.PublicKey.{key_reads}
use Rattle.cp_evidence.specs.Evidence.{Evidence, evidence_of, kind_of}
use Rattle.cp_evidence.specs.Conditions.{tried}
use Rattle.cp_judge.specs.declared.judgement.Judgement.{Judgement}
use Rattle.cp_judge.specs.declared.judgement.Judgement.TheVariants.{BadKey, Malformed, NotEvidence, Guilty}

-- all conditions of a kind hold, or one is the first that fails
abbrev pub judgement_by : ℕ → Result (Unit {0}) ℕ → Judgement
judgement_by kind (Ok x) = Guilty kind
judgement_by kind (Err condition) = NotEvidence kind condition

abbrev pub judgement_on : List ℕ → Result Evidence ℕ → Judgement
judgement_on key (Ok evidence) = judgement_by (kind_of evidence) (tried key evidence)
judgement_on key (Err at) = Malformed at

-- what the bytes are under the key
abbrev pub judgement_of : List ℕ → List ℕ → Judgement
judgement_of key bytes = if key_reads key then judgement_on key (evidence_of bytes) else BadKey

abbrev pub IsGuilty : Judgement → Type 0
IsGuilty BadKey = ⊥
IsGuilty (Malformed at) = ⊥
IsGuilty (NotEvidence kind condition) = ⊥
IsGuilty (Guilty kind) = Unit {0}
