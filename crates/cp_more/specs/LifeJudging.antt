-- How the command `judge-life` ends, over the files of its folder (this project's own): an operator's key of
-- 60 bytes, a certificate of at most 16 KiB, evidence of at most 512 MiB.
use Rattle.std.specs.Prelude.{ℕ, ◌≡◌, ◌⊎◌, List, Option, Result, Ok}
use Rattle.cp_bytes.specs.Fields.{◌>>=◌}
use Rattle.cp_judge.specs.Lives.{life_judgement_of}
use Rattle.cp_judge.specs.declared.lives.LifeJudgement.{LifeJudgement}
use Rattle.cp_judge.specs.declared.lives.LifeJudgement.TheVariants.{BadKey, BadCertificate, Judged}
use Rattle.cp_endings.specs.Endings.{Outcome, bad_key, judged}
use Rattle.cp_endings.specs.Folders.{Files, ending_of, Stops, KeepsAll, IsFile, ReadsFirst}
use Rattle.cp_endings.specs.MoreEndings.{bad_certificate}
use Rattle.cp_endings.specs.ThreeInputs.{Three, three_of}

abbrev pub life_judged : LifeJudgement → Outcome
life_judged BadKey = bad_key
life_judged BadCertificate = bad_certificate
life_judged (Judged judgement) = judged judgement

-- of a key, a certificate and evidence
abbrev pub life_judged_of : Three → Outcome
life_judged_of files = life_judged (life_judgement_of files.first files.second files.third)

abbrev pub life_inputs : List ℕ → List ℕ → List ℕ → Option (List ℕ) → Option (List ℕ) → Option (List ℕ) → Result Three Outcome
life_inputs key certificate evidence key_file certificate_file evidence_file =
    three_of key_file (record { name = key; limit = 60 }) certificate_file (record { name = certificate; limit = 16384 }) evidence_file (record { name = evidence; limit = 536870912 })

abbrev pub judge_life_ending : Result Three Outcome → Outcome
judge_life_ending inputs = ending_of (inputs >>= λ files. Ok (life_judged_of files))

pub record JudgeLifeEnds (key certificate evidence : List ℕ) (old new : Files) (ending : Outcome) : Type 0 where
  pub key_file : Option (List ℕ)
  pub certificate_file : Option (List ℕ)
  pub evidence_file : Option (List ℕ)
  pub key_is : IsFile old key key_file
  pub certificate_is : IsFile old certificate certificate_file
  pub evidence_is : IsFile old evidence evidence_file
  pub ends : (ending ≡ judge_life_ending (life_inputs key certificate evidence key_file certificate_file evidence_file)) ⊎ Stops old.read_faults new.read_faults ending
  pub kept : KeepsAll old new
  pub reads_first : ReadsFirst old new ending
