-- What the judge answers under an operator's key (this project's own, over RFC 8554, section 6).
use Rattle.std.specs.Prelude.{List, ℕ, if◌then◌else◌}
use Rattle.lms_hss.specs.Hss.{hss_reads, certifies, life_key}
use Rattle.cp_judge.specs.Judging.{judgement_of, IsGuilty}
use Rattle.cp_judge.specs.declared.lives.LifeJudgement.{LifeJudgement}
use Rattle.cp_judge.specs.declared.lives.LifeJudgement.TheVariants.{BadKey, BadCertificate, Judged}

-- what the bytes are against the life that the certificate is for
abbrev pub life_judgement_of : List ℕ → List ℕ → List ℕ → LifeJudgement
life_judgement_of key certificate bytes =
    if hss_reads key
    then (if certifies key certificate then Judged (judgement_of (life_key key certificate) bytes) else BadCertificate)
    else BadKey

abbrev pub IsLifeGuilty : LifeJudgement → Type 0
IsLifeGuilty BadKey = ⊥
IsLifeGuilty BadCertificate = ⊥
IsLifeGuilty (Judged judgement) = IsGuilty judgement
