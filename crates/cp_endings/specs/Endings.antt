-- How a command ends: its status and its printed text (this project's own).
use Rattle.std.specs.Prelude.{ℕ, List, ◌++◌, codes, decimal, ◌==◌, if◌then◌else◌}
use Rattle.hex.specs.Hex.{encode_lower}
use Rattle.cp_judge.specs.declared.judgement.Judgement.{Judgement}
use Rattle.cp_judge.specs.declared.judgement.Judgement.TheVariants.{BadKey, Malformed, NotEvidence, Guilty}

pub record Outcome : Type 0 where
  pub status : ℕ
  pub text : List ℕ  -- with the end of each line

-- a text and the end of its line
abbrev pub line : List ℕ → List ℕ
line text = text ++ codes "\n"

abbrev pub usage : Outcome
usage = record { status = 2; text = line (codes "usage") }

abbrev pub missing : List ℕ → Outcome
missing name = record { status = 3; text = line (codes "missing " ++ name) }

abbrev pub too_long : ℕ → Outcome
too_long limit = record { status = 3; text = line (codes "too long " ++ decimal limit) }

abbrev pub short_seed : Outcome
short_seed = record { status = 3; text = line (codes "short seed") }

abbrev pub bad_key : Outcome
bad_key = record { status = 3; text = line (codes "bad key") }

abbrev pub judged : Judgement → Outcome
judged BadKey = bad_key
judged (Malformed at) = record { status = 1; text = line (codes "malformed " ++ decimal at) }
judged (NotEvidence kind condition) = record { status = 1; text = line (codes "not evidence K" ++ (decimal kind ++ codes " " ++ decimal condition)) }
judged (Guilty kind) = record { status = 0; text = line (codes "guilty K" ++ decimal kind) }

abbrev pub valid : Outcome
valid = record { status = 0; text = line (codes "valid") }

abbrev pub invalid : Outcome
invalid = record { status = 1; text = line (codes "invalid") }

-- the line of a key, its digits in lower-case hexadecimal
abbrev pub key_line : List ℕ → List ℕ
key_line key = codes "key " ++ encode_lower key ++ codes "\n"

-- the public key that was written
abbrev pub made : List ℕ → Outcome
made key = record { status = 0; text = line (codes "key " ++ encode_lower key) }

abbrev pub fault : Outcome
fault = record { status = 4; text = line (codes "fault") }

abbrev pub no_memory : Outcome
no_memory = record { status = 5; text = line (codes "no memory") }

-- a script or a list that does not read, by the offset of its first bad line or envelope
abbrev pub malformed : ℕ → Outcome
malformed at = record { status = 3; text = line (codes "malformed " ++ decimal at) }

-- the lines of a replay's answers, each with its end
abbrev pub printed : List ℕ → Outcome
printed text = record { status = 0; text = text }

-- the printed lines
abbrev pub line_of : Outcome → List ℕ
line_of ending = ending.text

-- the status where the line cannot be written: 4, but want of memory stays want of memory
abbrev pub unprinted_status : Outcome → ℕ
unprinted_status ending = if ending.status == 5 then 5 else 4
