-- How the commands on an operator's lives and on forgeries end (this project's own).
use Rattle.std.specs.Prelude.{ℕ, ◌++◌, codes, decimal}
use Rattle.cp_endings.specs.Endings.{Outcome, line}

-- the operator's key, the certificate of this life and its seed were written
abbrev pub certified : ℕ → Outcome
certified life = record { status = 0; text = line (codes "certified life=" ++ decimal life) }

-- the certificate is not one under the operator's key
abbrev pub bad_certificate : Outcome
bad_certificate = record { status = 3; text = line (codes "bad certificate") }

-- two different texts have one digest
abbrev pub twins : Outcome
twins = record { status = 0; text = line (codes "twins") }

-- a value before a step that is below the first that the key showed
abbrev pub low : ℕ → ℕ → ℕ → ℕ → Outcome
low leaf chain step revealed =
    record { status = 0; text = (codes "low leaf=" ++ (decimal leaf ++ codes " chain=" ++ decimal chain)) ++ (codes " step=" ++ (decimal step ++ codes " revealed=" ++ decimal revealed) ++ codes "\n") }

-- the signature does not verify
abbrev pub not_forged_invalid : Outcome
not_forged_invalid = record { status = 1; text = line (codes "not forged invalid") }

-- the key signed this text with this leaf
abbrev pub not_forged_known : Outcome
not_forged_known = record { status = 1; text = line (codes "not forged known") }

-- the envelopes have two texts for this leaf
abbrev pub leaf_used : ℕ → Outcome
leaf_used leaf = record { status = 3; text = line (codes "leaf used " ++ decimal leaf) }
