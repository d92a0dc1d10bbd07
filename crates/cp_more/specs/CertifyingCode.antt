-- What the steps of `certify` give.
use Rattle.std.specs.Prelude.{ℕ, ◌≡◌, ◌⊎◌, ◌<◌, ◌≤◌, List, length, Result, Ok, Err}
use Rattle.cp_commands.specs.MoreWords.{CertifyWords}
use Rattle.cp_endings.specs.Endings.{short_seed, no_memory}
use Rattle.cp_endings.specs.View.{ending_view}
use Rattle.cp_endings.specs.declared.ending.Ending.{Ending}
use Rattle.cp_more.specs.Certifying.{LifeFiles, life_made}
use Rattle.cp_more.specs.declared.certifying.Made.{Made}

abbrev pub made_view : Made → LifeFiles
made_view made = record { key = made.key; certificate = made.certificate.items; seed = made.seed }

-- what the bytes of a seed file make, or a refusal
abbrev pub MakesLife : CertifyWords → List ℕ → Result Made Ending → Type 0
MakesLife words bytes (Ok made) = (48 ≤ length bytes) × (made_view made ≡ life_made words bytes)
MakesLife words bytes (Err ending) = ((length bytes < 48) × (ending_view ending ≡ short_seed)) ⊎ (ending_view ending ≡ no_memory)
