-- How the command `certify` ends, over the files of its folder (this project's own).
use Rattle.std.specs.Prelude.{ℕ, ◌≡◌, ◌≢◌, ◌⊎◌, List, [], ◌∷◌, length, take, drop, Option, Result, Ok, Err, nat_lt, if◌then◌else◌}
use Rattle.cp_bytes.specs.Fields.{◌>>=◌}
use Rattle.cp_outside.specs.Causes.{Rose}
use Rattle.lms_hss.specs.Lives.{HssSecret, hss_public, certificate, life_seed_file}
use Rattle.cp_commands.specs.MoreWords.{CertifyWords}
use Rattle.cp_endings.specs.Endings.{Outcome, short_seed, fault}
use Rattle.cp_endings.specs.Folders.{Files, input_of, Stops, KeepsAll, IsFile, ReadsFirst}
use Rattle.cp_endings.specs.MoreEndings.{certified}
use Rattle.cp_endings.specs.Writes.{FileWrite, write_of, WritesAll, StopsAt}

-- the operator's key, of the bytes of a seed file
abbrev pub operator_in : CertifyWords → List ℕ → HssSecret
operator_in words bytes = record { top = words.top; bottom = words.height; ots = words.ots; id = take 16 (drop 32 bytes); seed = take 32 bytes }

-- what is written of a life
pub record LifeFiles : Type 0 where
  pub key : List ℕ
  pub certificate : List ℕ
  pub seed : List ℕ

-- the operator's public key, the life's certificate, and the seed of which the life's key is made
abbrev pub life_made : CertifyWords → List ℕ → LifeFiles
life_made words bytes = record {
  key = hss_public (operator_in words bytes);
  certificate = certificate (operator_in words bytes) words.life;
  seed = life_seed_file (operator_in words bytes) words.life;
}

-- of a seed file of 48 bytes, or how the command ends without it
abbrev pub life_files : CertifyWords → Option (List ℕ) → Result LifeFiles Outcome
life_files words seed_file = do
  bytes ← input_of seed_file words.seed 48
  if nat_lt (length bytes) 48 then Err short_seed else Ok (life_made words bytes)

-- the three files, in the order in which they are written
abbrev pub life_writes : CertifyWords → LifeFiles → List FileWrite
life_writes words x = write_of words.key x.key ∷ (write_of words.certificate x.certificate ∷ (write_of words.out x.seed ∷ []))

-- they were written, or a write failed, after those before it
abbrev pub WritesLife : CertifyWords → LifeFiles → Files → Files → Outcome → Type 0
WritesLife words x old new ending =
    ((ending ≡ certified words.life) × WritesAll (life_writes words x) old new) ⊎ ((ending ≡ fault) × Rose old.write_faults new.write_faults × StopsAt (life_writes words x) old new)

-- or an input was refused and nothing was written
abbrev pub LifeEnds : CertifyWords → Result LifeFiles Outcome → Files → Files → Outcome → Type 0
LifeEnds words (Ok x) old new ending = WritesLife words x old new ending
LifeEnds words (Err refusal) old new ending = (ending ≡ refusal) × KeepsAll old new

-- the name of a file that `certify` writes
abbrev pub IsLifeFile : CertifyWords → List ℕ → Type 0
IsLifeFile words name = (name ≡ words.key) ⊎ (name ≡ words.certificate) ⊎ (name ≡ words.out)

-- no other file changed
abbrev pub KeepsButLife : CertifyWords → Files → Files → Type 0
KeepsButLife words old new = (name : List ℕ) → name ≢ words.key → name ≢ words.certificate → name ≢ words.out → new.file name ≡ old.file name

-- Where the command stops before its writes, for want of memory or at a fault of a read, all files stay.
pub record CertifyEnds (words : CertifyWords) (old new : Files) (ending : Outcome) : Type 0 where
  pub seed_file : Option (List ℕ)
  pub seed_is : IsFile old words.seed seed_file
  pub ends : LifeEnds words (life_files words seed_file) old new ending ⊎ (Stops old.read_faults new.read_faults ending × KeepsAll old new)
  pub others : (name : List ℕ) → ¬ IsLifeFile words name → new.file name ≡ old.file name
  pub reads_first : ReadsFirst old new ending
