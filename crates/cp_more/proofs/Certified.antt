-- How `certify` ends, from what its steps gave.
use Rattle.std.proofs.Common.{◌≡◌, inl, inr, ℕ, ◌≤◌, List, [], ◌∷◌, Some, Ok, length, refl, sym, ap, ◌∙◌, arith}
use Rattle.std.specs.Prelude.{◌≢◌, IsTrue}
use Rattle.std.specs.Global.{Vec}
use Rattle.std.proofs.lemmas.Bool.{le-ltb}
use Rattle.cp_outside.specs.Causes.{Rose}
use Rattle.cp_commands.specs.MoreWords.{CertifyWords}
use Rattle.cp_endings.specs.Endings.{Outcome, fault}
use Rattle.cp_endings.specs.Folders.{Files, KeepsAll}
use Rattle.cp_endings.specs.Inputs.{ReadsInput}
use Rattle.cp_endings.specs.MoreEndings.{certified}
use Rattle.cp_endings.specs.Writes.{FileWrite, WritesAll, write_of}
use Rattle.cp_endings.proofs.Written.{all_earlier, none_written, stops_earlier, stops_next, wrote_more}
use Rattle.cp_more.specs.Certifying.{CertifyEnds, LifeEnds, LifeFiles, WritesLife, life_files, life_made, life_writes}
use Rattle.cp_more.specs.CertifyingCode.{MakesLife, made_view}
use Rattle.cp_more.specs.declared.certifying.Made.{Made}

-- ---- one write after another

-- one file was written, and its write changed no other
pub record Wrote (w : FileWrite) (old new : Files) : Type 0 where
  pub written : IsTrue old.tells → new.file w.name ≡ Some w.bytes
  pub others : (other : List ℕ) → other ≢ w.name → new.file other ≡ old.file other
  pub tells : new.tells ≡ old.tells

module _ (words : CertifyWords) (x : LifeFiles) (old : Files) where
  abbrev key : FileWrite
  key = write_of words.key x.key

  abbrev paper : FileWrite
  paper = write_of words.certificate x.certificate

  abbrev seed : FileWrite
  seed = write_of words.out x.seed

  pub key_fails : (new : Files) → ((other : List ℕ) → other ≢ words.key → new.file other ≡ old.file other) → Rose old.write_faults new.write_faults → WritesLife words x old new fault
  key_fails new others rose = inr (refl, rose, stops_next [] key (paper ∷ (seed ∷ [])) old old new (none_written old) others)

  module _ (first : Files) (one : Wrote key old first) where
    wrote_key : WritesAll (key ∷ []) old first
    wrote_key = wrote_more [] key old old first (none_written old) refl one.written one.others

    pub paper_fails : (new : Files) → ((other : List ℕ) → other ≢ words.certificate → new.file other ≡ first.file other) → Rose old.write_faults new.write_faults → WritesLife words x old new fault
    paper_fails new others rose = inr (refl, rose, stops_next (key ∷ []) paper (seed ∷ []) old first new wrote_key others)

    module _ (second : Files) (two : Wrote paper first second) where
      wrote_paper : WritesAll (key ∷ (paper ∷ [])) old second
      wrote_paper = wrote_more (key ∷ []) paper old first second wrote_key one.tells two.written two.others

      pub seed_fails : (new : Files) → ((other : List ℕ) → other ≢ words.out → new.file other ≡ second.file other) → Rose old.write_faults new.write_faults → WritesLife words x old new fault
      seed_fails new others rose = inr (refl, rose, stops_next (key ∷ (paper ∷ [])) seed [] old second new wrote_paper others)

      pub all_written : (new : Files) → Wrote seed second new → WritesLife words x old new (certified words.life)
      all_written new three = inl (refl, wrote_more (key ∷ (paper ∷ [])) seed old second new wrote_paper (two.tells ∙ one.tells) three.written three.others)

-- ---- how it ends

-- the files were written, or a write failed
pub life_written : (words : CertifyWords) (old mid new : Files) (seed : Vec ℕ) (bytes : List ℕ) (made : Made) (ending : Outcome)
    → ReadsInput old.tells (old.file words.seed) words.seed 48 old.read_faults mid.read_faults (Ok seed) → bytes ≡ seed.items → MakesLife words bytes (Ok made)
    → KeepsAll old mid → mid.tells ≡ old.tells → mid.write_faults ≡ old.write_faults → WritesLife words (made_view made) mid new ending
    → ((name : List ℕ) → name ≢ words.key → name ≢ words.certificate → name ≢ words.out → new.file name ≡ mid.file name) → new.read_faults ≡ mid.read_faults → CertifyEnds words old new ending
life_written words old mid new seed bytes made ending read same makes kept tells unwritten wrote others unread = record {
  seed_file = read.content;
  seed_is = read.told;
  ends = inl (rw whole (ends wrote));
  others = λ name other. others name (λ key. other (inl key)) (λ certificate. other (inr (inl certificate))) (λ out. other (inr (inr out))) ∙ kept name;
  reads_first = inl (unread ∙ read.failed);
}
  where
    long : 48 ≤ length seed.items
    long = omega (arith, makes.0, ap length same)

    whole : life_files words read.content ≡ Ok (made_view made)
    whole = rw (read.gives, le-ltb (length seed.items) 48 long) (ap (λ (x : LifeFiles). Ok x) (ap (λ (l : List ℕ). life_made words l) (sym same) ∙ sym makes.1))

    ends : WritesLife words (made_view made) mid new ending → LifeEnds words (Ok (made_view made)) old new ending
    ends (inl written) = inl (written.0, all_earlier (life_writes words (made_view made)) old mid new kept tells written.1)
    ends (inr failed) = inr (failed.0, omega (arith, unwritten, failed.1), stops_earlier (life_writes words (made_view made)) old mid new kept tells failed.2)
