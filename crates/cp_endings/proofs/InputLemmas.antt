-- What reading input files gave, seen from a command's beginning.
use Rattle.std.proofs.Common.{◌≡◌, ◌⊎◌, inl, inr, ℕ, ◌≤◌, List, Option, Result, Ok, Err, ◌∙◌, arith}
use Rattle.std.specs.Global.{Vec}
use Rattle.cp_outside.specs.Causes.{Rose}
use Rattle.cp_endings.specs.Endings.{Outcome, fault}
use Rattle.cp_endings.specs.Folders.{Files, Stops, KeepsAll, ReadsFirst}
use Rattle.cp_endings.specs.Inputs.{ReadsInput, GivesInput, StopsAtFault}
use Rattle.cp_endings.specs.declared.ending.Ending.{Ending}

-- the count rose, also where it is looked at from an earlier moment
pub rose_before : (a b c : ℕ) → a ≤ b → Rose b c → Rose a c
rose_before a b c later rose = omega (arith, later, rose)

pub stops_before : (a b c : ℕ) (ending : Outcome) → a ≤ b → Stops b c ending → Stops a c ending
stops_before a b c ending later (inl fault) = inl (fault.0, rose_before a b c later fault.1)
stops_before a b c ending later (inr memory) = inr memory

gives_before : (content : Option (List ℕ)) (name : List ℕ) (limit a b c : ℕ) (result : Result (Vec ℕ) Ending) → a ≤ b
    → GivesInput content name limit b c result → GivesInput content name limit a c result
gives_before content name limit a b c (Ok bytes) later gives = gives
gives_before content name limit a b c (Err ending) later (inl refused) = inl refused
gives_before content name limit a b c (Err ending) later (inr stops) = inr (stops_before a b c _ later stops)

-- a step behind one that did not fail
pub fails_later : {A : Type 0} (before mid now : ℕ) (result : Result A Ending) → mid ≡ before → StopsAtFault mid now result → StopsAtFault before now result
fails_later before mid now (Ok x) same failed = failed ∙ same
fails_later before mid now (Err ending) same (inl stays) = inl (stays ∙ same)
fails_later before mid now (Err ending) same (inr is) = inr is

-- a command that ends where a step stopped it
pub stops_first : (old new : Files) (ending : Outcome) → (new.read_faults ≡ old.read_faults) ⊎ (ending ≡ fault) → KeepsAll old new → ReadsFirst old new ending
stops_first old new ending (inl stays) kept = inl stays
stops_first old new ending (inr is) kept = inr (is, kept)

-- what was read later, seen from the beginning
pub read_later : (old mid : Files) (now : ℕ) (name : List ℕ) (limit : ℕ) (result : Result (Vec ℕ) Ending) → KeepsAll old mid → mid.tells ≡ old.tells → mid.read_faults ≡ old.read_faults
    → ReadsInput mid.tells (mid.file name) name limit mid.read_faults now result → ReadsInput old.tells (old.file name) name limit old.read_faults now result
read_later old mid now name limit result kept tells same read = record {
  content = read.content;
  told = λ t. read.told (tells ∙ t) ∙ kept name;
  gives = gives_before read.content name limit old.read_faults mid.read_faults now result (omega (arith, same)) read.gives;
  later = omega (arith, same, read.later);
  failed = fails_later old.read_faults mid.read_faults now result same read.failed;
}
