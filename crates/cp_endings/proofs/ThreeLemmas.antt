-- What reading three files gives, from what reading each gave.
use Rattle.std.proofs.Common.{◌≡◌, ◌⊎◌, inl, inr, ℕ, Result, Ok, Err, refl, ◌∙◌, arith}
use Rattle.std.specs.Global.{Vec}
use Rattle.cp_endings.specs.Endings.{Outcome}
use Rattle.cp_endings.specs.Folders.{Files, input_of, KeepsAll, Stops}
use Rattle.cp_endings.proofs.InputLemmas.{fails_later, stops_before}
use Rattle.cp_endings.specs.Inputs.{ReadsInput}
use Rattle.cp_endings.specs.ThreeInputs.{Input, Three, three_of, GivesThree, ReadsThree}
use Rattle.cp_endings.specs.View.{ending_view}
use Rattle.cp_endings.specs.declared.ending.Ending.{Ending}
use Rattle.cp_endings.specs.declared.three.ThreeFiles.{ThreeFiles}

pub three_first : (a b c : Input) (old new : Files) (ending : Ending) → ReadsInput old.tells (old.file a.name) a.name a.limit old.read_faults new.read_faults (Err ending) → ReadsThree a b c old new (Err ending)
three_first a b c old new ending read = record {
  first_file = read.content;
  second_file = old.file b.name;
  third_file = old.file c.name;
  first_is = read.told;
  second_is = λ t. refl;
  third_is = λ t. refl;
  gives = gives read.gives;
  later = read.later;
  failed = read.failed;
}
  where
    gives : (input_of read.content a.name a.limit ≡ Err (ending_view ending)) ⊎ Stops old.read_faults new.read_faults (ending_view ending)
        → (three_of read.content a (old.file b.name) b (old.file c.name) c ≡ Err (ending_view ending)) ⊎ Stops old.read_faults new.read_faults (ending_view ending)
    gives (inl refused) = inl (rw refused refl)
    gives (inr stops) = inr stops

pub three_second : (a b c : Input) (old new : Files) (after : ℕ) (x : Vec ℕ) (ending : Ending) → ReadsInput old.tells (old.file a.name) a.name a.limit old.read_faults after (Ok x)
    → ReadsInput old.tells (old.file b.name) b.name b.limit old.read_faults new.read_faults (Err ending) → ReadsThree a b c old new (Err ending)
three_second a b c old new after x ending first second = record {
  first_file = first.content;
  second_file = second.content;
  third_file = old.file c.name;
  first_is = first.told;
  second_is = second.told;
  third_is = λ t. refl;
  gives = gives second.gives;
  later = second.later;
  failed = second.failed;
}
  where
    gives : (input_of second.content b.name b.limit ≡ Err (ending_view ending)) ⊎ Stops old.read_faults new.read_faults (ending_view ending)
        → (three_of first.content a second.content b (old.file c.name) c ≡ Err (ending_view ending)) ⊎ Stops old.read_faults new.read_faults (ending_view ending)
    gives (inl refused) = inl (rw (first.gives, refused) refl)
    gives (inr stops) = inr stops

pub three_third : (a b c : Input) (old new : Files) (after later : ℕ) (x y : Vec ℕ) (ending : Ending) → ReadsInput old.tells (old.file a.name) a.name a.limit old.read_faults after (Ok x)
    → ReadsInput old.tells (old.file b.name) b.name b.limit old.read_faults later (Ok y)
    → ReadsInput old.tells (old.file c.name) c.name c.limit old.read_faults new.read_faults (Err ending) → ReadsThree a b c old new (Err ending)
three_third a b c old new after later x y ending first second third = record {
  first_file = first.content;
  second_file = second.content;
  third_file = third.content;
  first_is = first.told;
  second_is = second.told;
  third_is = third.told;
  gives = gives third.gives;
  later = third.later;
  failed = third.failed;
}
  where
    gives : (input_of third.content c.name c.limit ≡ Err (ending_view ending)) ⊎ Stops old.read_faults new.read_faults (ending_view ending)
        → (three_of first.content a second.content b third.content c ≡ Err (ending_view ending)) ⊎ Stops old.read_faults new.read_faults (ending_view ending)
    gives (inl refused) = inl (rw (first.gives, second.gives, refused) refl)
    gives (inr stops) = inr stops

pub three_all : (a b c : Input) (old new : Files) (after later : ℕ) (files : ThreeFiles) → ReadsInput old.tells (old.file a.name) a.name a.limit old.read_faults after (Ok files.first)
    → ReadsInput old.tells (old.file b.name) b.name b.limit old.read_faults later (Ok files.second)
    → ReadsInput old.tells (old.file c.name) c.name c.limit old.read_faults new.read_faults (Ok files.third) → ReadsThree a b c old new (Ok files)
three_all a b c old new after later files first second third = record {
  first_file = first.content;
  second_file = second.content;
  third_file = third.content;
  first_is = first.told;
  second_is = second.told;
  third_is = third.told;
  gives = rw (first.gives, second.gives, third.gives) refl;
  later = third.later;
  failed = third.failed;
}

-- what was read later, seen from the beginning
pub three_later : (a b c : Input) (old mid new : Files) (result : Result ThreeFiles Ending) → KeepsAll old mid → mid.tells ≡ old.tells → mid.read_faults ≡ old.read_faults → ReadsThree a b c mid new result → ReadsThree a b c old new result
three_later a b c old mid new result kept tells same reads = record {
  first_file = reads.first_file;
  second_file = reads.second_file;
  third_file = reads.third_file;
  first_is = λ t. reads.first_is (tells ∙ t) ∙ kept a.name;
  second_is = λ t. reads.second_is (tells ∙ t) ∙ kept b.name;
  third_is = λ t. reads.third_is (tells ∙ t) ∙ kept c.name;
  gives = gives (three_of reads.first_file a reads.second_file b reads.third_file c) result reads.gives;
  later = omega (arith, same, reads.later);
  failed = fails_later old.read_faults mid.read_faults new.read_faults result same reads.failed;
}
  where
    gives : (three : Result Three Outcome) (r : Result ThreeFiles Ending) → GivesThree three mid.read_faults new.read_faults r → GivesThree three old.read_faults new.read_faults r
    gives three (Ok files) is = is
    gives three (Err ending) (inl refused) = inl refused
    gives three (Err ending) (inr stops) = inr (stops_before old.read_faults mid.read_faults new.read_faults _ (omega (arith, same)) stops)
