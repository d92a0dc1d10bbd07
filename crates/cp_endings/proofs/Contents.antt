-- What reading an input file gives, from what reading a whole file gives.
use Rattle.std.proofs.Common.{◌≡◌, ℕ, ◌+◌, ◌<◌, ◌≤◌, Bool, true, false, List, Option, Some, None, Result, Ok, Err, length, refl, sym, subst, arith, inl, inr}
use Rattle.std.specs.Prelude.{IsSomeAnd, IsTrue, replicate}
use Rattle.std.specs.Global.{Vec}
use Rattle.std.proofs.lemmas.Bool.{lt-ltb, le-ltb}
use Rattle.std.proofs.lemmas.List.{length-replicate}
use Rattle.cp_outside.specs.Causes.{Rose}
use Rattle.cp_outside.specs.WholeFiles.{ReadsWhole, OnFailed, UnlessFailed}
use Rattle.cp_outside.specs.declared.whole_files.ReadWhole.{ReadWhole}
use Rattle.cp_outside.specs.declared.whole_files.ReadWhole.TheVariants as whole
use Rattle.cp_endings.specs.Endings.{missing, too_long}
use Rattle.cp_endings.specs.View.{ending_view}
use Rattle.cp_endings.specs.Folders.{input_of}
use Rattle.cp_endings.specs.Inputs.{ReadsInput}
use Rattle.cp_endings.specs.declared.ending.Ending.{Ending}
use Rattle.cp_endings.specs.declared.ending.Ending.TheVariants.{TooLong, Fault, NoMemory}

-- a content of more than so many bytes, which is the file where the folder tells its files
long_content : (tells : Bool) (file : Option (List ℕ)) (limit : ℕ) → (IsTrue tells → IsSomeAnd file (λ bytes. limit < length bytes))
    → (content : Option (List ℕ)) × (IsTrue tells → content ≡ file) × IsSomeAnd content (λ bytes. limit < length bytes)
long_content true file limit long = (file, λ told. refl, long refl)
long_content false file limit long =
    let bytes : List ℕ = replicate (limit + 1) 0 in
    let long_enough : length bytes ≡ limit + 1 = length-replicate (limit + 1) _ in
    (Some bytes, λ told. absurd cc, omega (arith, long_enough))

input_within : (bytes name : List ℕ) (limit : ℕ) → length bytes ≤ limit → input_of (Some bytes) name limit ≡ Ok bytes
input_within bytes name limit within = rw (le-ltb limit (length bytes) within) refl

input_beyond : (content : Option (List ℕ)) (name : List ℕ) (limit : ℕ) → IsSomeAnd content (λ bytes. limit < length bytes) → input_of content name limit ≡ Err (too_long limit)
input_beyond None name limit long = absurd long
input_beyond (Some bytes) name limit long = rw (lt-ltb limit (length bytes) long) refl

pub read_ok : (tells : Bool) (file : Option (List ℕ)) (name : List ℕ) (limit before now : ℕ) (bytes : Vec ℕ)
    → (IsTrue tells → (file ≡ Some bytes.items) × (length bytes.items ≤ limit)) → length bytes.items ≤ limit → now ≡ before
    → ReadsInput tells file name limit before now (Ok bytes)
read_ok tells file name limit before now bytes told within same =
    record { content = Some bytes.items; told = λ t. sym (told t).0; gives = input_within bytes.items name limit within; later = omega (arith, same); failed = same }

abbrev Refused : ReadWhole → Result (Vec ℕ) ReadWhole
Refused refusal = Err refusal

pub read_missing : (tells : Bool) (file : Option (List ℕ)) (name : List ℕ) (limit before now : ℕ) (refusal : ReadWhole) (ending : Ending) → refusal ≡ whole.Missing → ending_view ending ≡ missing name
    → (IsTrue tells → ReadsWhole file limit (Err refusal)) → UnlessFailed (Refused refusal) (now ≡ before) → ReadsInput tells file name limit before now (Err ending)
read_missing tells file name limit before now refusal ending is said told stays =
    let same : now ≡ before = subst (λ r. UnlessFailed (Refused r) (now ≡ before)) is stays in
    record {
      content = None;
      told = λ t. sym (subst (λ r. ReadsWhole file limit (Err r)) is (told t));
      gives = inl (rw said refl);
      later = omega (arith, same);
      failed = inl same;
    }

pub read_too_long : (tells : Bool) (file : Option (List ℕ)) (name : List ℕ) (limit before now : ℕ) (refusal : ReadWhole) (named : ℕ) → refusal ≡ whole.TooLong named
    → (IsTrue tells → ReadsWhole file limit (Err refusal)) → UnlessFailed (Refused refusal) (now ≡ before) → ReadsInput tells file name limit before now (Err (TooLong limit))
read_too_long tells file name limit before now refusal named is told stays =
    let same : now ≡ before = subst (λ r. UnlessFailed (Refused r) (now ≡ before)) is stays in
    let found = long_content tells file limit (λ t. subst (λ r. ReadsWhole file limit (Err r)) is (told t)) in
    record { content = found.0; told = found.1; gives = inl (input_beyond found.0 name limit found.2); later = omega (arith, same); failed = inl same }

pub read_failed : (tells : Bool) (file : Option (List ℕ)) (name : List ℕ) (limit before now : ℕ) (refusal : ReadWhole) → refusal ≡ whole.Failed
    → OnFailed (Refused refusal) (Rose before now) → before ≤ now → ReadsInput tells file name limit before now (Err Fault)
read_failed tells file name limit before now refusal is rose later =
    record { content = file; told = λ t. refl; gives = inr (inl (refl, subst (λ r. OnFailed (Refused r) (Rose before now)) is rose)); later = later; failed = inr refl }

pub read_unkept : (tells : Bool) (file : Option (List ℕ)) (name : List ℕ) (limit before now : ℕ) (refusal : ReadWhole) → refusal ≡ whole.OutOfMemory → UnlessFailed (Refused refusal) (now ≡ before)
    → ReadsInput tells file name limit before now (Err NoMemory)
read_unkept tells file name limit before now refusal is stays =
    let same : now ≡ before = subst (λ r. UnlessFailed (Refused r) (now ≡ before)) is stays in
    record { content = file; told = λ t. refl; gives = inr (inr refl); later = omega (arith, same); failed = inl same }
