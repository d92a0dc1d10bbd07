-- Reading the files of an audit, one after another.
use Rattle.std.proofs.Common.{◌≡◌, inl, inr, ℕ, ◌≤◌, Bool, List, [], Option, Some, None, Result, Ok, Err, refl, sym, ap, subst, ◌∙◌, arith}
use Rattle.std.specs.Prelude.{IsTrue}
use Rattle.std.specs.Global.{Vec}
use Rattle.cp_tool.specs.AuditInputs.{Follows, GivesBytes, ReadsSource}
use Rattle.cp_tool.specs.AuditRuns.{Input, AuditFiles, bytes_of, content_at, named, own, own_before, sources_of}
use Rattle.cp_commands.specs.AuditWords.{AuditWords}
use Rattle.cp_endings.specs.EpochFiles.{epoch_file}
use Rattle.cp_endings.specs.Endings.{Outcome}
use Rattle.cp_endings.specs.Folders.{Files, KeepsAll}
use Rattle.cp_endings.specs.Inputs.{GivesInput, ReadsInput}
use Rattle.cp_endings.specs.declared.audit_ending.AuditEnding.TheVariants.{Missing}
use Rattle.cp_endings.specs.declared.ending.Ending.{Ending}
use Rattle.cp_endings.specs.declared.ending.Ending.TheVariants.{Audited}
use Rattle.cp_endings.specs.declared.epoch_part.EpochPart.{EpochPart}
use Rattle.cp_endings.specs.declared.epoch_part.EpochPart.TheVariants.{Families, Closing, Table, Log}
use Rattle.cp_endings.proofs.InputLemmas.{fails_later, stops_before}

-- ---- the folder from read to read

pub follows_none : (old : Files) → Follows old old
follows_none old = record { kept = λ n. refl; tells = refl; later = omega arith }

pub follows_next : (old mid new : Files) → Follows old mid → KeepsAll mid new → new.tells ≡ mid.tells → mid.read_faults ≤ new.read_faults → Follows old new
follows_next old mid new f kept tells later = record { kept = λ n. kept n ∙ f.kept n; tells = tells ∙ f.tells; later = omega (arith, f.later, later) }

content_kept : (old mid : Files) (input : Option Input) → KeepsAll old mid → content_at mid.file input ≡ content_at old.file input
content_kept old mid None kept = refl
content_kept old mid (Some input) kept = kept input.name

gives_before : (input : Option Input) (content : Option (List ℕ)) (a b c : ℕ) (result : Result (Vec ℕ) Ending) → a ≤ b → GivesBytes input content b c result → GivesBytes input content a c result
gives_before input content a b c (Ok bytes) later gives = gives
gives_before input content a b c (Err ending) later (inl refused) = inl refused
gives_before input content a b c (Err ending) later (inr stops) = inr (stops_before a b c _ later stops)

-- what was read later, seen from the beginning
pub source_later : (old mid : Files) (input : Option Input) (now : ℕ) (result : Result (Vec ℕ) Ending) → Follows old mid → mid.read_faults ≡ old.read_faults → ReadsSource mid.tells mid.file input mid.read_faults now result → ReadsSource old.tells old.file input old.read_faults now result
source_later old mid input now result f same read = record {
  content = read.content;
  told = λ t. read.told (f.tells ∙ t) ∙ content_kept old mid input f.kept;
  gives = gives_before input read.content old.read_faults mid.read_faults now result f.later read.gives;
  later = omega (arith, f.later, read.later);
  failed = fails_later old.read_faults mid.read_faults now result same read.failed;
}

-- an input file is such a source
gives_named : (name : List ℕ) (limit : ℕ) (content : Option (List ℕ)) (before now : ℕ) (result : Result (Vec ℕ) Ending) → GivesInput content name limit before now result → GivesBytes (named name limit) content before now result
gives_named name limit content before now (Ok bytes) gives = gives
gives_named name limit content before now (Err ending) gives = gives

pub input_source : (tells : Bool) (file : List ℕ → Option (List ℕ)) (name : List ℕ) (limit before now : ℕ) (result : Result (Vec ℕ) Ending) → ReadsInput tells (file name) name limit before now result → ReadsSource tells file (named name limit) before now result
input_source tells file name limit before now result read = record { content = read.content; told = read.told; gives = gives_named name limit read.content before now result read.gives; later = read.later; failed = read.failed }

-- so is the file of a part, where this is its name
pub own_source : (tells : Bool) (file : List ℕ → Option (List ℕ)) (part : EpochPart) (epoch : ℕ) (name : List ℕ) (limit before now : ℕ) (result : Result (Vec ℕ) Ending) → name ≡ epoch_file part epoch
    → ReadsInput tells (file name) name limit before now result → ReadsSource tells file (own part epoch limit) before now result
own_source tells file part epoch name limit before now result same read = input_source tells file (epoch_file part epoch) limit before now result (subst (λ (n : List ℕ). ReadsInput tells (file n) n limit before now result) same read)

-- where there is no such file
pub own_missing : (tells : Bool) (file : List ℕ → Option (List ℕ)) (part : EpochPart) (epoch : ℕ) (name : List ℕ) (limit before now : ℕ) → name ≡ epoch_file part epoch → (IsTrue tells → file name ≡ None) → now ≡ before
    → ReadsSource tells file (own part epoch limit) before now (Err (Audited (Missing part epoch)))
own_missing tells file part epoch name limit before now same none stays = record { content = None; told = λ t. sym (none t) ∙ ap file same; gives = inl refl; later = omega (arith, stays); failed = inl stays }

-- where there is none to read
pub no_source : (tells : Bool) (file : List ℕ → Option (List ℕ)) (now : ℕ) (bytes : Vec ℕ) → bytes.items ≡ [] → ReadsSource tells file None now now (Ok bytes)
no_source tells file now bytes empty = record { content = None; told = λ t. refl; gives = ap (λ (l : List ℕ). Ok l) (sym empty); later = omega arith; failed = refl }

-- ---- the first that is refused, or all

module _ (words : AuditWords) (files : AuditFiles) where
  pub refused_1 : (ending : Outcome) → bytes_of (named words.key 56) files.key ≡ Err ending → sources_of words files ≡ Err ending
  refused_1 ending e = rw e refl

  pub refused_2 : (key : List ℕ) (ending : Outcome) → bytes_of (named words.key 56) files.key ≡ Ok key → bytes_of (own Families words.epoch 1048576) files.families ≡ Err ending → sources_of words files ≡ Err ending
  refused_2 key ending p0 e = rw (p0, e) refl

  pub refused_3 : (key families : List ℕ) (ending : Outcome) → bytes_of (named words.key 56) files.key ≡ Ok key → bytes_of (own Families words.epoch 1048576) files.families ≡ Ok families → bytes_of (own_before Closing words.epoch 16384) files.before ≡ Err ending → sources_of words files ≡ Err ending
  refused_3 key families ending p0 p1 e = rw (p0, p1, e) refl

  pub refused_4 : (key families before : List ℕ) (ending : Outcome) → bytes_of (named words.key 56) files.key ≡ Ok key → bytes_of (own Families words.epoch 1048576) files.families ≡ Ok families → bytes_of (own_before Closing words.epoch 16384) files.before ≡ Ok before → bytes_of (own Closing words.epoch 16384) files.closing ≡ Err ending → sources_of words files ≡ Err ending
  refused_4 key families before ending p0 p1 p2 e = rw (p0, p1, p2, e) refl

  pub refused_5 : (key families before closing : List ℕ) (ending : Outcome) → bytes_of (named words.key 56) files.key ≡ Ok key → bytes_of (own Families words.epoch 1048576) files.families ≡ Ok families → bytes_of (own_before Closing words.epoch 16384) files.before ≡ Ok before → bytes_of (own Closing words.epoch 16384) files.closing ≡ Ok closing → bytes_of (own_before Table words.epoch 16777216) files.table_before ≡ Err ending → sources_of words files ≡ Err ending
  refused_5 key families before closing ending p0 p1 p2 p3 e = rw (p0, p1, p2, p3, e) refl

  pub refused_6 : (key families before closing table_before : List ℕ) (ending : Outcome) → bytes_of (named words.key 56) files.key ≡ Ok key → bytes_of (own Families words.epoch 1048576) files.families ≡ Ok families → bytes_of (own_before Closing words.epoch 16384) files.before ≡ Ok before → bytes_of (own Closing words.epoch 16384) files.closing ≡ Ok closing → bytes_of (own_before Table words.epoch 16777216) files.table_before ≡ Ok table_before → bytes_of (own Table words.epoch 16777216) files.table ≡ Err ending → sources_of words files ≡ Err ending
  refused_6 key families before closing table_before ending p0 p1 p2 p3 p4 e = rw (p0, p1, p2, p3, p4, e) refl

  pub refused_7 : (key families before closing table_before table : List ℕ) (ending : Outcome) → bytes_of (named words.key 56) files.key ≡ Ok key → bytes_of (own Families words.epoch 1048576) files.families ≡ Ok families → bytes_of (own_before Closing words.epoch 16384) files.before ≡ Ok before → bytes_of (own Closing words.epoch 16384) files.closing ≡ Ok closing → bytes_of (own_before Table words.epoch 16777216) files.table_before ≡ Ok table_before → bytes_of (own Table words.epoch 16777216) files.table ≡ Ok table → bytes_of (own Log words.epoch 335544320) files.log ≡ Err ending → sources_of words files ≡ Err ending
  refused_7 key families before closing table_before table ending p0 p1 p2 p3 p4 p5 e = rw (p0, p1, p2, p3, p4, p5, e) refl

  pub refused_8 : (key families before closing table_before table log : List ℕ) (ending : Outcome) → bytes_of (named words.key 56) files.key ≡ Ok key → bytes_of (own Families words.epoch 1048576) files.families ≡ Ok families → bytes_of (own_before Closing words.epoch 16384) files.before ≡ Ok before → bytes_of (own Closing words.epoch 16384) files.closing ≡ Ok closing → bytes_of (own_before Table words.epoch 16777216) files.table_before ≡ Ok table_before → bytes_of (own Table words.epoch 16777216) files.table ≡ Ok table → bytes_of (own Log words.epoch 335544320) files.log ≡ Ok log → bytes_of (named words.hand_ins 67108864) files.hand_ins ≡ Err ending → sources_of words files ≡ Err ending
  refused_8 key families before closing table_before table log ending p0 p1 p2 p3 p4 p5 p6 e = rw (p0, p1, p2, p3, p4, p5, p6, e) refl

  pub all_read : (key families before closing table_before table log hand_ins : List ℕ) → bytes_of (named words.key 56) files.key ≡ Ok key → bytes_of (own Families words.epoch 1048576) files.families ≡ Ok families → bytes_of (own_before Closing words.epoch 16384) files.before ≡ Ok before → bytes_of (own Closing words.epoch 16384) files.closing ≡ Ok closing → bytes_of (own_before Table words.epoch 16777216) files.table_before ≡ Ok table_before → bytes_of (own Table words.epoch 16777216) files.table ≡ Ok table → bytes_of (own Log words.epoch 335544320) files.log ≡ Ok log → bytes_of (named words.hand_ins 67108864) files.hand_ins ≡ Ok hand_ins → sources_of words files ≡ Ok (record { material = record { key = key; epoch = words.epoch; families = families; before = before; closing = closing; table_before = table_before; table = table; log = log }; hand_ins = hand_ins })
  all_read key families before closing table_before table log hand_ins p0 p1 p2 p3 p4 p5 p6 p7 = rw (p0, p1, p2, p3, p4, p5, p6, p7) refl
