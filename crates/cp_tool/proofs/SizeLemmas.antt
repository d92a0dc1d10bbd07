-- The evidence of an audit is within the limit of what `judge` reads.
use Rattle.std.proofs.Common.{◌≡◌, ℕ, ◌-◌, ◌≤◌, Bool, true, false, cond, List, [], Option, Some, None, Result, Ok, Err, length, refl, subst, arith}
use Rattle.std.specs.Prelude.{nat_le, nat_lt}
use Rattle.std.proofs.lemmas.Bool.{ltb-false}
use Rattle.cp_bytes.specs.Fields.{◌>>=◌}
use Rattle.cp_evidence.specs.AuditLaws.{evidence_limit}
use Rattle.cp_commands.specs.AuditWords.{AuditWords}
use Rattle.cp_endings.specs.Endings.{Outcome, too_long}
use Rattle.cp_endings.specs.declared.epoch_part.EpochPart.{EpochPart}
use Rattle.cp_endings.specs.declared.epoch_part.EpochPart.TheVariants.{Families, Closing, Table, Log}
use Rattle.cp_tool.specs.AuditRuns.{Input, AuditFiles, Sources, bytes_of, named, own, own_before, sources_of}

ok_is : {A E : Type 0} (a b : A) → (let r : Result A E = Ok a in r) ≡ Ok b → a ≡ b
ok_is a b e = cc

bind_ok : {A B E : Type 0} (r : Result A E) (f : A → Result B E) (y : B) → r >>= f ≡ Ok y → (x : A) × (r ≡ Ok x) × (f x ≡ Ok y)
bind_ok (Ok x) f y e = (x, refl, e)
bind_ok (Err d) f y e = absurd cc

-- a file that is read is within its limit
named_within : (content : Option (List ℕ)) (name : List ℕ) (limit : ℕ) (bytes : List ℕ) → bytes_of (named name limit) content ≡ Ok bytes → length bytes ≤ limit
named_within None name limit bytes e = absurd cc
named_within (Some found) name limit bytes e = go (nat_lt limit (length found)) refl e
  where
    go : (long : Bool) → nat_lt limit (length found) ≡ long → cond {A = Result (List ℕ) Outcome} long (Err (too_long limit)) (Ok found) ≡ Ok bytes → length bytes ≤ limit
    go true is h = absurd cc
    go false is h = subst (λ (l : List ℕ). length l ≤ limit) (ok_is {E = Outcome} found bytes h) (ltb-false limit (length found) is)

-- so is one of the epoch before, where there is one
before_within : (part : EpochPart) (epoch limit : ℕ) (content : Option (List ℕ)) (bytes : List ℕ) → bytes_of (own_before part epoch limit) content ≡ Ok bytes → length bytes ≤ limit
before_within part epoch limit content bytes e = go (nat_le epoch 1) e
  where
    go : (first : Bool) → bytes_of (cond {A = Option Input} first None (own part (epoch - 1) limit)) content ≡ Ok bytes → length bytes ≤ limit
    go true h = let none : [] ≡ bytes = ok_is {E = Outcome} [] bytes h in subst (λ (l : List ℕ). length l ≤ limit) none (omega arith)
    go false h = named_within content _ limit bytes h

pub sources_within : (words : AuditWords) (files : AuditFiles) (s : Sources) → sources_of words files ≡ Ok s → evidence_limit s.material s.hand_ins ≤ 536870912
sources_within words files s e =
    let key = bind_ok (bytes_of (named words.key 56) files.key) _ s e in
    let families = bind_ok (bytes_of (own Families words.epoch 1048576) files.families) _ s key.2 in
    let before = bind_ok (bytes_of (own_before Closing words.epoch 16384) files.before) _ s families.2 in
    let closing = bind_ok (bytes_of (own Closing words.epoch 16384) files.closing) _ s before.2 in
    let table_before = bind_ok (bytes_of (own_before Table words.epoch 16777216) files.table_before) _ s closing.2 in
    let table = bind_ok (bytes_of (own Table words.epoch 16777216) files.table) _ s table_before.2 in
    let log = bind_ok (bytes_of (own Log words.epoch 335544320) files.log) _ s table.2 in
    let hand_ins = bind_ok (bytes_of (named words.hand_ins 67108864) files.hand_ins) _ s log.2 in
    let families_fit : length families.0 ≤ 1048576 = named_within files.families _ 1048576 families.0 families.1 in
    let before_fits : length before.0 ≤ 16384 = before_within Closing words.epoch 16384 files.before before.0 before.1 in
    let closing_fits : length closing.0 ≤ 16384 = named_within files.closing _ 16384 closing.0 closing.1 in
    let table_before_fits : length table_before.0 ≤ 16777216 = before_within Table words.epoch 16777216 files.table_before table_before.0 table_before.1 in
    let table_fits : length table.0 ≤ 16777216 = named_within files.table _ 16777216 table.0 table.1 in
    let log_fits : length log.0 ≤ 335544320 = named_within files.log _ 335544320 log.0 log.1 in
    let hand_ins_fit : length hand_ins.0 ≤ 67108864 = named_within files.hand_ins _ 67108864 hand_ins.0 hand_ins.1 in
    subst (λ (z : Sources). evidence_limit z.material z.hand_ins ≤ 536870912) (ok_is {E = Outcome} _ s hand_ins.2) (omega (arith, families_fit, before_fits, closing_fits, table_before_fits, table_fits, log_fits, hand_ins_fit))
