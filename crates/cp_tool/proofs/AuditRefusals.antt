-- No ending of `audit` has the status 2, and one with 4 is a fault that was counted.
use Rattle.std.proofs.Common.{◌≡◌, inl, inr, ℕ, Bool, true, false, List, Option, Some, None, Result, Ok, Err, length, refl, ap, arith}
use Rattle.std.specs.Prelude.{nat_lt}
use Rattle.cp_bytes.specs.Fields.{◌>>=◌}
use Rattle.cp_outside.specs.Causes.{Rose}
use Rattle.lms_tree.specs.PublicKey.{key_reads}
use Rattle.cp_evidence.specs.Audited.{Refused, audited}
use Rattle.cp_evidence.specs.Audited.Refused.{NotGiven, Malformed}
use Rattle.cp_evidence.specs.Verdict.{Verdict}
use Rattle.cp_evidence.specs.Verdict.Verdict.{Clean, Guilty}
use Rattle.cp_tool.specs.AuditRuns.{AnswerEnds, AuditEnds, AuditFiles, Input, Sources, answered, bytes_of, named, own, own_before, sources_of, verdict_of}
use Rattle.cp_commands.specs.AuditWords.{AuditWords}
use Rattle.cp_endings.specs.Endings.{Outcome}
use Rattle.cp_endings.specs.Folders.{Files, FolderFailed, Stops, input_of}
use Rattle.cp_endings.specs.declared.epoch_part.EpochPart.TheVariants.{Families, Closing, Table, Log}

-- ---- refusals end with 3

abbrev pub Refuses3 : {A : Type 0} → Result A Outcome → Type 0
Refuses3 (Ok x) = Unit {0}
Refuses3 (Err ending) = ending.status ≡ 3

step : {A B : Type 0} (first : Result A Outcome) (then : A → Result B Outcome) → Refuses3 first → ((x : A) → Refuses3 (then x)) → Refuses3 (first >>= then)
step (Ok x) then three others = others x
step (Err ending) then three others = three

input_3 : (content : Option (List ℕ)) (name : List ℕ) (limit : ℕ) → Refuses3 (input_of content name limit)
input_3 None name limit = refl
input_3 (Some bytes) name limit = go (nat_lt limit (length bytes)) refl
  where
    go : (long : Bool) → nat_lt limit (length bytes) ≡ long → Refuses3 (input_of (Some bytes) name limit)
    go true e = rw e refl
    go false e = rw e tt

bytes_3 : (input : Option Input) (content : Option (List ℕ)) → Refuses3 (bytes_of input content)
bytes_3 None content = tt
bytes_3 (Some input) content = input_3 content input.name input.limit

pub sources_3 : (words : AuditWords) (files : AuditFiles) → Refuses3 (sources_of words files)
sources_3 words files = step (bytes_of (named words.key 56) files.key) _ (bytes_3 (named words.key 56) files.key) (λ key. step (bytes_of (own Families words.epoch 1048576) files.families) _ (bytes_3 (own Families words.epoch 1048576) files.families) (λ families. step (bytes_of (own_before Closing words.epoch 16384) files.before) _ (bytes_3 (own_before Closing words.epoch 16384) files.before) (λ before. step (bytes_of (own Closing words.epoch 16384) files.closing) _ (bytes_3 (own Closing words.epoch 16384) files.closing) (λ closing. step (bytes_of (own_before Table words.epoch 16777216) files.table_before) _ (bytes_3 (own_before Table words.epoch 16777216) files.table_before) (λ table_before. step (bytes_of (own Table words.epoch 16777216) files.table) _ (bytes_3 (own Table words.epoch 16777216) files.table) (λ table. step (bytes_of (own Log words.epoch 335544320) files.log) _ (bytes_3 (own Log words.epoch 335544320) files.log) (λ log. step (bytes_of (named words.hand_ins 67108864) files.hand_ins) _ (bytes_3 (named words.hand_ins 67108864) files.hand_ins) (λ hand_ins. tt))))))))

answered_3 : (key : List ℕ) (r : Result Verdict Refused) → Refuses3 (answered key r)
answered_3 key (Ok v) = tt
answered_3 key (Err (NotGiven what)) = refl
answered_3 key (Err (Malformed at)) = refl

verdict_3 : (sources : Sources) → Refuses3 (verdict_of sources)
verdict_3 sources = go (key_reads sources.material.key) refl
  where
    go : (reads : Bool) → key_reads sources.material.key ≡ reads → Refuses3 (verdict_of sources)
    go true e = rw e (answered_3 sources.material.key (audited sources.material sources.hand_ins))
    go false e = rw e refl

-- ---- no ending has the status 2

stops_not2 : (before now : ℕ) (ending : Outcome) → Stops before now ending → ending.status ≡ 2 → ⊥
stops_not2 before now ending (inl fault) e = omega (arith, e, ap (λ o. o.status) fault.0)
stops_not2 before now ending (inr memory) e = omega (arith, e, ap (λ o. o.status) memory)

answer_not2 : (r : Result (List ℕ × Verdict) Outcome) (out : List ℕ) (old new : Files) (ending : Outcome) → Refuses3 r → AnswerEnds r out old new ending → ending.status ≡ 2 → ⊥
answer_not2 (Ok answer) out old new ending three ends e = go answer.1 ends
  where
    go : (v : Verdict) → AnswerEnds (Ok (answer.0, v)) out old new ending → ⊥
    go (Clean entries handed aside) h = omega (arith, e, ap (λ o. o.status) h.0)
    go (Guilty evidence) h =
        elim h.written [
          | inl w ↦ omega (arith, e, ap (λ (o : Outcome). o.status) w.0)
          | inr w ↦ omega (arith, e, ap (λ (o : Outcome). o.status) w.0)
        ]
answer_not2 (Err refusal) out old new ending three ends e = omega (arith, e, three, ap (λ o. o.status) ends.0)

pub audit_not2 : (words : AuditWords) (old new : Files) (ending : Outcome) → AuditEnds words old new ending → ending.status ≡ 2 → ⊥
audit_not2 words old new ending ends e =
    elim ends.ends [
      | inl answer ↦ answer_not2 (sources_of words ends.files >>= verdict_of) words.out old new ending (step (sources_of words ends.files) verdict_of (sources_3 words ends.files) verdict_3) answer e
      | inr stops ↦ stops_not2 _ _ ending stops.0 e
    ]

-- ---- an ending with the status 4 is a counted fault

stops_4 : (before now : ℕ) (ending : Outcome) → Stops before now ending → ending.status ≡ 4 → Rose before now
stops_4 before now ending (inl failed) e = failed.1
stops_4 before now ending (inr memory) e = absurd (omega (arith, e, ap (λ o. o.status) memory))

answer_4 : (r : Result (List ℕ × Verdict) Outcome) (out : List ℕ) (old new : Files) (ending : Outcome) → Refuses3 r → AnswerEnds r out old new ending → ending.status ≡ 4 → Rose old.write_faults new.write_faults
answer_4 (Ok answer) out old new ending three ends e = go answer.1 ends
  where
    go : (v : Verdict) → AnswerEnds (Ok (answer.0, v)) out old new ending → Rose old.write_faults new.write_faults
    go (Clean entries handed aside) h = absurd (omega (arith, e, ap (λ o. o.status) h.0))
    go (Guilty evidence) h =
        elim h.written [
          | inl w ↦ absurd (omega (arith, e, ap (λ (o : Outcome). o.status) w.0))
          | inr w ↦ w.1
        ]
answer_4 (Err refusal) out old new ending three ends e = absurd (omega (arith, e, three, ap (λ o. o.status) ends.0))

pub audit_4 : (words : AuditWords) (old new : Files) (ending : Outcome) → AuditEnds words old new ending → ending.status ≡ 4 → FolderFailed old new
audit_4 words old new ending ends e =
    elim ends.ends [
      | inl answer ↦ inr (answer_4 (sources_of words ends.files >>= verdict_of) words.out old new ending (step (sources_of words ends.files) verdict_of (sources_3 words ends.files) verdict_3) answer e)
      | inr stops ↦ inl (stops_4 _ _ ending stops.0 e)
    ]
