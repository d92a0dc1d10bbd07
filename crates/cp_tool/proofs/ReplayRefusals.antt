-- No ending of `replay` has the status 2, and one with 4 is a fault that was counted.
use Rattle.std.proofs.Common.{◌≡◌, inl, inr, ℕ, Bool, true, false, List, Option, Some, None, Result, Ok, Err, length, refl, ap, arith}
use Rattle.std.specs.Prelude.{nat_lt}
use Rattle.cp_bytes.specs.Fields.{◌>>=◌}
use Rattle.cp_outside.specs.Causes.{Rose}
use Rattle.cp_replay.specs.Replay as replay
use Rattle.cp_replay.specs.Script.{script_of}
use Rattle.cp_replay.specs.declared.line.Line.{Line}
use Rattle.cp_endings.specs.Endings.{Outcome}
use Rattle.cp_endings.specs.Folders.{Files, FolderFailed, Stops, input_of}
use Rattle.cp_tool.specs.ReplayRuns.{ReplayEnds, WrittenEnds, replay_by, replay_in, replay_made}
use Rattle.cp_commands.specs.ReplayWords.{ReplayWords}

-- ---- refusals end with 3

abbrev Refuses3 : {A : Type 0} → Result A Outcome → Type 0
Refuses3 (Ok x) = Unit {0}
Refuses3 (Err ending) = ending.status ≡ 3

step : {A B : Type 0} (first : Result A Outcome) (then : A → Result B Outcome) → Refuses3 first → ((x : A) → Refuses3 (then x)) → Refuses3 (first >>= then)
step (Ok x) then three others = others x
step (Err ending) then three others = three

input_3 : (content : Option (List ℕ)) (name : List ℕ) (limit : ℕ) → Refuses3 (input_of content name limit)
input_3 None name limit = refl
input_3 (Some bytes) name limit = go (nat_lt limit (length bytes)) refl
  where
    go : (long : Bool) → nat_lt limit (length bytes) ≡ long → Refuses3 (input_of (Some bytes) name limit)
    go true e = rw e refl
    go false e = rw e tt

by_3 : (words : ReplayWords) (seed : List ℕ) (lines : Result (List Line) ℕ) → Refuses3 (replay_by words seed lines)
by_3 words seed (Ok lines) = tt
by_3 words seed (Err at) = refl

in_3 : (words : ReplayWords) (seed script : List ℕ) → Refuses3 (replay_in words seed script)
in_3 words seed script = go (nat_lt (length seed) 48) refl
  where
    go : (short : Bool) → nat_lt (length seed) 48 ≡ short → Refuses3 (replay_in words seed script)
    go true e = rw e refl
    go false e = rw e (by_3 words seed (script_of script))

made_3 : (words : ReplayWords) (seed_file script_file : Option (List ℕ)) → Refuses3 (replay_made words seed_file script_file)
made_3 words seed_file script_file = step (input_of seed_file words.seed 48) _ (input_3 seed_file words.seed 48)
    (λ seed. step (input_of script_file words.script 1048576) _ (input_3 script_file words.script 1048576) (λ script. in_3 words seed script))

-- ---- no ending has the status 2

stops_not2 : (before now : ℕ) (ending : Outcome) → Stops before now ending → ending.status ≡ 2 → ⊥
stops_not2 before now ending (inl fault) e = omega (arith, e, ap (λ o. o.status) fault.0)
stops_not2 before now ending (inr memory) e = omega (arith, e, ap (λ o. o.status) memory)

written_not2 : (r : Result replay.ReplayFiles Outcome) (old new : Files) (ending : Outcome) → Refuses3 r → WrittenEnds r old new ending → ending.status ≡ 2 → ⊥
written_not2 (Ok x) old new ending three (inl w) e = omega (arith, e, ap (λ (o : Outcome). o.status) w.0)
written_not2 (Ok x) old new ending three (inr w) e = omega (arith, e, ap (λ (o : Outcome). o.status) w.0)
written_not2 (Err refusal) old new ending three ends e = omega (arith, e, three, ap (λ (o : Outcome). o.status) ends.0)

pub replay_not2 : (words : ReplayWords) (old new : Files) (ending : Outcome) → ReplayEnds words old new ending → ending.status ≡ 2 → ⊥
replay_not2 words old new ending ends e =
    elim ends.ends [
      | inl written ↦ written_not2 (replay_made words ends.seed_file ends.script_file) old new ending (made_3 words ends.seed_file ends.script_file) written e
      | inr stops ↦ stops_not2 _ _ ending stops.0 e
    ]

-- ---- an ending with the status 4 is a counted fault

stops_4 : (before now : ℕ) (ending : Outcome) → Stops before now ending → ending.status ≡ 4 → Rose before now
stops_4 before now ending (inl failed) e = failed.1
stops_4 before now ending (inr memory) e = absurd (omega (arith, e, ap (λ o. o.status) memory))

written_4 : (r : Result replay.ReplayFiles Outcome) (old new : Files) (ending : Outcome) → Refuses3 r → WrittenEnds r old new ending → ending.status ≡ 4 → Rose old.write_faults new.write_faults
written_4 (Ok x) old new ending three (inl w) e = absurd (omega (arith, e, ap (λ (o : Outcome). o.status) w.0))
written_4 (Ok x) old new ending three (inr w) e = w.1
written_4 (Err refusal) old new ending three ends e = absurd (omega (arith, e, three, ap (λ (o : Outcome). o.status) ends.0))

pub replay_4 : (words : ReplayWords) (old new : Files) (ending : Outcome) → ReplayEnds words old new ending → ending.status ≡ 4 → FolderFailed old new
replay_4 words old new ending ends e =
    elim ends.ends [
      | inl written ↦ inr (written_4 (replay_made words ends.seed_file ends.script_file) old new ending (made_3 words ends.seed_file ends.script_file) written e)
      | inr stops ↦ inl (stops_4 _ _ ending stops.0 e)
    ]
