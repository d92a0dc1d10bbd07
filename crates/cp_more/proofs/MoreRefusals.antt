-- No ending of `certify`, `judge-life` or `forgery` has the status 2, and one with 4 is a fault that was counted.
use Rattle.std.proofs.Common.{◌≡◌, ◌⊎◌, inl, inr, ℕ, Bool, true, false, cond, List, [], Option, Some, None, Result, Ok, Err, length, refl, sym, ap, ◌∙◌, arith}
use Rattle.std.specs.Prelude.{nat_lt}
use Rattle.cp_bytes.specs.Fields.{◌>>=◌}
use Rattle.cp_outside.specs.Causes.{Rose}
use Rattle.lms_tree.specs.Secret.{Secret, leaves_of, public_of}
use Rattle.lms_tree.specs.Verifying.{leaf_of, verifies}
use Rattle.lms_forge.specs.Pairs.{text_at}
use Rattle.lms_forge.specs.Witness.{witness_of}
use Rattle.lms_forge.specs.declared.witness.Witness.{Witness}
use Rattle.lms_forge.specs.declared.witness.Witness.TheVariants.{Twins, Low}
use Rattle.cp_judge.specs.Lives.{life_judgement_of}
use Rattle.cp_judge.specs.declared.judgement.Judgement.{Judgement}
use Rattle.cp_judge.specs.declared.judgement.Judgement.TheVariants as judgement
use Rattle.cp_judge.specs.declared.lives.LifeJudgement.{LifeJudgement}
use Rattle.cp_judge.specs.declared.lives.LifeJudgement.TheVariants.{BadKey, BadCertificate, Judged}
use Rattle.cp_commands.specs.MoreWords.{CertifyWords, ForgeryWords}
use Rattle.cp_endings.specs.Endings.{Outcome, judged, short_seed}
use Rattle.cp_endings.specs.Folders.{Files, FolderFailed, Stops, ending_of, input_of}
use Rattle.cp_endings.specs.ThreeInputs.{Input, Three, three_of}
use Rattle.cp_more.specs.Certifying.{CertifyEnds, LifeEnds, LifeFiles, life_files, life_made}
use Rattle.cp_more.specs.Forging.{ForgeryEnds, forgery_ending, forgery_in, forgery_inputs, is_known, of_pairs, of_read, unless_used, witnessed}
use Rattle.cp_more.specs.LifeJudging.{JudgeLifeEnds, judge_life_ending, life_inputs, life_judged}
use Rattle.cp_more.specs.Pairs.{clash, pairs_of}
use Rattle.cp_more.specs.Seeds.{secret_in}

-- neither the status of the usage nor that of a fault
abbrev IsPlain : Outcome → Type 0
IsPlain ending = (ending.status ≡ 2 → ⊥) × (ending.status ≡ 4 → ⊥)

abbrev RefusesWell : {A : Type 0} → Result A Outcome → Type 0
RefusesWell (Ok x) = Unit {0}
RefusesWell (Err ending) = IsPlain ending

same_plain : (a b : Outcome) → a ≡ b → IsPlain b → IsPlain a
same_plain a b same plain = (λ e. plain.0 (sym (ap (λ (o : Outcome). o.status) same) ∙ e), λ e. plain.1 (sym (ap (λ (o : Outcome). o.status) same) ∙ e))

step : {A B : Type 0} (first : Result A Outcome) (then : A → Result B Outcome) → RefusesWell first → ((x : A) → RefusesWell (then x)) → RefusesWell (first >>= then)
step (Ok x) then well others = others x
step (Err ending) then well others = well

last : {A : Type 0} (first : Result A Outcome) (then : A → Result Outcome Outcome) → RefusesWell first → ((x : A) → IsPlain (ending_of (then x))) → IsPlain (ending_of (first >>= then))
last (Ok x) then well others = others x
last (Err ending) then well others = well

input_well : (content : Option (List ℕ)) (name : List ℕ) (limit : ℕ) → RefusesWell (input_of content name limit)
input_well None name limit = (λ e. omega (arith, e), λ e. omega (arith, e))
input_well (Some bytes) name limit = go (nat_lt limit (length bytes)) refl
  where
    go : (long : Bool) → nat_lt limit (length bytes) ≡ long → RefusesWell (input_of (Some bytes) name limit)
    go true e = rw e (λ e. omega (arith, e), λ e. omega (arith, e))
    go false e = rw e tt

three_well : (af : Option (List ℕ)) (a : Input) (bf : Option (List ℕ)) (b : Input) (cf : Option (List ℕ)) (c : Input) → RefusesWell (three_of af a bf b cf c)
three_well af a bf b cf c = step (input_of af a.name a.limit) _ (input_well af a.name a.limit)
    (λ x. step (input_of bf b.name b.limit) _ (input_well bf b.name b.limit) (λ y. step (input_of cf c.name c.limit) _ (input_well cf c.name c.limit) (λ z. tt)))

stops_not2 : (before now : ℕ) (ending : Outcome) → Stops before now ending → ending.status ≡ 2 → ⊥
stops_not2 before now ending (inl fault) e = omega (arith, e, ap (λ o. o.status) fault.0)
stops_not2 before now ending (inr memory) e = omega (arith, e, ap (λ o. o.status) memory)

stops_4 : (before now : ℕ) (ending : Outcome) → Stops before now ending → ending.status ≡ 4 → Rose before now
stops_4 before now ending (inl failed) e = failed.1
stops_4 before now ending (inr memory) e = absurd (omega (arith, e, ap (λ o. o.status) memory))

known_not2 : (known ending : Outcome) (before now : ℕ) → IsPlain known → (ending ≡ known) ⊎ Stops before now ending → ending.status ≡ 2 → ⊥
known_not2 known ending before now plain (inl same) e = (same_plain ending known same plain).0 e
known_not2 known ending before now plain (inr stops) e = stops_not2 before now ending stops e

known_4 : (known ending : Outcome) (before now : ℕ) → IsPlain known → (ending ≡ known) ⊎ Stops before now ending → ending.status ≡ 4 → Rose before now
known_4 known ending before now plain (inl same) e = absurd ((same_plain ending known same plain).1 e)
known_4 known ending before now plain (inr stops) e = stops_4 before now ending stops e

-- ---- judge-life

judged_plain : (j : Judgement) → IsPlain (judged j)
judged_plain judgement.BadKey = (λ e. omega (arith, e), λ e. omega (arith, e))
judged_plain (judgement.Malformed at) = (λ e. omega (arith, e), λ e. omega (arith, e))
judged_plain (judgement.NotEvidence kind condition) = (λ e. omega (arith, e), λ e. omega (arith, e))
judged_plain (judgement.Guilty kind) = (λ e. omega (arith, e), λ e. omega (arith, e))

life_plain : (j : LifeJudgement) → IsPlain (life_judged j)
life_plain BadKey = (λ e. omega (arith, e), λ e. omega (arith, e))
life_plain BadCertificate = (λ e. omega (arith, e), λ e. omega (arith, e))
life_plain (Judged j) = judged_plain j

judge_life_plain : (k c e : List ℕ) (kf cf ef : Option (List ℕ)) → IsPlain (judge_life_ending (life_inputs k c e kf cf ef))
judge_life_plain k c e kf cf ef = last (life_inputs k c e kf cf ef) _ (three_well kf _ cf _ ef _) (λ files. life_plain (life_judgement_of files.first files.second files.third))

pub judge_life_not2 : (k c e : List ℕ) (old new : Files) (ending : Outcome) → JudgeLifeEnds k c e old new ending → ending.status ≡ 2 → ⊥
judge_life_not2 k c e old new ending ends two = known_not2 _ ending _ _ (judge_life_plain k c e ends.key_file ends.certificate_file ends.evidence_file) ends.ends two

pub judge_life_4 : (k c e : List ℕ) (old new : Files) (ending : Outcome) → JudgeLifeEnds k c e old new ending → ending.status ≡ 4 → FolderFailed old new
judge_life_4 k c e old new ending ends four = inl (known_4 _ ending _ _ (judge_life_plain k c e ends.key_file ends.certificate_file ends.evidence_file) ends.ends four)

-- ---- forgery

witnessed_plain : (w : Witness) → IsPlain (witnessed w)
witnessed_plain (Twins first second) = (λ e. omega (arith, e), λ e. omega (arith, e))
witnessed_plain (Low leaf chain step revealed value) = (λ e. omega (arith, e), λ e. omega (arith, e))

pairs_plain : (key : Secret) (pairs : List (ℕ × List ℕ)) (text sig : List ℕ) → IsPlain (of_pairs key pairs text sig)
pairs_plain key pairs text sig = go (verifies (public_of key) text sig) (is_known (text_at pairs (leaf_of sig)) text) refl refl
  where
    go : (good known : Bool) → verifies (public_of key) text sig ≡ good → is_known (text_at pairs (leaf_of sig)) text ≡ known → IsPlain (of_pairs key pairs text sig)
    go true true g k = rw (g, k) (λ e. omega (arith, e), λ e. omega (arith, e))
    go true false g k = rw (g, k) (witnessed_plain (witness_of key (text_at pairs (leaf_of sig)) text sig))
    go false known g k = rw g (λ e. omega (arith, e), λ e. omega (arith, e))

used_plain : (used : Option ℕ) (ending : Outcome) → IsPlain ending → IsPlain (unless_used used ending)
used_plain None ending plain = plain
used_plain (Some leaf) ending plain = (λ e. omega (arith, e), λ e. omega (arith, e))

read_plain : (key : Secret) (r : Result (List (ℕ × List ℕ)) ℕ) (text sig : List ℕ) → IsPlain (of_read key r text sig)
read_plain key (Ok pairs) text sig = used_plain (clash [] pairs) (of_pairs key pairs text sig) (pairs_plain key pairs text sig)
read_plain key (Err at) text sig = (λ e. omega (arith, e), λ e. omega (arith, e))

in_plain : (words : ForgeryWords) (seed : List ℕ) (files : Three) → IsPlain (forgery_in words seed files)
in_plain words seed files = go (nat_lt (length seed) 48) refl
  where
    key : Secret
    key = secret_in words.height words.ots seed

    go : (short : Bool) → nat_lt (length seed) 48 ≡ short → IsPlain (forgery_in words seed files)
    go true e = rw e (λ e. omega (arith, e), λ e. omega (arith, e))
    go false e = rw e (read_plain key (pairs_of (leaves_of key) files.first) files.second files.third)

forgery_plain : (words : ForgeryWords) (sf lf tf gf : Option (List ℕ)) → IsPlain (forgery_ending words sf (forgery_inputs words lf tf gf))
forgery_plain words sf lf tf gf = last (input_of sf words.seed 48) _ (input_well sf words.seed 48) (λ seed. last (forgery_inputs words lf tf gf) _ (three_well lf _ tf _ gf _) (λ files. in_plain words seed files))

pub forgery_not2 : (words : ForgeryWords) (old new : Files) (ending : Outcome) → ForgeryEnds words old new ending → ending.status ≡ 2 → ⊥
forgery_not2 words old new ending ends two = known_not2 _ ending _ _ (forgery_plain words ends.seed_file ends.signed_file ends.text_file ends.signature_file) ends.ends two

pub forgery_4 : (words : ForgeryWords) (old new : Files) (ending : Outcome) → ForgeryEnds words old new ending → ending.status ≡ 4 → FolderFailed old new
forgery_4 words old new ending ends four = inl (known_4 _ ending _ _ (forgery_plain words ends.seed_file ends.signed_file ends.text_file ends.signature_file) ends.ends four)

-- ---- certify

files_well : (words : CertifyWords) (sf : Option (List ℕ)) → RefusesWell (life_files words sf)
files_well words sf = step (input_of sf words.seed 48) _ (input_well sf words.seed 48) long_well
  where
    long_well : (bytes : List ℕ) → RefusesWell {A = LifeFiles} (cond (nat_lt (length bytes) 48) (Err short_seed) (Ok (life_made words bytes)))
    long_well bytes = go (nat_lt (length bytes) 48)
      where
        go : (short : Bool) → RefusesWell {A = LifeFiles} (cond short (Err short_seed) (Ok (life_made words bytes)))
        go true = (λ e. omega (arith, e), λ e. omega (arith, e))
        go false = tt

life_not2 : (words : CertifyWords) (r : Result LifeFiles Outcome) (old new : Files) (ending : Outcome) → RefusesWell r → LifeEnds words r old new ending → ending.status ≡ 2 → ⊥
life_not2 words (Ok x) old new ending well (inl written) e = omega (arith, e, ap (λ (o : Outcome). o.status) written.0)
life_not2 words (Ok x) old new ending well (inr failed) e = omega (arith, e, ap (λ (o : Outcome). o.status) failed.0)
life_not2 words (Err refusal) old new ending well ends e = (same_plain ending refusal ends.0 well).0 e

life_4 : (words : CertifyWords) (r : Result LifeFiles Outcome) (old new : Files) (ending : Outcome) → RefusesWell r → LifeEnds words r old new ending → ending.status ≡ 4 → Rose old.write_faults new.write_faults
life_4 words (Ok x) old new ending well (inl written) e = absurd (omega (arith, e, ap (λ (o : Outcome). o.status) written.0))
life_4 words (Ok x) old new ending well (inr failed) e = failed.1
life_4 words (Err refusal) old new ending well ends e = absurd ((same_plain ending refusal ends.0 well).1 e)

pub certify_not2 : (words : CertifyWords) (old new : Files) (ending : Outcome) → CertifyEnds words old new ending → ending.status ≡ 2 → ⊥
certify_not2 words old new ending ends e =
    elim ends.ends [
      | inl made ↦ life_not2 words (life_files words ends.seed_file) old new ending (files_well words ends.seed_file) made e
      | inr stops ↦ stops_not2 _ _ ending stops.0 e
    ]

pub certify_4 : (words : CertifyWords) (old new : Files) (ending : Outcome) → CertifyEnds words old new ending → ending.status ≡ 4 → FolderFailed old new
certify_4 words old new ending ends e =
    elim ends.ends [
      | inl made ↦ inr (life_4 words (life_files words ends.seed_file) old new ending (files_well words ends.seed_file) made e)
      | inr stops ↦ inl (stops_4 _ _ ending stops.0 e)
    ]
