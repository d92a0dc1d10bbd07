-- What the statuses say.
use Rattle.std.proofs.Common.{◌≡◌, ◌⊎◌, inl, inr, ℕ, ◌<◌, ◌≤◌, Bool, true, false, cond, List, Option, Some, None, Result, Ok, Err, length, refl, sym, ap, ◌∙◌, subst, arith}
use Rattle.std.specs.Prelude.{IsTrue, nat_lt}
use Rattle.std.proofs.lemmas.Bool.{false≢true}
use Rattle.cp_bytes.specs.Fields.{◌>>=◌}
use Rattle.cp_outside.specs.Causes.{Rose}
use Rattle.lms_ots.specs.declared.ots_type.OtsType.{OtsType}
use Rattle.lms_tree.specs.declared.height.Height.{Height}
use Rattle.lms_tree.specs.PublicKey.{key_reads}
use Rattle.lms_tree.specs.Verifying.{verifies}
use Rattle.lms_tree.specs.Secret.{public_of}
use Rattle.lms_tree.proofs.Testing.{verifies_tells}
use Rattle.cp_judge.specs.Judging.{judgement_of}
use Rattle.cp_outside.specs.declared.disk.Disk as disk
use Rattle.cp_judge.specs.declared.judgement.Judgement.{Judgement}
use Rattle.cp_judge.specs.declared.judgement.Judgement.TheVariants.{BadKey, Malformed, NotEvidence, Guilty}
use Rattle.cp_judge.proofs.Guilt.{guilty}
use Rattle.cp_commands.specs.Commands.{Command}
use Rattle.cp_commands.specs.Commands.Command.{Judge, Verify, Keygen, AskPut, AskGet, Accept, Audit, Replay, Certify, JudgeLife, Forgery}
use Rattle.cp_endings.proofs.Reported.{bad_3, guilty_0, innocent_1, input_within, judged_0, judged_1, key_read_1, key_unread_3, not_low, reported, stopped, unprinted_high}
use Rattle.cp_commands.specs.MoreWords.{CertifyWords, ForgeryWords}
use Rattle.cp_more.specs.MoreStatus.{CertifyStatus, ForgeryStatus, JudgeLifeStatus}
use Rattle.cp_more.proofs.MoreStatuses.{certify_status, forgery_status, judge_life_status}
use Rattle.cp_tool.specs.PutRuns.{CommandEnds, IsAskPut}
use Rattle.cp_tool.proofs.ClientStatus.{ask_put_not2, ask_get_not2, accept_not2}
use Rattle.cp_tool.proofs.FaultLemmas.{command_4}
use Rattle.cp_tool.proofs.AuditRefusals.{audit_not2}
use Rattle.cp_tool.proofs.ReplayRefusals.{replay_not2}
use Rattle.cp_more.proofs.MoreRefusals.{certify_not2, forgery_not2, judge_life_not2}
use Rattle.cp_endings.specs.Endings.{Outcome, judged, usage, short_seed, unprinted_status}
use Rattle.cp_endings.specs.Reports.{Reports}
use Rattle.cp_endings.specs.Folders.{FolderFailed}
use Rattle.cp_tool.specs.Runs.{Files, RunEnds, JudgeEnds, VerifyEnds, KeyEnds, Stops, KeepsAll, input_of, ending_of, judge_ending, verify_ending, verified, key_made}
use Rattle.cp_more.specs.Seeds.{secret_in}
use Rattle.cp_tool.specs.Statuses.{JudgeStatus, VerifyStatus}

-- ---- no ending of a command but `usage` has the status 2

abbrev Not2 : Outcome → Type 0
Not2 ending = ending.status ≡ 2 → ⊥

judged_not2 : (j : Judgement) → Not2 (judged j)
judged_not2 BadKey e = omega (arith, e)
judged_not2 (Malformed at) e = omega (arith, e)
judged_not2 (NotEvidence kind condition) e = omega (arith, e)
judged_not2 (Guilty kind) e = omega (arith, e)

verified_not2 : (key text signature : List ℕ) → Not2 (verified key text signature)
verified_not2 key text signature = go (key_reads key) (verifies key text signature) refl refl
  where
    go : (reads good : Bool) → key_reads key ≡ reads → verifies key text signature ≡ good → Not2 (verified key text signature)
    go true true r g = rw (r, g) (λ e. omega (arith, e))
    go true false r g = rw (r, g) (λ e. omega (arith, e))
    go false good r g = rw r (λ e. omega (arith, e))

-- a refused input ends with 3
abbrev Refuses3 : Result (List ℕ) Outcome → Type 0
Refuses3 (Ok bytes) = Unit {0}
Refuses3 (Err ending) = ending.status ≡ 3

refuses_3 : (content : Option (List ℕ)) (name : List ℕ) (limit : ℕ) → Refuses3 (input_of content name limit)
refuses_3 None name limit = refl
refuses_3 (Some bytes) name limit = go (nat_lt limit (length bytes)) refl
  where
    go : (long : Bool) → nat_lt limit (length bytes) ≡ long → Refuses3 (input_of (Some bytes) name limit)
    go true e = rw e refl
    go false e = rw e tt

-- a step that refuses with 3, before steps that do not end with 2
step_not2 : (first : Result (List ℕ) Outcome) (then : List ℕ → Result Outcome Outcome) → Refuses3 first → ((bytes : List ℕ) → Not2 (ending_of (then bytes)))
    → Not2 (ending_of (first >>= then))
step_not2 (Ok bytes) then three others = others bytes
step_not2 (Err ending) then three others = λ e. omega (arith, e, three)

judge_not2 : (kf : Option (List ℕ)) (k : List ℕ) (ef : Option (List ℕ)) (e : List ℕ) → Not2 (judge_ending kf k ef e)
judge_not2 kf k ef e =
    step_not2 (input_of kf k 56) _ (refuses_3 kf k 56) (λ key. step_not2 (input_of ef e 536870912) _ (refuses_3 ef e 536870912) (λ evidence. judged_not2 (judgement_of key evidence)))

verify_not2 : (kf : Option (List ℕ)) (k : List ℕ) (tf : Option (List ℕ)) (t : List ℕ) (sf : Option (List ℕ)) (s : List ℕ) → Not2 (verify_ending kf k tf t sf s)
verify_not2 kf k tf t sf s =
    step_not2 (input_of kf k 56) _ (refuses_3 kf k 56) (λ key. step_not2 (input_of tf t 1048576) _ (refuses_3 tf t 1048576)
    (λ text. step_not2 (input_of sf s 16384) _ (refuses_3 sf s 16384) (λ signature. verified_not2 key text signature)))

stops_not2 : (before now : ℕ) (ending : Outcome) → Stops before now ending → Not2 ending
stops_not2 before now ending (inl fault) e = omega (arith, e, ap (λ o. o.status) fault.0)
stops_not2 before now ending (inr memory) e = omega (arith, e, ap (λ o. o.status) memory)

same_not2 : (a b : Outcome) → a ≡ b → Not2 b → Not2 a
same_not2 a b same not e = not (sym (ap (λ o. o.status) same) ∙ e)

key_not2 : (made : Result (List ℕ) Outcome) (out : List ℕ) (old new : Files) (ending : Outcome) → Refuses3 made → KeyEnds made out old new ending → Not2 ending
key_not2 (Ok key) out old new ending three (inl written) = same_not2 _ _ written.0 (λ e. omega (arith, e))
key_not2 (Ok key) out old new ending three (inr unwritten) = stops_not2 _ _ ending (inl unwritten)
key_not2 (Err refusal) out old new ending three ends = same_not2 _ _ ends.0 (λ e. omega (arith, e, three))

made_refuses_3 : (sf : Option (List ℕ)) (s : List ℕ) (height : Height) (ots : OtsType) → Refuses3 (key_made sf s height ots)
made_refuses_3 sf s height ots = go (input_of sf s 48) refl (refuses_3 sf s 48)
  where
    go : (r : Result (List ℕ) Outcome) → input_of sf s 48 ≡ r → Refuses3 r → Refuses3 (key_made sf s height ots)
    go (Err ending) is three = rw is three
    go (Ok bytes) is three = rw is (short (nat_lt (length bytes) 48) refl)
      where
        short : (b : Bool) → nat_lt (length bytes) 48 ≡ b → Refuses3 (cond b (Err short_seed) (Ok (public_of (secret_in height ots bytes))))
        short true e = refl
        short false e = tt

-- only the words of no command end with 2
pub run_2 : (command : Option Command) (old new : Files) (ending : Outcome) → RunEnds command old new ending → ending.status ≡ 2 → command ≡ None
run_2 None old new ending ends e = refl
run_2 (Some (Judge k v)) old new ending ends e = absurd (judge_case ends.ends e)
  where
    judge_case : (ending ≡ judge_ending ends.key_file k ends.evidence_file v) ⊎ Stops old.read_faults new.read_faults ending → Not2 ending
    judge_case (inl same) = same_not2 _ _ same (judge_not2 ends.key_file k ends.evidence_file v)
    judge_case (inr stops) = stops_not2 _ _ ending stops
run_2 (Some (Verify k t s)) old new ending ends e = absurd (verify_case ends.ends e)
  where
    verify_case : (ending ≡ verify_ending ends.key_file k ends.text_file t ends.signature_file s) ⊎ Stops old.read_faults new.read_faults ending → Not2 ending
    verify_case (inl same) = same_not2 _ _ same (verify_not2 ends.key_file k ends.text_file t ends.signature_file s)
    verify_case (inr stops) = stops_not2 _ _ ending stops
run_2 (Some (Keygen s height ots out)) old new ending ends e = absurd (keygen_case ends.ends e)
  where
    keygen_case : KeyEnds (key_made ends.seed_file s height ots) out old new ending ⊎ (Stops old.read_faults new.read_faults ending × KeepsAll old new) → Not2 ending
    keygen_case (inl made) = key_not2 (key_made ends.seed_file s height ots) out old new ending (made_refuses_3 ends.seed_file s height ots) made
    keygen_case (inr stops) = stops_not2 _ _ ending stops.0
run_2 (Some (AskPut words)) old new ending ends e = absurd ends
run_2 (Some (AskGet words)) old new ending ends e = absurd (ask_get_not2 words old new ending ends e)
run_2 (Some (Accept words)) old new ending ends e = absurd (accept_not2 words old new ending ends e)
run_2 (Some (Audit words)) old new ending ends e = absurd (audit_not2 words old new ending ends e)
run_2 (Some (Replay words)) old new ending ends e = absurd (replay_not2 words old new ending ends e)
run_2 (Some (Certify words)) old new ending ends e = absurd (certify_not2 words old new ending ends e)
run_2 (Some (JudgeLife k c v)) old new ending ends e = absurd (judge_life_not2 k c v old new ending ends e)
run_2 (Some (Forgery words)) old new ending ends e = absurd (forgery_not2 words old new ending ends e)

-- ---- the vault's disk

module _ {K : Type 0} (g : disk.Ghosts K) where
  -- the command is `ask-put`, or takes files alone and leaves the disk
  apart : (command : Option Command) (old new : Files) (before after : K) (ending : Outcome) → CommandEnds g command old new before after ending
      → (IsAskPut command × (ending.status ≡ 2 → ⊥)) ⊎ (RunEnds command old new ending × (after ≡ before))
  apart None old new before after ending ends = inr ends
  apart (Some (Judge k e)) old new before after ending ends = inr ends
  apart (Some (Verify k t s)) old new before after ending ends = inr ends
  apart (Some (Keygen s height ots out)) old new before after ending ends = inr ends
  apart (Some (AskPut words)) old new before after ending ends = inl (tt, ask_put_not2 g words old new before after ending ends)
  apart (Some (AskGet words)) old new before after ending ends = inr ends
  apart (Some (Accept words)) old new before after ending ends = inr ends
  apart (Some (Audit words)) old new before after ending ends = inr ends
  apart (Some (Replay words)) old new before after ending ends = inr ends
  apart (Some (Certify words)) old new before after ending ends = inr ends
  apart (Some (JudgeLife k c e)) old new before after ending ends = inr ends
  apart (Some (Forgery words)) old new before after ending ends = inr ends

  pub disk_untouched : (command : Option Command) (old new : Files) (before after : K) (ending : Outcome) → CommandEnds g command old new before after ending
      → IsAskPut command ⊎ (after ≡ before)
  disk_untouched command old new before after ending ends = go (apart command old new before after ending ends)
    where
      go : (IsAskPut command × (ending.status ≡ 2 → ⊥)) ⊎ (RunEnds command old new ending × (after ≡ before)) → IsAskPut command ⊎ (after ≡ before)
      go (inl put) = inl put.0
      go (inr alone) = inr alone.1

  -- no ending of `ask-put` has the status 2
  command_2 : (command : Option Command) (old new : Files) (before after : K) (ending : Outcome) → CommandEnds g command old new before after ending → ending.status ≡ 2 → command ≡ None
  command_2 command old new before after ending ends e = go (apart command old new before after ending ends)
    where
      go : (IsAskPut command × (ending.status ≡ 2 → ⊥)) ⊎ (RunEnds command old new ending × (after ≡ before)) → command ≡ None
      go (inl put) = absurd (put.1 e)
      go (inr alone) = run_2 command old new ending alone.0 e

-- ---- the answered status

abbrev Reported : Option (List ℕ) → Option (List ℕ) → ℕ → ℕ → Outcome → ℕ → Type 0
Reported held now before after ending status = Reports held now before after ending status

-- a status below 4 is the ending's
printed_status : (held now : Option (List ℕ)) (before after : ℕ) (ending : Outcome) (status : ℕ) → Reports held now before after ending status → status < 4 → ending.status ≡ status
printed_status held now before after ending status (inl prints) low = sym prints.answers
printed_status held now before after ending status (inr fails) low = absurd (not_low (unprinted_status ending) status (unprinted_high ending) low (sym fails.answers))

module _ {K : Type 0} (g : disk.Ghosts K) where
  pub status_2 : (command : Option Command) (old new : Files) (first last : K) (ending : Outcome) (held now : Option (List ℕ)) (before after status : ℕ) → CommandEnds g command old new first last ending
      → Reports held now before after ending status → status ≡ 2 → command ≡ None
  status_2 command old new first last ending held now before after status ends reports e =
      command_2 g command old new first last ending ends (printed_status held now before after ending status reports (omega (arith, e)) ∙ e)

  pub no_command_2 : (command : Option Command) (old new : Files) (first last : K) (ending : Outcome) (held now : Option (List ℕ)) (before after status : ℕ) → CommandEnds g command old new first last ending
      → Reports held now before after ending status → command ≡ None → (status ≡ 2) ⊎ ((status ≡ 4) × Rose before after)
  no_command_2 command old new first last ending held now before after status ends reports none = go reports
    where
      is_usage : ending ≡ usage
      is_usage = (subst (λ c. CommandEnds g c old new first last ending) none ends).0.0

      go : Reports held now before after ending status → (status ≡ 2) ⊎ ((status ≡ 4) × Rose before after)
      go (inl prints) = inl (prints.answers ∙ ap (λ o. o.status) is_usage)
      go (inr fails) = inr (fails.answers ∙ ap unprinted_status is_usage, fails.cause)

-- ---- judge

-- the status is a fault's or want of memory's, or the ending's
abbrev Answered : ℕ → Outcome → Type 0
Answered status ending = ((status ≡ 4) ⊎ (status ≡ 5)) ⊎ (status ≡ ending.status)

-- what the status says of an ending that is the judgement's
of_judged : (key bytes : List ℕ) (status : ℕ) → Answered status (judged (judgement_of key bytes)) → JudgeStatus key bytes status
of_judged key bytes status (inl high) = record {
  guilty = (λ e. absurd (not_low status 0 high (omega arith) e), λ c. inr high);
  innocent = (λ e. absurd (not_low status 1 high (omega arith) e), λ c. inr high);
  refused = (λ e. absurd (not_low status 3 high (omega arith) e), λ c. inr high);
}
of_judged key bytes status (inr same) =
    let j = judgement_of key bytes in
    record {
      guilty = (λ e. (guilty key bytes).0 (judged_0 j (sym same ∙ e)), λ c. inl (same ∙ guilty_0 j ((guilty key bytes).1 c)));
      innocent = (
        λ e. (key_read_1 key bytes (sym same ∙ e), λ c. judged_1 j (sym same ∙ e) ((guilty key bytes).1 c)),
        λ c. inl (same ∙ innocent_1 key bytes c.0 (λ found. c.1 ((guilty key bytes).0 found))),
      );
      refused = (λ e. key_unread_3 key bytes (sym same ∙ e), λ bad. inl (same ∙ bad_3 key bytes bad));
    }

judge_ends : (command : Option Command) (old new : Files) (ending : Outcome) (held now : Option (List ℕ)) (before after status : ℕ) → RunEnds command old new ending
    → Reports held now before after ending status → (k e key bytes : List ℕ) → command ≡ Some (Judge k e) → IsTrue old.tells
    → old.file k ≡ Some key → length key ≤ 56 → old.file e ≡ Some bytes → length bytes ≤ 536870912 → JudgeStatus key bytes status
judge_ends command old new ending held now before after status ends reports k e key bytes is told key_is key_fits bytes_is bytes_fit =
    let judge : JudgeEnds k e old new ending = subst (λ c. RunEnds c old new ending) is ends in
    let found_key : judge.key_file ≡ Some key = judge.key_is told ∙ key_is in
    let found_bytes : judge.evidence_file ≡ Some bytes = judge.evidence_is told ∙ bytes_is in
    let whole : judge_ending judge.key_file k judge.evidence_file e ≡ judged (judgement_of key bytes) =
    rw (found_key, found_bytes, input_within key k 56 key_fits, input_within bytes e 536870912 bytes_fit) refl in
    go judge.ends whole
  where
    go : {goal : Outcome} → (ending ≡ goal) ⊎ Stops old.read_faults new.read_faults ending → goal ≡ judged (judgement_of key bytes) → JudgeStatus key bytes status
    go (inl same) whole = of_judged key bytes status (told_status (reported held now before after ending status reports) (ap (λ o. o.status) (same ∙ whole)))
      where
        told_status : ((status ≡ 4) ⊎ (status ≡ 5)) ⊎ (status ≡ ending.status) → ending.status ≡ (judged (judgement_of key bytes)).status
            → ((status ≡ 4) ⊎ (status ≡ 5)) ⊎ (status ≡ (judged (judgement_of key bytes)).status)
        told_status (inl high) same = inl high
        told_status (inr answered) same = inr (answered ∙ same)
    go (inr stops) whole = of_judged key bytes status (inl (stopped _ _ ending status stops (reported held now before after ending status reports)))

pub judge_status : {K : Type 0} (g : disk.Ghosts K) (command : Option Command) (old new : Files) (first last : K) (ending : Outcome) (held now : Option (List ℕ)) (before after status : ℕ) → CommandEnds g command old new first last ending
    → Reports held now before after ending status → (k e key bytes : List ℕ) → command ≡ Some (Judge k e) → IsTrue old.tells
    → old.file k ≡ Some key → length key ≤ 56 → old.file e ≡ Some bytes → length bytes ≤ 536870912 → JudgeStatus key bytes status
judge_status g command old new first last ending held now before after status ends reports k e key bytes is told key_is key_fits bytes_is bytes_fit =
    let judge : JudgeEnds k e old new ending = (subst (λ c. CommandEnds g c old new first last ending) is ends).0 in
    judge_ends (Some (Judge k e)) old new ending held now before after status judge reports k e key bytes refl told key_is key_fits bytes_is bytes_fit

-- ---- verify

of_verified : (key text signature : List ℕ) (status : ℕ) → Answered status (verified key text signature) → VerifyStatus key text signature status
of_verified key text signature status (inl high) = record {
  valid = (λ e. absurd (not_low status 0 high (omega arith) e), λ c. inr high);
  invalid = (λ e. absurd (not_low status 1 high (omega arith) e), λ c. inr high);
  refused = (λ e. absurd (not_low status 3 high (omega arith) e), λ c. inr high);
}
of_verified key text signature status (inr same) = go (key_reads key) (verifies key text signature) refl refl same
  where
    go : (reads good : Bool) → key_reads key ≡ reads → verifies key text signature ≡ good → status ≡ (verified key text signature).status → VerifyStatus key text signature status
    go true true r g is =
        let zero : status ≡ 0 = rw (r, g) at is in
        record {
          valid = (λ e. g, λ c. inl zero);
          invalid = (λ e. absurd (omega (arith, e, zero)), λ c. absurd (false≢true (sym c.1 ∙ g)));
          refused = (λ e. absurd (omega (arith, e, zero)), λ bad. absurd (false≢true (sym bad ∙ r)));
        }
    go true false r g is =
        let one : status ≡ 1 = rw (r, g) at is in
        record {
          valid = (λ e. absurd (omega (arith, e, one)), λ c. absurd (false≢true (sym g ∙ c)));
          invalid = (λ e. (r, g), λ c. inl one);
          refused = (λ e. absurd (omega (arith, e, one)), λ bad. absurd (false≢true (sym bad ∙ r)));
        }
    go false good r g is =
        let three : status ≡ 3 = rw r at is in
        record {
          valid = (λ e. absurd (omega (arith, e, three)), λ c. absurd (false≢true (sym r ∙ (verifies_tells key text signature c).key_reads)));
          invalid = (λ e. absurd (omega (arith, e, three)), λ c. absurd (false≢true (sym r ∙ c.0)));
          refused = (λ e. r, λ bad. inl three);
        }

pub verify_status : {K : Type 0} (g : disk.Ghosts K) (command : Option Command) (old new : Files) (first last : K) (ending : Outcome) (held now : Option (List ℕ)) (before after status : ℕ) → CommandEnds g command old new first last ending
    → Reports held now before after ending status → (k t s key text signature : List ℕ) → command ≡ Some (Verify k t s) → IsTrue old.tells
    → old.file k ≡ Some key → length key ≤ 56 → old.file t ≡ Some text → length text ≤ 1048576 → old.file s ≡ Some signature → length signature ≤ 16384 → VerifyStatus key text signature status
verify_status g command old new first last ending held now before after status ends reports k t s key text signature is told key_is key_fits text_is text_fits signature_is signature_fits = go verify.ends
  where
    verify : VerifyEnds k t s old new ending
    verify = (subst (λ c. CommandEnds g c old new first last ending) is ends).0

    answer : Answered status ending
    answer = reported held now before after ending status reports

    whole : verify_ending verify.key_file k verify.text_file t verify.signature_file s ≡ verified key text signature
    whole =
        let found_key : verify.key_file ≡ Some key = verify.key_is told ∙ key_is in
        let found_text : verify.text_file ≡ Some text = verify.text_is told ∙ text_is in
        let found_signature : verify.signature_file ≡ Some signature = verify.signature_is told ∙ signature_is in
        rw (found_key, found_text, found_signature, input_within key k 56 key_fits, input_within text t 1048576 text_fits, input_within signature s 16384 signature_fits) refl

    answered : (known : Outcome) → ending ≡ known → Answered status ending → Answered status known
    answered known same (inl high) = inl high
    answered known same (inr is) = inr (is ∙ ap (λ o. o.status) same)

    go : (ending ≡ verify_ending verify.key_file k verify.text_file t verify.signature_file s) ⊎ Stops old.read_faults new.read_faults ending → VerifyStatus key text signature status
    go (inl same) = of_verified key text signature status (answered (verified key text signature) (same ∙ whole) answer)
    go (inr stops) = of_verified key text signature status (inl (stopped _ _ ending status stops answer))

-- ---- certify, judge-life and forgery

module _ {K : Type 0} (g : disk.Ghosts K) (command : Option Command) (old new : Files) (first last : K) (ending : Outcome) (held now : Option (List ℕ)) (before after status : ℕ) (ends : CommandEnds g command old new first last ending)
    (reports : Reports held now before after ending status) where
  pub of_certify : (words : CertifyWords) (seed : List ℕ) → command ≡ Some (Certify words) → IsTrue old.tells → old.file words.seed ≡ Some seed → CertifyStatus words seed old new status
  of_certify words seed is = certify_status words old new ending held now before after status (subst (λ c. CommandEnds g c old new first last ending) is ends).0 reports seed

  pub of_judge_life : (k c e key certificate evidence : List ℕ) → command ≡ Some (JudgeLife k c e) → IsTrue old.tells → old.file k ≡ Some key → length key ≤ 60 → old.file c ≡ Some certificate → length certificate ≤ 16384
      → old.file e ≡ Some evidence → length evidence ≤ 536870912 → JudgeLifeStatus key certificate evidence status
  of_judge_life k c e key certificate evidence is = judge_life_status k c e old new ending held now before after status (subst (λ c. CommandEnds g c old new first last ending) is ends).0 reports key certificate evidence

  pub of_forgery : (words : ForgeryWords) (seed signed text sig : List ℕ) → command ≡ Some (Forgery words) → IsTrue old.tells → old.file words.seed ≡ Some seed → length seed ≡ 48 → old.file words.signed ≡ Some signed
      → length signed ≤ 67108864 → old.file words.text ≡ Some text → length text ≤ 1048576 → old.file words.signature ≡ Some sig → length sig ≤ 16384 → ForgeryStatus (secret_in words.height words.ots seed) signed text sig status
  of_forgery words seed signed text sig is = forgery_status words old new ending held now before after status (subst (λ c. CommandEnds g c old new first last ending) is ends).0 reports seed signed text sig

-- a fault was counted by the folder, the vault's disk or the sink
pub status_4 : {K : Type 0} (g : disk.Ghosts K) (command : Option Command) (old new : Files) (first last : K) (ending : Outcome) (held now : Option (List ℕ)) (before after status : ℕ) → CommandEnds g command old new first last ending
    → Reports held now before after ending status → status ≡ 4
    → Rose old.read_faults new.read_faults ⊎ Rose old.write_faults new.write_faults ⊎ Rose (g.faults first) (g.faults last) ⊎ Rose before after
status_4 g command old new first last ending held now before after status ends (inl prints) e = go (command_4 g command old new first last ending ends (sym prints.answers ∙ e))
  where
    go : FolderFailed old new ⊎ Rose (g.faults first) (g.faults last)
        → Rose old.read_faults new.read_faults ⊎ Rose old.write_faults new.write_faults ⊎ Rose (g.faults first) (g.faults last) ⊎ Rose before after
    go (inl (inl reads)) = inl reads
    go (inl (inr writes)) = inr (inl writes)
    go (inr vault) = inr (inr (inl vault))
status_4 g command old new first last ending held now before after status ends (inr fails) e = inr (inr (inr fails.cause))

pub ruleset statuses = (no_command_2, judge_status, disk_untouched)
