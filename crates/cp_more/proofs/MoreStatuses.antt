-- What the statuses of `certify`, `judge-life` and `forgery` say.
use Rattle.std.proofs.Common.{◌≡◌, ◌⊎◌, inl, inr, ℕ, ◌<◌, ◌≤◌, Bool, true, false, List, [], Option, Some, None, Result, Ok, Err, length, refl, sym, ap, ◌∙◌, subst, arith}
use Rattle.std.specs.Prelude.{◌≢◌, IsTrue, nat_lt}
use Rattle.std.proofs.lemmas.Bool.{false≢true, le-ltb, ltb-true, ltb-false}
use Rattle.std.proofs.lemmas.Slice.Eq.{bytes_eq-Decides}
use Rattle.cp_bytes.proofs.FieldLemmas.{bytes_eq-same, ok_is}
use Rattle.lms_hss.specs.Hss.{certifies, hss_reads, life_key}
use Rattle.lms_hss.proofs.Testing.{certifies_tells}
use Rattle.lms_tree.specs.Secret.{Secret, leaves_of, public_of}
use Rattle.lms_tree.specs.Verifying.{leaf_of, verifies}
use Rattle.lms_forge.specs.Forgery.{IsForged}
use Rattle.lms_forge.specs.Pairs.{text_at}
use Rattle.lms_forge.specs.Witness.{witness_of}
use Rattle.lms_forge.specs.declared.witness.Witness.{Witness}
use Rattle.lms_forge.specs.declared.witness.Witness.TheVariants.{Twins, Low}
use Rattle.cp_judge.specs.Judging.{judgement_of}
use Rattle.cp_judge.specs.Lives.{life_judgement_of}
use Rattle.cp_judge.specs.declared.judgement.Judgement.{Judgement}
use Rattle.cp_judge.proofs.Guilt.{guilty}
use Rattle.cp_commands.specs.MoreWords.{CertifyWords, ForgeryWords}
use Rattle.cp_endings.specs.Endings.{Outcome, bad_key, judged, malformed, short_seed, too_long}
use Rattle.cp_endings.specs.MoreEndings.{bad_certificate, leaf_used, not_forged_invalid, not_forged_known}
use Rattle.cp_endings.specs.Exactly.{Unless}
use Rattle.cp_endings.specs.Folders.{Files, KeepsAll, Stops}
use Rattle.cp_endings.specs.Reports.{Reports}
use Rattle.cp_endings.specs.Writes.{WritesAll}
use Rattle.cp_endings.proofs.Reported.{guilty_0, innocent_1, input_within, judged_0, judged_1, key_unread_3, not_low, reported, stopped}
use Rattle.cp_more.specs.Certifying.{CertifyEnds, LifeEnds, LifeFiles, life_files, life_made, life_writes}
use Rattle.cp_more.specs.Forging.{ForgeryEnds, forgery_ending, forgery_inputs, is_known, of_list, of_pairs, of_read, unless_used, witnessed}
use Rattle.cp_more.specs.LifeJudging.{JudgeLifeEnds, judge_life_ending, life_inputs, life_judged}
use Rattle.cp_more.specs.MoreStatus.{CertifyStatus, ForgeryStatus, JudgeLifeStatus, Listed}
use Rattle.cp_more.specs.Pairs.{clash, pairs_of}
use Rattle.cp_more.specs.Seeds.{secret_in}

-- the status is a fault's or want of memory's, or the ending's
abbrev Answered : ℕ → Outcome → Type 0
Answered status ending = ((status ≡ 4) ⊎ (status ≡ 5)) ⊎ (status ≡ ending.status)

-- the ending is this one
as_known : (status : ℕ) (ending known : Outcome) → ending ≡ known → Answered status ending → Answered status known
as_known status ending known same (inl high) = inl high
as_known status ending known same (inr is) = inr (is ∙ ap (λ (o : Outcome). o.status) same)

unless : (status n : ℕ) (ending : Outcome) → ending.status ≡ n → Answered status ending → Unless status n
unless status n ending is (inl high) = inr high
unless status n ending is (inr same) = inl (same ∙ is)

-- it is no other low status
no_other : (status n m : ℕ) → (n ≡ m → ⊥) → m < 4 → Unless status n → status ≡ m → ⊥
no_other status n m apart low (inl is) e = apart (sym is ∙ e)
no_other status n m apart low (inr high) e = not_low status m high low e

-- ---- certify

module _ (words : CertifyWords) (seed : List ℕ) (old new : Files) (status : ℕ) where
  -- the seed was refused, or the command stopped before
  of_refused : Unless status 3 → (length seed ≡ 48 → ⊥) → CertifyStatus words seed old new status
  of_refused three wrong = record {
    made = (λ e. absurd (no_other status 3 0 (λ h. omega (arith, h)) (omega arith) three e), λ long. absurd (wrong long));
    refused = (λ e. wrong, λ short. three);
    written = λ e. absurd (no_other status 3 0 (λ h. omega (arith, h)) (omega arith) three e);
  }

  of_made : Unless status 0 → length seed ≡ 48 → (status ≡ 0 → WritesAll (life_writes words (life_made words seed)) old new) → CertifyStatus words seed old new status
  of_made zero long written = record {
    made = (λ e. long, λ l. zero);
    refused = (λ e. absurd (no_other status 0 3 (λ h. omega (arith, h)) (omega arith) zero e), λ short. absurd (short long));
    written = written;
  }

  ended : (ending : Outcome) (r : Result LifeFiles Outcome) → life_files words (Some seed) ≡ r → LifeEnds words r old new ending ⊎ (Stops old.read_faults new.read_faults ending × KeepsAll old new) → Answered status ending
      → CertifyStatus words seed old new status
  ended ending r is ends answered = by_length (nat_lt 48 (length seed)) (nat_lt (length seed) 48) refl refl
    where
      -- where it is refused, the status is 3 or that of a fault
      three : (refusal : Outcome) → refusal.status ≡ 3 → r ≡ Err refusal → Unless status 3
      three refusal low same =
          elim (subst (λ (x : Result LifeFiles Outcome). LifeEnds words x old new ending ⊎ (Stops old.read_faults new.read_faults ending × KeepsAll old new)) same ends) [
            | inl done ↦ unless status 3 refusal low (as_known status ending refusal done.0 answered)
            | inr stops ↦ inr (stopped _ _ ending status stops.0 answered)
          ]

      zero : r ≡ Ok (life_made words seed) → (Unless status 0) × (status ≡ 0 → WritesAll (life_writes words (life_made words seed)) old new)
      zero same =
          elim (subst (λ (x : Result LifeFiles Outcome). LifeEnds words x old new ending ⊎ (Stops old.read_faults new.read_faults ending × KeepsAll old new)) same ends) [
            | inl (inl done) ↦ (unless status 0 ending (ap (λ (o : Outcome). o.status) done.0) answered, λ e. done.1)
            | inl (inr failed) ↦ high (stopped _ _ ending status (inl (failed.0, failed.1)) answered)
            | inr stops ↦ high (stopped _ _ ending status stops.0 answered)
          ]
        where
          high : (status ≡ 4) ⊎ (status ≡ 5) → (Unless status 0) × (status ≡ 0 → WritesAll (life_writes words (life_made words seed)) old new)
          high h = (inr h, λ e. absurd (not_low status 0 h (omega arith) e))

      by_length : (long short : Bool) → nat_lt 48 (length seed) ≡ long → nat_lt (length seed) 48 ≡ short → CertifyStatus words seed old new status
      by_length true short l s = of_refused (three (too_long 48) refl (sym is ∙ rw l refl)) (λ e. omega (arith, e, ltb-true 48 (length seed) l))
      by_length false true l s = of_refused (three short_seed refl (sym is ∙ rw (l, s) refl)) (λ e. omega (arith, e, ltb-true (length seed) 48 s))
      by_length false false l s =
          let z = zero (sym is ∙ rw (l, s) refl) in
          of_made z.0 (omega (arith, ltb-false 48 (length seed) l, ltb-false (length seed) 48 s)) z.1

pub certify_status : (words : CertifyWords) (old new : Files) (ending : Outcome) (held now : Option (List ℕ)) (before after status : ℕ) → CertifyEnds words old new ending → Reports held now before after ending status
    → (seed : List ℕ) → IsTrue old.tells → old.file words.seed ≡ Some seed → CertifyStatus words seed old new status
certify_status words old new ending held now before after status ends reports seed told is =
    ended words seed old new status ending (life_files words ends.seed_file) (ap (life_files words) (sym (ends.seed_is told ∙ is))) ends.ends (reported held now before after ending status reports)

-- ---- judge-life

module _ (key certificate evidence : List ℕ) (status : ℕ) where
  life : List ℕ
  life = life_key key certificate

  uncertified : certifies key certificate ≡ false → Unless status 3 → JudgeLifeStatus key certificate evidence status
  uncertified none three = record {
    guilty = (λ e. absurd (no_other status 3 0 (λ h. omega (arith, h)) (omega arith) three e), λ c. absurd (false≢true (sym none ∙ c.0)));
    innocent = (λ e. absurd (no_other status 3 1 (λ h. omega (arith, h)) (omega arith) three e), λ c. absurd (false≢true (sym none ∙ c.0)));
    refused = (λ e. none, λ bad. three);
  }

  certified : certifies key certificate ≡ true → Answered status (judged (judgement_of (life_key key certificate) evidence)) → JudgeLifeStatus key certificate evidence status
  certified c (inl high) = record {
    guilty = (λ e. absurd (not_low status 0 high (omega arith) e), λ p. inr high);
    innocent = (λ e. absurd (not_low status 1 high (omega arith) e), λ p. inr high);
    refused = (λ e. absurd (not_low status 3 high (omega arith) e), λ p. inr high);
  }
  certified c (inr same) =
      let k : List ℕ = life_key key certificate in
      let j : Judgement = judgement_of k evidence in
      let reads = (certifies_tells key certificate c).life_reads in
      record {
        guilty = (λ e. (c, (guilty k evidence).0 (judged_0 j (sym same ∙ e))), λ p. inl (same ∙ guilty_0 j ((guilty k evidence).1 p.1)));
        innocent = (
          λ e. (c, λ v. judged_1 j (sym same ∙ e) ((guilty k evidence).1 v)),
          λ p. inl (same ∙ innocent_1 k evidence reads (λ found. p.1 ((guilty k evidence).0 found))),
        );
        refused = (λ e. absurd (false≢true (sym (key_unread_3 k evidence (sym same ∙ e)) ∙ reads)), λ bad. absurd (false≢true (sym bad ∙ c)));
      }

  of_life : Answered status (life_judged (life_judgement_of key certificate evidence)) → JudgeLifeStatus key certificate evidence status
  of_life answered = go (hss_reads key) (certifies key certificate) refl refl answered
    where
      go : (reads c : Bool) → hss_reads key ≡ reads → certifies key certificate ≡ c → Answered status (life_judged (life_judgement_of key certificate evidence)) → JudgeLifeStatus key certificate evidence status
      go true true r e is = certified e (rw (r, e) at is)
      go true false r e is = uncertified e (unless status 3 bad_certificate refl (rw (r, e) at is))
      go false true r e is = absurd (false≢true (sym r ∙ (certifies_tells key certificate e).reads))
      go false false r e is = uncertified e (unless status 3 bad_key refl (rw r at is))

pub judge_life_status : (k c e : List ℕ) (old new : Files) (ending : Outcome) (held now : Option (List ℕ)) (before after status : ℕ) → JudgeLifeEnds k c e old new ending → Reports held now before after ending status
    → (key certificate evidence : List ℕ) → IsTrue old.tells → old.file k ≡ Some key → length key ≤ 60 → old.file c ≡ Some certificate → length certificate ≤ 16384
    → old.file e ≡ Some evidence → length evidence ≤ 536870912 → JudgeLifeStatus key certificate evidence status
judge_life_status k c e old new ending held now before after status ends reports key certificate evidence told key_is key_fits certificate_is certificate_fits evidence_is evidence_fits = go ends.ends
  where
    answer : Answered status ending
    answer = reported held now before after ending status reports

    whole : judge_life_ending (life_inputs k c e ends.key_file ends.certificate_file ends.evidence_file) ≡ life_judged (life_judgement_of key certificate evidence)
    whole =
        let found_key : ends.key_file ≡ Some key = ends.key_is told ∙ key_is in
        let found_certificate : ends.certificate_file ≡ Some certificate = ends.certificate_is told ∙ certificate_is in
        let found_evidence : ends.evidence_file ≡ Some evidence = ends.evidence_is told ∙ evidence_is in
        rw (found_key, found_certificate, found_evidence, input_within key k 60 key_fits, input_within certificate c 16384 certificate_fits, input_within evidence e 536870912 evidence_fits) refl

    go : (ending ≡ judge_life_ending (life_inputs k c e ends.key_file ends.certificate_file ends.evidence_file)) ⊎ Stops old.read_faults new.read_faults ending → JudgeLifeStatus key certificate evidence status
    go (inl same) = of_life key certificate evidence status (as_known status ending _ (same ∙ whole) answer)
    go (inr stops) = of_life key certificate evidence status (inl (stopped _ _ ending status stops answer))

-- ---- forgery

pub known_is : (o : Option (List ℕ)) (text : List ℕ) → is_known o text ≡ true → o ≡ Some text
known_is None text e = absurd (false≢true e)
known_is (Some t) text e = ap (λ (l : List ℕ). Some l) ((bytes_eq-Decides t text).0 e)

pub unknown_is : (o : Option (List ℕ)) (text : List ℕ) → is_known o text ≡ false → o ≢ Some text
unknown_is o text e same = false≢true (sym e ∙ ap (λ (x : Option (List ℕ)). is_known x text) same ∙ bytes_eq-same text)

witnessed_0 : (w : Witness) → (witnessed w).status ≡ 0
witnessed_0 (Twins first second) = refl
witnessed_0 (Low leaf chain step revealed value) = refl

module _ (key : Secret) (signed text sig : List ℕ) (status : ℕ) where
  unlisted : (Listed key signed → ⊥) → Unless status 3 → ForgeryStatus key signed text sig status
  unlisted none three = record {
    forged = (λ e. absurd (no_other status 3 0 (λ h. omega (arith, h)) (omega arith) three e), λ p. absurd (none p.0));
    not_forged = (λ e. absurd (no_other status 3 1 (λ h. omega (arith, h)) (omega arith) three e), λ p. absurd (none p.0));
    refused = (λ e. none, λ l. three);
  }

  module _ (x : Listed key signed) where
    abbrev Forged : Type 0
    Forged = IsForged (record { key = key; texts = x.pairs }) text sig

    -- there is one list alone
    same_pairs : (y : Listed key signed) → y.pairs ≡ x.pairs
    same_pairs y = ok_is y.pairs x.pairs (sym y.read ∙ x.read)

    abbrev ForgedIn : List (ℕ × List ℕ) → Type 0
    ForgedIn pairs = IsForged (record { key = key; texts = pairs }) text sig

    is_forged : Forged → Unless status 0 → ForgeryStatus key signed text sig status
    is_forged forged zero = record {
      forged = (λ e. (x, forged), λ p. zero);
      not_forged = (λ e. absurd (no_other status 0 1 (λ h. omega (arith, h)) (omega arith) zero e), λ p. absurd (p.1 (subst ForgedIn (sym (same_pairs p.0)) forged)));
      refused = (λ e. absurd (no_other status 0 3 (λ h. omega (arith, h)) (omega arith) zero e), λ none. absurd (none x));
    }

    is_not : (Forged → ⊥) → Unless status 1 → ForgeryStatus key signed text sig status
    is_not never one = record {
      forged = (λ e. absurd (no_other status 1 0 (λ h. omega (arith, h)) (omega arith) one e), λ p. absurd (never (subst ForgedIn (same_pairs p.0) p.1)));
      not_forged = (λ e. (x, never), λ p. one);
      refused = (λ e. absurd (no_other status 1 3 (λ h. omega (arith, h)) (omega arith) one e), λ none. absurd (none x));
    }

    of_listed : Answered status (of_pairs key x.pairs text sig) → ForgeryStatus key signed text sig status
    of_listed answered = go (verifies (public_of key) text sig) (is_known (text_at x.pairs (leaf_of sig)) text) refl refl answered
      where
        go : (good known : Bool) → verifies (public_of key) text sig ≡ good → is_known (text_at x.pairs (leaf_of sig)) text ≡ known → Answered status (of_pairs key x.pairs text sig) → ForgeryStatus key signed text sig status
        go true true v k is = is_not (λ f. f.1 (known_is (text_at x.pairs (leaf_of sig)) text k)) (unless status 1 not_forged_known refl (rw (v, k) at is))
        go true false v k is =
            is_forged (v, unknown_is (text_at x.pairs (leaf_of sig)) text k) (unless status 0 (witnessed (witness_of key (text_at x.pairs (leaf_of sig)) text sig)) (witnessed_0 (witness_of key (text_at x.pairs (leaf_of sig)) text sig)) (rw (v, k) at is))
        go false known v k is = is_not (λ f. false≢true (sym v ∙ f.0)) (unless status 1 not_forged_invalid refl (rw v at is))

  of_forged : (r : Result (List (ℕ × List ℕ)) ℕ) → pairs_of (leaves_of key) signed ≡ r → Answered status (of_read key r text sig) → ForgeryStatus key signed text sig status
  of_forged (Err at) is answered = unlisted (λ x. absurd (clashing (sym x.read ∙ is))) (unless status 3 (malformed at) refl answered)
    where
      clashing : {xs : List (ℕ × List ℕ)} → Ok xs ≡ Err at → ⊥
      clashing h = absurd cc
  of_forged (Ok pairs) is answered = go (clash [] pairs) refl answered
    where
      go : (used : Option ℕ) → clash [] pairs ≡ used → Answered status (unless_used (clash [] pairs) (of_pairs key pairs text sig)) → ForgeryStatus key signed text sig status
      go None u a = of_listed (record { pairs = pairs; read = is; one_text = u }) (rw u at a)
      go (Some leaf) u a = unlisted (λ x. twice (sym (ap (clash []) (ok_is x.pairs pairs (sym x.read ∙ is))) ∙ x.one_text)) (unless status 3 (leaf_used leaf) refl (rw u at a))
        where
          twice : clash [] pairs ≡ None → ⊥
          twice none = never (sym u ∙ none)
            where
              never : Some leaf ≡ None → ⊥
              never h = absurd cc

pub forgery_status : (words : ForgeryWords) (old new : Files) (ending : Outcome) (held now : Option (List ℕ)) (before after status : ℕ) → ForgeryEnds words old new ending → Reports held now before after ending status
    → (seed signed text sig : List ℕ) → IsTrue old.tells → old.file words.seed ≡ Some seed → length seed ≡ 48 → old.file words.signed ≡ Some signed → length signed ≤ 67108864
    → old.file words.text ≡ Some text → length text ≤ 1048576 → old.file words.signature ≡ Some sig → length sig ≤ 16384 → ForgeryStatus (secret_in words.height words.ots seed) signed text sig status
forgery_status words old new ending held now before after status ends reports seed signed text sig told seed_is seed_fits signed_is signed_fits text_is text_fits sig_is sig_fits = go ends.ends
  where
    answer : Answered status ending
    answer = reported held now before after ending status reports

    key : Secret
    key = secret_in words.height words.ots seed

    whole : forgery_ending words ends.seed_file (forgery_inputs words ends.signed_file ends.text_file ends.signature_file) ≡ of_list (secret_in words.height words.ots seed) (record { first = signed; second = text; third = sig })
    whole =
        let found_seed : ends.seed_file ≡ Some seed = ends.seed_is told ∙ seed_is in
        let found_signed : ends.signed_file ≡ Some signed = ends.signed_is told ∙ signed_is in
        let found_text : ends.text_file ≡ Some text = ends.text_is told ∙ text_is in
        let found_sig : ends.signature_file ≡ Some sig = ends.signature_is told ∙ sig_is in
        rw (
          found_seed,
          found_signed,
          found_text,
          found_sig,
          input_within seed words.seed 48 (omega (arith, seed_fits)),
          input_within signed words.signed 67108864 signed_fits,
          input_within text words.text 1048576 text_fits,
          input_within sig words.signature 16384 sig_fits,
          le-ltb (length seed) 48 (omega (arith, seed_fits)),
        ) refl

    go : (ending ≡ forgery_ending words ends.seed_file (forgery_inputs words ends.signed_file ends.text_file ends.signature_file)) ⊎ Stops old.read_faults new.read_faults ending
        → ForgeryStatus (secret_in words.height words.ots seed) signed text sig status
    go (inl same) = of_forged key signed text sig status (pairs_of (leaves_of key) signed) refl (as_known status ending _ (same ∙ whole) answer)
    go (inr stops) = of_forged key signed text sig status (pairs_of (leaves_of key) signed) refl (inl (stopped _ _ ending status stops answer))
