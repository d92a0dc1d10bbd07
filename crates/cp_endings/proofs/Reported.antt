-- What a status says of the ending that was reported, and that of a judgement.
use Rattle.std.proofs.Common.{◌≡◌, ◌⊎◌, inl, inr, ℕ, ◌<◌, ◌≤◌, Bool, true, false, List, Option, Some, Result, Ok, Err, length, refl, ap, ◌∙◌, arith}
use Rattle.std.specs.Prelude.{IsTrue, nat_eq}
use Rattle.std.proofs.lemmas.Bool.{le-ltb}
use Rattle.lms_tree.specs.PublicKey.{key_reads}
use Rattle.cp_evidence.specs.Evidence.{Evidence, evidence_of, kind_of}
use Rattle.cp_evidence.specs.Conditions.{tried}
use Rattle.cp_judge.specs.Judging.{judgement_of, judgement_on, judgement_by, IsGuilty}
use Rattle.cp_judge.specs.declared.judgement.Judgement.{Judgement}
use Rattle.cp_judge.specs.declared.judgement.Judgement.TheVariants.{BadKey, Malformed, NotEvidence, Guilty}
use Rattle.cp_endings.specs.Endings.{Outcome, judged, unprinted_status}
use Rattle.cp_endings.specs.Folders.{Stops, input_of}
use Rattle.cp_endings.specs.Reports.{Reports}

pub unprinted_high : (ending : Outcome) → (unprinted_status ending ≡ 4) ⊎ (unprinted_status ending ≡ 5)
unprinted_high ending = go (nat_eq ending.status 5) refl
  where
    go : (five : Bool) → nat_eq ending.status 5 ≡ five → (unprinted_status ending ≡ 4) ⊎ (unprinted_status ending ≡ 5)
    go true e = inr (rw e refl)
    go false e = inl (rw e refl)

pub not_low : (a n : ℕ) → (a ≡ 4) ⊎ (a ≡ 5) → n < 4 → a ≡ n → ⊥
not_low a n (inl four) low e = omega (arith, four, low, e)
not_low a n (inr five) low e = omega (arith, five, low, e)

pub reported : (held now : Option (List ℕ)) (before after : ℕ) (ending : Outcome) (status : ℕ) → Reports held now before after ending status → ((status ≡ 4) ⊎ (status ≡ 5)) ⊎ (status ≡ ending.status)
reported held now before after ending status (inl prints) = inr prints.answers
reported held now before after ending status (inr fails) = inl (high (unprinted_high ending))
  where
    high : (unprinted_status ending ≡ 4) ⊎ (unprinted_status ending ≡ 5) → (status ≡ 4) ⊎ (status ≡ 5)
    high (inl four) = inl (fails.answers ∙ four)
    high (inr five) = inr (fails.answers ∙ five)

pub stopped : (before now : ℕ) (ending : Outcome) (status : ℕ) → Stops before now ending → ((status ≡ 4) ⊎ (status ≡ 5)) ⊎ (status ≡ ending.status) → (status ≡ 4) ⊎ (status ≡ 5)
stopped before now ending status stops (inl high) = high
stopped before now ending status (inl fault) (inr same) = inl (same ∙ ap (λ o. o.status) fault.0)
stopped before now ending status (inr memory) (inr same) = inr (same ∙ ap (λ o. o.status) memory)

pub input_within : (bytes name : List ℕ) (limit : ℕ) → length bytes ≤ limit → input_of (Some bytes) name limit ≡ Ok bytes
input_within bytes name limit within = rw (le-ltb limit (length bytes) within) refl

-- ---- a judgement

pub judged_0 : (j : Judgement) → (judged j).status ≡ 0 → IsGuilty j
judged_0 BadKey e = omega (arith, e)
judged_0 (Malformed at) e = omega (arith, e)
judged_0 (NotEvidence kind condition) e = omega (arith, e)
judged_0 (Guilty kind) e = tt

pub guilty_0 : (j : Judgement) → IsGuilty j → (judged j).status ≡ 0
guilty_0 BadKey g = absurd g
guilty_0 (Malformed at) g = absurd g
guilty_0 (NotEvidence kind condition) g = absurd g
guilty_0 (Guilty kind) g = refl

pub judged_1 : (j : Judgement) → (judged j).status ≡ 1 → IsGuilty j → ⊥
judged_1 j e g = omega (arith, e, guilty_0 j g)

pub on_3 : (key : List ℕ) (r : Result Evidence ℕ) → (judged (judgement_on key r)).status ≡ 3 → ⊥
on_3 key (Err at) e = omega (arith, e)
on_3 key (Ok evidence) e = by_3 (tried key evidence) e
  where
    by_3 : (r : Result (Unit {0}) ℕ) → (judged (judgement_by (kind_of evidence) r)).status ≡ 3 → ⊥
    by_3 (Ok x) e = omega (arith, e)
    by_3 (Err n) e = omega (arith, e)

pub bad_1 : (judged BadKey).status ≡ 1 → ⊥
bad_1 e = omega (arith, e)

pub key_read_1 : (key bytes : List ℕ) → (judged (judgement_of key bytes)).status ≡ 1 → IsTrue (key_reads key)
key_read_1 key bytes = go (key_reads key) refl
  where
    go : (reads : Bool) → key_reads key ≡ reads → (judged (judgement_of key bytes)).status ≡ 1 → IsTrue (key_reads key)
    go true e = λ one. e
    go false e = rw e (λ one. absurd (bad_1 one))

pub key_unread_3 : (key bytes : List ℕ) → (judged (judgement_of key bytes)).status ≡ 3 → key_reads key ≡ false
key_unread_3 key bytes = go (key_reads key) refl
  where
    go : (reads : Bool) → key_reads key ≡ reads → (judged (judgement_of key bytes)).status ≡ 3 → key_reads key ≡ false
    go true e = rw e (λ three. absurd (on_3 key (evidence_of bytes) three))
    go false e = λ three. e

-- and the other way round
pub on_1 : (key : List ℕ) (r : Result Evidence ℕ) → (IsGuilty (judgement_on key r) → ⊥) → (judged (judgement_on key r)).status ≡ 1
on_1 key (Err at) innocent = refl
on_1 key (Ok evidence) innocent = by_1 (tried key evidence) innocent
  where
    by_1 : (r : Result (Unit {0}) ℕ) → (IsGuilty (judgement_by (kind_of evidence) r) → ⊥) → (judged (judgement_by (kind_of evidence) r)).status ≡ 1
    by_1 (Ok x) innocent = absurd (innocent tt)
    by_1 (Err n) innocent = refl

pub innocent_1 : (key bytes : List ℕ) → IsTrue (key_reads key) → (IsGuilty (judgement_of key bytes) → ⊥) → (judged (judgement_of key bytes)).status ≡ 1
innocent_1 key bytes reads = rw reads (on_1 key (evidence_of bytes))

pub bad_3 : (key bytes : List ℕ) → key_reads key ≡ false → (judged (judgement_of key bytes)).status ≡ 3
bad_3 key bytes bad = rw bad refl
