-- The whole answer, by what is given, what was handed in and what is found.
use Rattle.std.proofs.Common.{◌≡◌, ℕ, ◌-◌, ◌≤◌, List, length, sum_by, count_by, Option, Some, None, Ok, Err, refl, sym, ap, subst, ◌∙◌, arith}
use Rattle.std.specs.Prelude.{map, filter}
use Rattle.std.proofs.lemmas.List.Sums.{length-filter, count_by-le-length}
use Rattle.std.proofs.lemmas.List.{length-map}
use Rattle.cp_bytes.specs.Fields.{IsBytes}
use Rattle.cp_statements.specs.Envelope as spec
use Rattle.cp_statements.specs.View.{envelope_view}
use Rattle.cp_chain.specs.Rules.{first_of}
use Rattle.cp_evidence.specs.AuditLaws.{IsMaterial, LongPartsFit, evidence_limit}
use Rattle.cp_evidence.specs.Audited as audited
use Rattle.cp_evidence.specs.Conditions.{signed_by, Convicts}
use Rattle.cp_evidence.specs.Evidence.{Evidence, evidence_of, evidence_text}
use Rattle.cp_evidence.specs.HandIns.{hand_ins_of}
use Rattle.cp_evidence.specs.Material.{Material, GivenEpoch, given_of, parts_or_none}
use Rattle.cp_evidence.specs.Verdict as verdict
use Rattle.cp_evidence.proofs.AuditLemmas.{written}
use Rattle.cp_evidence.proofs.Lengths.{guilt_fits, guilt_short}
use Rattle.cp_evidence.proofs.ReadingEvidence.{evidence_exact}
use Rattle.cp_audit.specs.declared.hand_ins.HandIns.{HandIns}
use Rattle.cp_audit.specs.declared.refusal.AuditRefusal.{AuditRefusal}
use Rattle.cp_audit.specs.declared.refusal.AuditRefusal.TheVariants.{NotGiven, Malformed, OutOfMemory}
use Rattle.cp_audit.specs.Counts.{is_of_epoch}
use Rattle.cp_audit.specs.Given.{Refuses}
use Rattle.cp_audit.specs.HandIns.{AreHandedIn, Collects}
use Rattle.cp_audit.specs.Verdicts.{IsAnswer}
use Rattle.cp_audit.proofs.CountLemmas.{count_both}

-- ---- refusals

pub not_given : (m : Material) (bytes : List ℕ) (refusal : AuditRefusal) → Refuses (given_of m) refusal → IsAnswer (audited.audited m bytes) (Err refusal)
unfolding audited.audited
not_given m bytes (NotGiven what) h = rw h refl
not_given m bytes (Malformed at) h = absurd h
not_given m bytes OutOfMemory h = tt

pub not_read : (m : Material) (o : GivenEpoch) (key bytes : List ℕ) (refusal : AuditRefusal) → given_of m ≡ Ok o → Collects key bytes (Err refusal) → IsAnswer (audited.audited m bytes) (Err refusal)
unfolding audited.audited
not_read m o key bytes (NotGiven what) given h = absurd h
not_read m o key bytes (Malformed at) given h = rw given (rw h refl)
not_read m o key bytes OutOfMemory given h = tt

-- ---- what is found

-- among the hand-ins that verify
pub found_is : (o : GivenEpoch) (hand_ins xs : List spec.Envelope) (found : Option Evidence) → xs ≡ filter (signed_by o.key) hand_ins → first_of (verdict.guilt_by_kind o xs) ≡ found → verdict.guilt o hand_ins ≡ found
unfolding verdict.guilt
found_is o hand_ins xs found e h = ap (λ (l : List spec.Envelope). first_of (verdict.guilt_by_kind o l)) (sym e) ∙ h

pub is_guilty : (m : Material) (o : GivenEpoch) (bytes : List ℕ) (hand_ins : List spec.Envelope) (e : Evidence) → given_of m ≡ Ok o → hand_ins_of bytes ≡ Ok hand_ins → verdict.guilt o hand_ins ≡ Some e → audited.audited m bytes ≡ Ok (verdict.Verdict.Guilty e)
unfolding audited.audited
is_guilty m o bytes hand_ins e given read found = rw given (rw read (rw found refl))

pub convicts_by : (m : Material) (o : GivenEpoch) (bytes out : List ℕ) (hand_ins : List spec.Envelope) (e : Evidence) → IsMaterial m → IsBytes bytes → given_of m ≡ Ok o → hand_ins_of bytes ≡ Ok hand_ins → verdict.guilt o hand_ins ≡ Some e → out ≡ evidence_text e → LongPartsFit e → Convicts m.key out
convicts_by m o bytes out hand_ins e material are given read found is long = rw is (written m o hand_ins e given found (guilt_fits m o bytes hand_ins e material are given read found long))

-- they read as the evidence
pub reads_by : (m : Material) (o : GivenEpoch) (bytes out : List ℕ) (hand_ins : List spec.Envelope) (e : Evidence) → IsMaterial m → IsBytes bytes → given_of m ≡ Ok o → hand_ins_of bytes ≡ Ok hand_ins → verdict.guilt o hand_ins ≡ Some e → out ≡ evidence_text e → LongPartsFit e → evidence_of out ≡ Ok e
reads_by m o bytes out hand_ins e material are given read found is long = rw is (evidence_exact.spelled_is_read e (guilt_fits m o bytes hand_ins e material are given read found long))

-- they are few
pub short_by : (m : Material) (o : GivenEpoch) (bytes out : List ℕ) (hand_ins : List spec.Envelope) (e : Evidence) → IsMaterial m → IsBytes bytes → given_of m ≡ Ok o → hand_ins_of bytes ≡ Ok hand_ins → verdict.guilt o hand_ins ≡ Some e → out ≡ evidence_text e → length out ≤ evidence_limit m bytes
short_by m o bytes out hand_ins e material are given read found is = subst (λ (l : List ℕ). length l ≤ evidence_limit m bytes) (sym is) (guilt_short m o bytes hand_ins e material are given read found)

-- ---- where nothing is found

pub handed_is : (o : GivenEpoch) (hand_ins : List spec.Envelope) (xs : List spec.Envelope) → xs ≡ filter (signed_by o.key) hand_ins → count_by (is_of_epoch o) xs ≡ verdict.handed o hand_ins
handed_is o hand_ins xs e = ap (count_by (is_of_epoch o)) e ∙ count_both (signed_by o.key) (is_of_epoch o) hand_ins

pub is_clean : (m : Material) (o : GivenEpoch) (bytes : List ℕ) (hand_ins xs : List spec.Envelope) (count : ℕ) → given_of m ≡ Ok o → hand_ins_of bytes ≡ Ok hand_ins → verdict.guilt o hand_ins ≡ None → xs ≡ filter (signed_by o.key) hand_ins → count ≡ length hand_ins
    → audited.audited m bytes ≡ Ok (verdict.Verdict.Clean (sum_by (λ p. length p.texts) (parts_or_none o.log)) (count_by (is_of_epoch o) xs) (count - count_by (is_of_epoch o) xs))
unfolding audited.audited
is_clean m o bytes hand_ins xs count given read none kept many = rw (handed_is o hand_ins xs kept, many) (rw given (rw read (rw none refl)))

-- no more verify than were handed in
pub no_more : (key : List ℕ) (hand_ins : List spec.Envelope) (x : HandIns) → AreHandedIn key hand_ins x → length x.verified.items ≤ x.count
no_more key hand_ins x are =
    let seen : length (map envelope_view x.verified.items) ≡ length x.verified.items = length-map x.verified.items envelope_view in
    let kept : length (map envelope_view x.verified.items) ≡ count_by (signed_by key) hand_ins = ap length are.verified ∙ length-filter (signed_by key) hand_ins in
    let few : count_by (signed_by key) hand_ins ≤ length hand_ins = count_by-le-length (signed_by key) hand_ins in
    omega (arith, seen, kept, few, are.count)
