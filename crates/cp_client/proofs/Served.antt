-- What was served in a clean epoch is the latest put's content.
use Rattle.std.proofs.Common.{◌≡◌, ◌⊎◌, inl, inr, ℕ, ◌<◌, Bool, true, false, cond, ◌&&◌, eqb, List, [], ◌∷◌, Option, Some, None, Result, Ok, Err, length, refl, sym, ap, subst, ◌∙◌, arith}
use Rattle.std.specs.Prelude.{bytes_eq}
use Rattle.std.proofs.lemmas.Bool.{eqb-true, false≢true}
use Rattle.std.proofs.lemmas.Slice.Eq.{bytes_eq-Decides}
use Rattle.sha2.specs.Sha256.{sha256}
use Rattle.cp_bytes.specs.Fields.{◌>>=◌, at_offset}
use Rattle.cp_bytes.specs.Hashes.{zero_hash}
use Rattle.lms_tree.specs.Verifying.{verifies}
use Rattle.cp_statements.specs.Attestation.{Attestation, attestation_of}
use Rattle.cp_statements.specs.Envelope.{Envelope, envelope_at}
use Rattle.cp_statements.specs.GetRequest.{GetRequest}
use Rattle.cp_chain.specs.Legal.{Put}
use Rattle.cp_evidence.specs.Audited.{audited}
use Rattle.cp_evidence.specs.Conditions.{signed_by}
use Rattle.cp_evidence.specs.Evidence.{Evidence}
use Rattle.cp_evidence.specs.HandIns.{hand_ins_of}
use Rattle.cp_evidence.specs.Material.{Material, GivenEpoch, given_of}
use Rattle.cp_evidence.specs.Verdict.{guilt, verdict_by}
use Rattle.cp_evidence.specs.Verdict.Verdict.{Clean}
use Rattle.cp_evidence.proofs.AuditLemmas.{latest_gets}
use Rattle.cp_client.specs.Accepting.{Tests, first_apart, Accepted, accept_of, read_or_refused, must, same_call, other_than_get, content_fits, head_fits}
use Rattle.cp_client.specs.Asking.Asked.{Get}
use Rattle.cp_client.specs.Laws.{Collide, IsClean, ServedIsLatest}
use Rattle.cp_client.specs.declared.field.Field.{Field}
use Rattle.cp_client.specs.declared.field.Field.TheVariants.{Store, Kind, Epoch, Block, Client, Nonce}
use Rattle.cp_client.specs.declared.refusals.ClientRefusal.{ClientRefusal}
use Rattle.cp_client.specs.declared.refusals.ClientRefusal.TheVariants.{BadSignature, ContentMismatch, BadHead}

-- ---- what was accepted

step_ok : {A B E : Type 0} (r : Result A E) (f : A → Result B E) (y : B) → (r >>= f) ≡ Ok y → (x : A) × (r ≡ Ok x) × (f x ≡ Ok y)
step_ok (Ok x) f y e = (x, refl, e)
step_ok (Err d) f y e = absurd cc

abbrev gave : {A E : Type 0} → A → Result A E
gave x = Ok x

same_value : {A E : Type 0} (x y : A) → gave {E = E} x ≡ gave y → x ≡ y
same_value x y e = cc

read_ok : {A : Type 0} (r : Result A ℕ) (x : A) → read_or_refused r ≡ Ok x → r ≡ Ok x
read_ok (Ok y) x e = cc
read_ok (Err at) x e = absurd cc

must_hold : (b : Bool) (refusal : ClientRefusal) (u : Unit {0}) → must b refusal ≡ Ok u → b ≡ true
must_hold true refusal u e = refl
must_hold false refusal u e = absurd cc

same_call_none : (f : Option Field) (u : Unit {0}) → same_call f ≡ Ok u → f ≡ None
same_call_none None u e = refl
same_call_none (Some field) u e = absurd cc

-- no field is apart only where the first test holds, and none of the others
test_holds : (field : Field) (holds : Bool) (tests : Tests) → cond holds (first_apart tests) (Some field) ≡ None → (holds ≡ true) × (first_apart tests ≡ None)
test_holds field true tests e = (refl, e)
test_holds field false tests e = absurd cc

-- the tests of a get behind its store's, its kind's and its epoch's
abbrev after_epoch : GetRequest → Attestation → Tests
after_epoch r a = (Block, eqb a.block r.block) ∷ (Client, eqb a.client r.client) ∷ (Nonce, eqb a.nonce r.nonce) ∷ []

abbrev after_kind : GetRequest → Attestation → Tests
after_kind r a = (Epoch, eqb a.epoch r.epoch) ∷ after_epoch r a

abbrev after_store : GetRequest → Attestation → Tests
after_store r a = (Kind, eqb a.kind 2) ∷ after_kind r a

-- what is known of a get that was accepted
record AcceptedGet (key : List ℕ) (request : GetRequest) (x : Accepted) : Type 0 where
  signed : signed_by key x.envelope ≡ true
  reads : attestation_of x.envelope.text ≡ Ok x.attestation
  kind : x.attestation.kind ≡ 2
  epoch : x.attestation.epoch ≡ request.epoch
  content : content_fits (Get request) x.attestation x.content ≡ true

accepted_get : (key : List ℕ) (request : GetRequest) (reply : List ℕ) (x : Accepted) → accept_of key (Get request) reply ≡ Ok x → AcceptedGet key request x
unfolding accept_of
accepted_get key request reply x e =
    let a = step_ok (read_or_refused (at_offset reply (envelope_at reply))) _ x e in
    let b = step_ok (read_or_refused (attestation_of a.0.0.text)) _ x a.2 in
    let c = step_ok (must (verifies key a.0.0.text a.0.0.signature) BadSignature) _ x b.2 in
    let d = step_ok (same_call (other_than_get request b.0)) _ x c.2 in
    let f = step_ok (must (content_fits (Get request) b.0 a.0.1) ContentMismatch) _ x d.2 in
    let h = step_ok (must (head_fits (Get request) b.0) BadHead) _ x f.2 in
    let made : Accepted = record { attestation = b.0; envelope = a.0.0; content = a.0.1 } in
    let none = same_call_none (other_than_get request b.0) d.0 d.1 in
    let store = test_holds Store (bytes_eq b.0.store request.store) (after_store request b.0) none in
    let kind = test_holds Kind (eqb b.0.kind 2) (after_kind request b.0) store.1 in
    let epoch = test_holds Epoch (eqb b.0.epoch request.epoch) (after_epoch request b.0) kind.1 in
    let known : AcceptedGet key request made = record {
      signed = must_hold (verifies key a.0.0.text a.0.0.signature) BadSignature c.0 c.1;
      reads = read_ok (attestation_of a.0.0.text) b.0 b.1;
      kind = eqb-true _ _ kind.0;
      epoch = eqb-true _ _ epoch.0;
      content = must_hold (content_fits (Get request) b.0 a.0.1) ContentMismatch f.0 f.1;
    } in
    subst (λ (y : Accepted). AcceptedGet key request y) (same_value made x h.2) known

-- above version 0 the content has the attested digest
above_zero : (request : GetRequest) (a : Attestation) (content : List ℕ) → 0 < a.version → content_fits (Get request) a content ≡ true → sha256 content ≡ a.content
above_zero request a content some fits = go (eqb a.version 0) refl fits
  where
    go : (zero : Bool) → eqb a.version 0 ≡ zero → cond zero (eqb (length content) 0 && bytes_eq a.content zero_hash) (bytes_eq (sha256 content) a.content) ≡ true → sha256 content ≡ a.content
    go true e holds = absurd (omega (arith, some, eqb-true a.version 0 e))
    go false e holds = (bytes_eq-Decides (sha256 content) a.content).0 holds

-- ---- what was audited

clean_guilt : (o : GivenEpoch) (hand_ins : List Envelope) (found : Option Evidence) (n h a : ℕ) → verdict_by o hand_ins found ≡ Clean n h a → found ≡ None
clean_guilt o hand_ins None n h a e = refl
clean_guilt o hand_ins (Some evidence) n h a e = absurd cc

no_guilt : (m : Material) (o : GivenEpoch) (bytes : List ℕ) (hand_ins : List Envelope) → given_of m ≡ Ok o → hand_ins_of bytes ≡ Ok hand_ins → IsClean m bytes → guilt o hand_ins ≡ None
unfolding audited
no_guilt m o bytes hand_ins given read clean =
    let answer = rw (given, read) at clean.3 in
    clean_guilt o hand_ins (guilt o hand_ins) clean.0 clean.1 clean.2 (same_value _ _ answer)

-- ---- the law

pub latest_served : ServedIsLatest
latest_served m o bytes hand_ins request reply content x accepted of_epoch above given read handed clean hash =
    let got = accepted_get m.key request reply x accepted in
    let put = latest_gets m o hand_ins x.envelope x.attestation given (no_guilt m o bytes hand_ins given read clean) handed got.signed got.reads got.kind (got.epoch ∙ of_epoch) in
    let one : sha256 content ≡ sha256 x.content = hash ∙ ap (λ (p : Put). p.content) (sym put) ∙ sym (above_zero request x.attestation x.content above got.content) in
    go (bytes_eq content x.content) refl one
  where
    go : (b : Bool) → bytes_eq content x.content ≡ b → sha256 content ≡ sha256 x.content → (content ≡ x.content) ⊎ Collide content x.content
    go true t same = inl ((bytes_eq-Decides content x.content).0 t)
    go false t same = inr (λ is. false≢true (sym t ∙ (bytes_eq-Decides content x.content).1 is), same)
