-- The laws on the audit.
use Rattle.std.proofs.Common.{◌≡◌, ℕ, ◌+◌, ◌-◌, ◌<◌, ◌≤◌, Bool, true, false, cond, eqb, ltb, leb, List, [], ◌∷◌, ◌++◌, length, take, Option, Some, None, Result, Ok, ◌⊎◌, inl, inr, refl, sym, ap, subst, ◌∙◌, arith}
use Rattle.std.specs.Prelude.{bytes_eq, filter, flat_map, ◌||◌, is_some, Contains, IsOkAnd}
use Rattle.std.specs.Result.{result_ok}
use Rattle.std.specs.List.{AllByRecursion}
use Rattle.std.proofs.lemmas.Bool.{and_parts, eqb-true, lt-ltb, ltb-true, leb-true, false≢true}
use Rattle.std.proofs.lemmas.List.Elements.{recursion_from_All, All-from_recursion, All-contains, All-contains_itself}
use Rattle.std.proofs.lemmas.Slice.Eq.{bytes_eq-Decides}
use Rattle.lms_tree.specs.PublicKey.{key_reads}
use Rattle.lms_tree.specs.Verifying.{verifies}
use Rattle.cp_statements.specs.Envelope.{Envelope}
use Rattle.cp_statements.specs.Attestation.{Attestation, attestation_of}
use Rattle.cp_statements.specs.Closing.{Closing, closing_of}
use Rattle.cp_statements.specs.Entry.{Entry, entry_of}
use Rattle.cp_statements.proofs.Apart.{kinds_apart}
use Rattle.cp_chain.specs.Frame.{Frame}
use Rattle.cp_chain.specs.Legal.{ok_and, Put, put_at, latest, FollowsText, Legal}
use Rattle.cp_chain.specs.Rules.{text_at}
use Rattle.cp_chain.specs.Standing.{reaches, says_the_same, stands}
use Rattle.cp_chain.proofs.Each.{each_at}
use Rattle.cp_chain.proofs.Found.{some_is, ok_and_true}
use Rattle.cp_evidence.specs.Evidence.{Evidence}
use Rattle.cp_evidence.specs.Conditions.{signed_by, attestation_by, closing_by, is_statement, tried}
use Rattle.cp_evidence.specs.Material.{Material, GivenEpoch, given_of, no_envelope, store_id, old_rows, new_rows, rose, frame_for, parts_or_none, closings, closing_envelopes, verified}
use Rattle.cp_evidence.specs.Sound.{StandsInLog, Clean}
use Rattle.cp_evidence.specs.Verdict.{guilt}
use Rattle.cp_evidence.specs.AuditLaws.{CleanExactly, GuiltConvicts, GuiltIsGiven, GuiltIsHashed, WrittenConvicts, GetsAreLatest, chain_of, get_chain, hashed_by}
use Rattle.cp_evidence.proofs.Trying.{where_some}
use Rattle.cp_evidence.proofs.Searches.{all_map, all_parts, all_flat, all_mapped, all_filter, all_pass}
use Rattle.cp_evidence.proofs.ReadingEvidence.{evidence_exact}
use Rattle.cp_evidence.proofs.GivenFacts.{ok_some, given_facts, came_from}
use Rattle.cp_evidence.proofs.Guilts.{Shows, Sources, guilt_shows, attestation_read, texts_or_none}
use Rattle.cp_evidence.proofs.CleanLemmas.{none_is_clean, clean_is_none}

-- ---- a member of a list

pub contained_in : {A : Type 0} (P : A → Type 0) (xs : List A) (x : A) → AllByRecursion P xs → Contains xs x → P x
contained_in P xs x all at = All-contains P xs x (All-from_recursion P xs all) at

pub all_contained : {A : Type 0} (xs : List A) → AllByRecursion (λ x. Contains xs x) xs
all_contained xs = recursion_from_All (Contains xs) xs (All-contains_itself xs)

-- what holds of those that pass holds of each that passes
pub passing : {A : Type 0} (P : A → Type 0) (p : A → Bool) (xs : List A) → AllByRecursion P (filter p xs) → AllByRecursion (λ x. p x ≡ true → P x) xs
passing P p [] all = tt
passing {A} P p (x ∷ xs) all = go (p x) refl all (passing P p xs)
  where
    go : (b : Bool) → p x ≡ b → AllByRecursion P (cond b (x ∷ filter p xs) (filter p xs)) → (AllByRecursion P (filter p xs) → AllByRecursion (λ y. p y ≡ true → P y) xs) → (p x ≡ true → P x) × AllByRecursion (λ y. p y ≡ true → P y) xs
    go true e h rest = (λ passes. h.0, rest h.1)
    go false e h rest = (λ passes. absurd (false≢true (sym e ∙ passes)), rest h)

pub handed_in : (o : GivenEpoch) (hand_ins : List Envelope) (P : Envelope → Type 0) (x : Envelope) → AllByRecursion P (verified o hand_ins) → Contains hand_ins x → signed_by o.key x ≡ true → P x
handed_in o hand_ins P x all at signed = contained_in (λ y. signed_by o.key y ≡ true → P y) hand_ins x (passing P (signed_by o.key) hand_ins all) at signed

pub clean_exact : CleanExactly
clean_exact m o hand_ins e =
    let facts = given_facts m o e in
    (none_is_clean o hand_ins facts, clean_is_none o hand_ins facts)

-- ---- guilt

pub sources : (o : GivenEpoch) (hand_ins : List Envelope) (P : Envelope → Type 0) (Q : List ℕ → Type 0) → P no_envelope → AllByRecursion P (closing_envelopes o ++ hand_ins) → AllByRecursion Q (hashed_by o hand_ins) → Sources o (verified o hand_ins) P Q
sources o hand_ins P Q none all hashed =
    let two = all_parts P (closing_envelopes o) hand_ins all in
    let chains = all_parts Q (flat_map (chain_of o) (parts_or_none o.log)) (flat_map (get_chain o) (verified o hand_ins)) hashed.1.1.1.1 in
    record {
      signed = all_pass (signed_by o.key) hand_ins;
      given = all_mapped P (λ c. c.envelope) (closings o) two.0;
      handed = all_filter P (signed_by o.key) hand_ins two.1;
      none = none;
      families = hashed.0;
      table = hashed.1.0;
      table_before = hashed.1.1.0;
      text_before = hashed.1.1.1.0;
      log = all_flat Q (chain_of o) (parts_or_none o.log) chains.0;
      gets = all_flat Q (get_chain o) (verified o hand_ins) chains.1;
    }

abbrev FromGiven : GivenEpoch → List Envelope → Envelope → Type 0
FromGiven o hand_ins x = (x ≡ no_envelope) ⊎ Contains (closing_envelopes o ++ hand_ins) x

shown : (m : Material) (o : GivenEpoch) (hand_ins : List Envelope) (ev : Evidence) → given_of m ≡ Ok o → guilt o hand_ins ≡ Some ev → Shows m.key (FromGiven o hand_ins) (Contains (hashed_by o hand_ins)) ev
shown m o hand_ins ev e g =
    let given = all_map (Contains (closing_envelopes o ++ hand_ins)) (FromGiven o hand_ins) (λ x h. inr h) (closing_envelopes o ++ hand_ins) (all_contained (closing_envelopes o ++ hand_ins)) in
    subst (λ (k : List ℕ). Shows k (FromGiven o hand_ins) (Contains (hashed_by o hand_ins)) ev) (came_from m o e).key
    (guilt_shows o hand_ins (FromGiven o hand_ins) (Contains (hashed_by o hand_ins)) ev (given_facts m o e) (sources o hand_ins (FromGiven o hand_ins) (Contains (hashed_by o hand_ins)) (inl refl) given (all_contained (hashed_by o hand_ins))) g)

pub convicts : GuiltConvicts
convicts m o hand_ins ev e g = (shown m o hand_ins ev e g).convicts

pub is_given : GuiltIsGiven
is_given m o hand_ins ev e g = (shown m o hand_ins ev e g).all_given

pub is_hashed : GuiltIsHashed
is_hashed m o hand_ins ev e g = (shown m o hand_ins ev e g).all_hashed

-- ---- the bytes of it

-- a key that verifies a signature reads
verifying_reads : (key text signature : List ℕ) → verifies key text signature ≡ true → key_reads key ≡ true
unfolding verifies
verifying_reads key text signature h = (and_parts _ _ (and_parts _ _ (and_parts _ _ (and_parts _ _ (and_parts _ _ (and_parts _ _ (and_parts _ _ h).0).0).0).0).0).0).0

pub written : WrittenConvicts
written m o hand_ins ev e g fits =
    let facts = given_facts m o e in
    let reads : key_reads m.key ≡ true = ap key_reads (sym (came_from m o e).key) ∙ verifying_reads o.key _ _ facts.closing_given.signed in
    record {
      key_reads = reads;
      holds = subst (λ r. IsOkAnd r (λ x. tried m.key x ≡ Ok tt)) (sym (evidence_exact.spelled_is_read ev fits)) (convicts m o hand_ins ev e g);
    }

-- ---- what gets return

-- a statement that spells an attestation is one of this store
ours : (store text : List ℕ) (a : Attestation) → is_statement store text ≡ true → attestation_of text ≡ Ok a → attestation_by store text ≡ Some a
ours store text a is reads = go (attestation_by store text) refl (closing_by store text) refl is
  where
    go : (p : Option Attestation) → attestation_by store text ≡ p → (q : Option Closing) → closing_by store text ≡ q → (is_some p || is_some q) ≡ true → p ≡ Some a
    go (Some b) e q f h =
        let w = attestation_read store text b e in
        let both : (let r : Result Attestation ℕ = Ok b in r) ≡ Ok a = sym w ∙ reads in
        let same : b ≡ a = cc in
        ap (λ (z : Attestation). Some z) same
    go None e (Some c) f h = absurd (kinds_apart text a c reads (ok_some (closing_of text) c (where_some (λ c. bytes_eq c.store store) (result_ok (closing_of text)) c f).0))
    go None e None f h = absurd (false≢true h)

-- an attestation of a get that stands in a legal segment has the latest put
pub stands_latest : (f : Frame) (ts : List (List ℕ)) (a : Attestation) → Legal f ts → reaches f ts ≡ true → stands f ts a ≡ true → a.kind ≡ 2 → record { version = a.version; content = a.content } ≡ latest (put_at f.side.before) (take (a.position - f.side.before.count) ts)
unfolding reaches stands
stands_latest f ts a legal reach stood get =
    let i : ℕ = a.position - f.side.before.count in
    let b = and_parts (leb f.side.before.count a.position) _ stood in
    let c = and_parts (ltb a.position f.after.count) _ b.1 in
    let d = and_parts (ok_and (entry_of (text_at ts (a.position - f.side.before.count))) (says_the_same a)) _ c.1 in
    let lo : f.side.before.count ≤ a.position = leb-true _ _ b.0 in
    let hi : a.position < f.after.count = ltb-true _ _ c.0 in
    let r = and_parts (eqb (f.side.before.count + length ts) f.after.count) _ reach in
    let size : f.side.before.count + length ts ≡ f.after.count = eqb-true _ _ r.0 in
    let inside : (a.position - f.side.before.count) < length ts = omega (arith, lo, hi, size) in
    let w = each_at (FollowsText f.side) ts legal.each (a.position - f.side.before.count) [] inside in
    let e = ok_and_true (entry_of (text_at ts (a.position - f.side.before.count))) (says_the_same a) d.0 in
    let both : (let q : Result Entry ℕ = Ok w.0 in q) ≡ Ok e.0 = sym w.1 ∙ e.1 in
    let same : w.0 ≡ e.0 = cc in
    let said = said_is a e.0 e.2 in
    let put : a.kind ≡ 2 → record { version = (w.0).version; content = (w.0).content } ≡ latest (put_at f.side.before) (take (a.position - f.side.before.count) ts) = λ g. w.2.latest_put (ap (λ (z : Entry). z.kind) same ∙ said.0 ∙ g) in
    said.1 ∙ ap (λ (z : Entry). record { version = z.version; content = z.content }) (sym same) ∙ put get
  where
    said_is : (a : Attestation) (e : Entry) → says_the_same a e ≡ true → (e.kind ≡ a.kind) × ((let p : Put = record { version = a.version; content = a.content } in p) ≡ record { version = e.version; content = e.content })
    said_is a e h =
        let p1 = and_parts (eqb e.kind a.kind) _ h in
        let p2 = and_parts (eqb e.epoch a.epoch) _ p1.1 in
        let p3 = and_parts (eqb e.block a.block) _ p2.1 in
        let p4 = and_parts (eqb e.position a.position) _ p3.1 in
        let p5 = and_parts (eqb e.client a.client) _ p4.1 in
        let p6 = and_parts (eqb e.nonce a.nonce) _ p5.1 in
        let p7 = and_parts (eqb e.version a.version) _ p6.1 in
        let v : e.version ≡ a.version = eqb-true _ _ p7.0 in
        let c : e.content ≡ a.content = (bytes_eq-Decides e.content a.content).0 p7.1 in
        (eqb-true _ _ p1.0, ap (λ (n : ℕ). record { version = n; content = a.content }) (sym v) ∙ ap (λ (l : List ℕ). record { version = e.version; content = l }) (sym c))

-- where an attestation stands the count rose
between : (f : Frame) (ts : List (List ℕ)) (a : Attestation) → stands f ts a ≡ true → ltb f.side.before.count f.after.count ≡ true
unfolding stands
between f ts a stood =
    let b = and_parts (leb f.side.before.count a.position) _ stood in
    let c = and_parts (ltb a.position f.after.count) _ b.1 in
    let lo : f.side.before.count ≤ a.position = leb-true _ _ b.0 in
    let hi : a.position < f.after.count = ltb-true _ _ c.0 in
    lt-ltb _ _ (omega (arith, lo, hi))

pub latest_gets : GetsAreLatest
latest_gets m o hand_ins x a e none at signed reads get epoch =
    let facts = given_facts m o e in
    let from = came_from m o e in
    let c : Clean o hand_ins = none_is_clean o hand_ins facts none in
    let by_o : signed_by o.key x ≡ true = ap (λ (k : List ℕ). signed_by k x) from.key ∙ signed in
    let is = ours (store_id o) x.text a (handed_in o hand_ins (λ x. is_statement (store_id o) x.text ≡ true) x c.statements at by_o) reads in
    let w = handed_in o hand_ins (StandsInLog o) x c.stand at by_o a is (epoch ∙ sym from.epoch) in
    let f : Frame = frame_for o a.block in
    let grew : rose (old_rows o) (new_rows o) a.block ≡ true = between (frame_for o a.block) w.0 a w.2 in
    let l = c.sound.legal a.block grew in
    let both : (let q : Option (List (List ℕ)) = Some l.0 in q) ≡ Some w.0 = sym l.1 ∙ w.1 in
    let same : l.0 ≡ w.0 = some_is l.0 w.0 both in
    let put = stands_latest (frame_for o a.block) w.0 a (subst (Legal (frame_for o a.block)) same l.3) (ap (reaches (frame_for o a.block)) (sym same) ∙ l.2) w.2 get in
    put ∙ ap (λ (s : Option (List (List ℕ))). latest (put_at (frame_for o a.block).side.before) (take (a.position - (frame_for o a.block).side.before.count) (texts_or_none s))) (sym w.1)
