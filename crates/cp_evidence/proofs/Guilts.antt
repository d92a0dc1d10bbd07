-- What the audit finds, the judge accepts: each kind of guilt is evidence that convicts, its envelopes
-- were given or handed in, and what it presents is hashed by the audit.
use Rattle.std.proofs.Common.{◌≡◌, ℕ, ◌<◌, Bool, true, false, cond, not, ◌&&◌, ◌||◌, eqb, ltb, leb, List, [], ◌∷◌, ◌++◌, map, Option, Some, None, Result, Ok, inl, inr, refl, sym, ap, subst, ◌∙◌, arith}
use Rattle.std.specs.Prelude.{bytes_eq, is_some, option_map}
use Rattle.std.specs.Option.{option_map_or}
use Rattle.std.specs.Result.{result_ok}
use Rattle.std.specs.List.{AllByRecursion, find}
use Rattle.std.proofs.lemmas.Bool.{and_parts, and_from, eqb-true, eq-eqb, lt-ltb, ltb-false, leb-false, false≢true}
use Rattle.std.proofs.lemmas.Slice.Eq.{bytes_eq-Decides}
use Rattle.sha2.specs.Sha256.{sha256}
use Rattle.cp_bytes.specs.Hashes.{chain_texts}
use Rattle.cp_bytes.specs.Fields.{◌>>=◌}
use Rattle.lms_tree.specs.Verifying.{leaf_of}
use Rattle.cp_statements.specs.Envelope.{Envelope}
use Rattle.cp_statements.specs.Attestation.{Attestation, attestation_of}
use Rattle.cp_statements.specs.Closing.{Closing}
use Rattle.cp_tips.specs.Table.{TableRow, row, regressed}
use Rattle.cp_families.specs.Families.{FamilyRow, families_of}
use Rattle.cp_chain.specs.Frame.{Frame}
use Rattle.cp_chain.specs.Log.{LogPart}
use Rattle.cp_chain.specs.Rules.{broken, Found, first_fault, first_of, or_else}
use Rattle.cp_chain.specs.Standing.{reaches, stands}
use Rattle.cp_chain.proofs.Found.{else_some, first_found}
use Rattle.cp_chain.proofs.Firsts.{first_fault_least}
use Rattle.cp_evidence.specs.Evidence.{Given, Evidence}
use Rattle.cp_evidence.specs.Evidence.Evidence.{K1, K2, K3, K4, K5, K6, K7, K8, K9, K10}
use Rattle.cp_evidence.specs.Conditions.{check, want, where_holds, signed_by, attestation_by, closing_by, is_statement, head_fits, Before, before_of, link_from, is_table_before, rows_for, rows_before, Framed, framed, frame_of, is_outside, k1_tried, k2_tried, k3_tried, k4_tried, k5_tried, k6_tried, k7_tried, k8_tried, k9_tried, k10_tried, tried}
use Rattle.cp_evidence.specs.Presented.{envelopes, own_chain_text, presented, opening_head, block_in}
use Rattle.cp_evidence.specs.Material.{SignedClosing, before_in, is_formed, is_formed_before, least_regressed, rose, frame_between, part_reaches, GivenEpoch, store_id, old_rows, new_rows, parts_or_none, segment_for, frame_for, list_of, closings, closing_envelopes, verified, no_envelope, envelope_before}
use Rattle.cp_evidence.specs.Verdict.{some_and, has_wrong_head, is_other_closing, is_lost, same_leaf, same_place, clash, framing, evidence_if, other_closing, link_is_wrong, fault_in, segment_beside, lost_evidence, guilt}
use Rattle.cp_evidence.specs.AuditLaws.{chain_of, get_chain_text, get_chain}
use Rattle.cp_evidence.proofs.Trying.{not_true, where_some}
use Rattle.cp_evidence.proofs.Searches.{all_map, all_two, all_append, mapped_all, map_some, map_none, if_some, if_none, found_one, clash_is, and_some}
use Rattle.cp_evidence.proofs.GivenFacts.{SignedIn, GivenBefore, before_fits, ok_some, formed_is, formed_rows, formed_before_rows, least_regressed_is, part_found, LogGiven, reads_log, Facts}

pub record Shows (key : List ℕ) (P : Envelope → Type 0) (Q : List ℕ → Type 0) (ev : Evidence) : Type 0 where
  pub convicts : tried key ev ≡ Ok tt
  pub all_given : AllByRecursion P (envelopes ev)
  pub all_hashed : AllByRecursion Q (presented key ev)

-- ---- the kinds that need hand-ins alone

pub k10_convicts : (key : List ℕ) (x : Envelope) → signed_by key x ≡ true → not (is_statement (sha256 key) x.text) ≡ true → tried key (K10 x) ≡ Ok tt
unfolding k10_tried
k10_convicts key x signed wrong = holds (signed_by key x) (not (is_statement (sha256 key) x.text)) signed wrong
  where
    holds : (a b : Bool) → a ≡ true → b ≡ true → (check 1 a >>= λ _. check 2 b) ≡ Ok tt
    holds a b p q = rw (p, q) refl

pub k9_convicts : (key : List ℕ) (x : Envelope) → signed_by key x ≡ true → has_wrong_head (sha256 key) x ≡ true → tried key (K9 x) ≡ Ok tt
unfolding k9_tried
k9_convicts key x signed wrong =
    let a = and_some (attestation_by (sha256 key) x.text) (λ a. eqb a.kind 2 && not (head_fits a)) wrong in
    let w = and_parts (eqb a.0.kind 2) (not (head_fits a.0)) a.2 in
    holds (signed_by key x) (attestation_by (sha256 key) x.text) a.0 signed a.1 w.0 w.1
  where
    holds : (s : Bool) (o : Option Attestation) (a : Attestation) → s ≡ true → o ≡ Some a → eqb a.kind 2 ≡ true → not (head_fits a) ≡ true
        → (check 1 s >>= λ _. (want 2 (where_holds (λ a. eqb a.kind 2) o) >>= λ a. check 3 (not (head_fits a)))) ≡ Ok tt
    holds s o a p q k h = rw (p, q, k, h) refl

holds_four : (a b c d : Bool) → a ≡ true → b ≡ true → c ≡ true → d ≡ true → (check 1 a >>= λ _. (check 2 b >>= λ _. (check 3 c >>= λ _. check 4 d))) ≡ Ok tt
holds_four a b c d p q r s = rw (p, q, r, s) refl

pub k2_convicts : (key : List ℕ) (x y : Envelope) → signed_by key x ≡ true → signed_by key y ≡ true → same_leaf x y ≡ true → tried key (K2 (record { x = x; y = y })) ≡ Ok tt
unfolding k2_tried
k2_convicts key x y p q wrong =
    let w = and_parts _ _ wrong in
    holds_four (signed_by key x) (signed_by key y) (eqb (leaf_of x.signature) (leaf_of y.signature)) (not (bytes_eq x.text y.text)) p q w.0 w.1

pub k1_convicts : (key : List ℕ) (x y : Envelope) → signed_by key x ≡ true → signed_by key y ≡ true → same_place (sha256 key) x y ≡ true → tried key (K1 (record { x = x; y = y })) ≡ Ok tt
unfolding k1_tried
k1_convicts key x y p q wrong =
    holds (signed_by key x) (signed_by key y) (attestation_by (sha256 key) x.text) (attestation_by (sha256 key) y.text) (not (bytes_eq x.text y.text)) p q wrong
  where
    holds : (s t : Bool) (o u : Option Attestation) (d : Bool) → s ≡ true → t ≡ true → some_and o (λ a. some_and u (λ b. eqb a.block b.block && (eqb a.position b.position && d))) ≡ true
        → (check 1 s >>= λ _. (check 2 t >>= λ _. (want 3 o >>= λ a. (want 4 u >>= λ b. (check 5 (eqb a.block b.block && eqb a.position b.position) >>= λ _. check 6 d))))) ≡ Ok tt
    holds s t None u d p q h = absurd (false≢true h)
    holds s t (Some a) None d p q h = absurd (false≢true h)
    holds s t (Some a) (Some b) d p q h =
        let v = and_parts (eqb a.block b.block) (eqb a.position b.position && d) h in
        let w = and_parts (eqb a.position b.position) d v.1 in
        rw (p, q, v.0, w.0, w.1) refl

pub k3_convicts : (key : List ℕ) (given : SignedClosing) (x : Envelope) → signed_by key given.envelope ≡ true → closing_by (sha256 key) given.envelope.text ≡ Some given.closing → signed_by key x ≡ true → is_other_closing (sha256 key) x given ≡ true → tried key (K3 (record { x = given.envelope; y = x })) ≡ Ok tt
unfolding k3_tried
k3_convicts key given x p is q wrong =
    let c = and_some (closing_by (sha256 key) x.text) (λ c. eqb c.epoch given.closing.epoch && not (bytes_eq x.text given.envelope.text)) wrong in
    let w = and_parts _ _ c.2 in
    let epochs : eqb given.closing.epoch c.0.epoch ≡ true = eq-eqb _ _ (sym (eqb-true _ _ w.0)) in
    let texts : not (bytes_eq given.envelope.text x.text) ≡ true = turned x.text given.envelope.text w.1 in
    rw (p, q, is, c.1, epochs, texts) refl
  where
    turned : (s t : List ℕ) → not (bytes_eq s t) ≡ true → not (bytes_eq t s) ≡ true
    turned s t h = go (bytes_eq t s) refl
      where
        go : (b : Bool) → bytes_eq t s ≡ b → not b ≡ true
        go true e = absurd (false≢true (ap not (sym ((bytes_eq-Decides s t).1 (sym ((bytes_eq-Decides t s).0 e)))) ∙ h))
        go false e = refl

-- ---- the kinds of tables and links

pub k4_convicts : (key : List ℕ) (x : Envelope) (c : Closing) (t : List ℕ) → signed_by key x ≡ true → closing_by (sha256 key) x.text ≡ Some c → bytes_eq (sha256 t) c.table ≡ true → is_formed t c ≡ false → tried key (K4 (record { closing = x; table = t })) ≡ Ok tt
unfolding k4_tried
k4_convicts key x c t signed is table wrong = holds (signed_by key x) (closing_by (sha256 key) x.text) (λ c. bytes_eq (sha256 t) c.table) (λ c. is_some (rows_for t c)) c signed is table (sym (formed_is t c) ∙ wrong)
  where
    holds : (s : Bool) (o : Option Closing) (p q : Closing → Bool) (c : Closing) → s ≡ true → o ≡ Some c → p c ≡ true → q c ≡ false
        → (check 1 s >>= λ _. (want 2 o >>= λ c. (check 3 (p c) >>= λ _. check 4 (not (q c))))) ≡ Ok tt
    holds s o p q c a b d h = rw (a, b, d, h) refl

pub k5_convicts : (key : List ℕ) (x y : Envelope) (c : Closing) (d : Before) → signed_by key x ≡ true → closing_by (sha256 key) x.text ≡ Some c → before_of key c y ≡ Some d → not (bytes_eq c.link (link_from y d)) ≡ true → tried key (K5 (record { x = x; y = y })) ≡ Ok tt
unfolding k5_tried
k5_convicts key x y c d signed is before wrong = holds (signed_by key x) (closing_by (sha256 key) x.text) (λ c. before_of key c y) (λ c d. not (bytes_eq c.link (link_from y d))) c d signed is before wrong
  where
    holds : (s : Bool) (o : Option Closing) (p : Closing → Option Before) (q : Closing → Before → Bool) (c : Closing) (d : Before) → s ≡ true → o ≡ Some c → p c ≡ Some d → q c d ≡ true
        → (check 1 s >>= λ _. (want 2 o >>= λ c. (want 3 (p c) >>= λ d. check 4 (q c d)))) ≡ Ok tt
    holds s o p q c d a b e h = rw (a, b) (rw e (rw h refl))

-- the frame
pub sides : GivenEpoch → Framed
sides o = record { closing = o.closing.closing; rows = new_rows o; rows_before = old_rows o }

framed_from : (key : List ℕ) (g : Given) (c : Closing) (d : Before) (rows rows_then : List TableRow) → signed_by key g.closing ≡ true → closing_by (sha256 key) g.closing.text ≡ Some c → before_of key c g.before ≡ Some d → bytes_eq (sha256 g.table) c.table ≡ true → is_table_before g.table_before d ≡ true
    → rows_for g.table c ≡ Some rows → rows_before g.table_before d ≡ Some rows_then → framed key g ≡ Ok (record { closing = c; rows = rows; rows_before = rows_then })
unfolding framed
framed_from key g c d rows rows_then signed is before table table_before now then =
    holds (signed_by key g.closing) (closing_by (sha256 key) g.closing.text) (λ c. before_of key c g.before) (λ c. bytes_eq (sha256 g.table) c.table) (is_table_before g.table_before) (rows_for g.table) (rows_before g.table_before) signed is before table table_before now then
  where
    made : Closing → List TableRow → List TableRow → Result Framed ℕ
    made c n p = Ok (record { closing = c; rows = n; rows_before = p })

    holds : (s : Bool) (o : Option Closing) (b : Closing → Option Before) (t : Closing → Bool) (u : Before → Bool) (r : Closing → Option (List TableRow)) (v : Before → Option (List TableRow))
        → s ≡ true → o ≡ Some c → b c ≡ Some d → t c ≡ true → u d ≡ true → r c ≡ Some rows → v d ≡ Some rows_then
        → (check 1 s >>= λ _. (want 2 o >>= λ c. (want 3 (b c) >>= λ d. (check 4 (t c) >>= λ _. (check 5 (u d) >>= λ _. (want 6 (r c) >>= λ n. (want 7 (v d) >>= λ p. made c n p))))))) ≡ Ok (record { closing = c; rows = rows; rows_before = rows_then })
    holds s o b t u r v e1 e2 e3 e4 e5 e6 e7 = rw (e1, e2) (rw e3 (rw (e4, e5, e6, e7) refl))

pub sides_are : (o : GivenEpoch) → Facts o → is_formed_before o.table_before (before_in o.before) ≡ true → is_formed o.table o.closing.closing ≡ true → framed o.key (framing o) ≡ Ok (sides o)
unfolding sides
sides_are o facts b t =
    let x = facts.closing_given in
    let epoch : o.closing.closing.epoch ≡ o.epoch = omega (arith, x.epochs) in
    framed_from o.key (framing o) o.closing.closing (before_in o.before) (new_rows o) (old_rows o) x.signed x.closing_is
    (before_fits o.key o.closing.closing o.epoch o.before epoch facts.before_given) facts.table_digest facts.before_digest (formed_rows o.table o.closing.closing t) (formed_before_rows o.table_before (before_in o.before) b)

frame_is : (o : GivenEpoch) (families : List FamilyRow) (b : ℕ) → o.closing.closing.epoch ≡ o.epoch → frame_of o.key families (sides o) b ≡ frame_between (sha256 o.key) families o.epoch (old_rows o) (new_rows o) b
unfolding sides
frame_is o families b e = ap (λ (n : ℕ). frame_between (sha256 o.key) families n (old_rows o) (new_rows o) b) e

pub k6_convicts : (o : GivenEpoch) (b : ℕ) → framed o.key (framing o) ≡ Ok (sides o) → regressed (old_rows o) (new_rows o) b ≡ true → tried o.key (K6 (record { block = b; given = framing o })) ≡ Ok tt
unfolding k6_tried sides
k6_convicts o b is wrong = rw (is, wrong) refl

-- the evidence of a fault in a segment
abbrev pub broken_rule : GivenEpoch → LogPart → Found → Evidence
broken_rule o p x = K7 (record { block = p.block; fault = x; given = framing o; families = o.families_text; segment = p.texts })

pub k7_convicts : (o : GivenEpoch) (p : LogPart) (x : Found) → framed o.key (framing o) ≡ Ok (sides o) → families_of o.families_text ≡ Ok o.families → bytes_eq (sha256 o.families_text) o.closing.closing.families ≡ true
    → reaches (frame_of o.key o.families (sides o) p.block) p.texts ≡ true → broken (frame_of o.key o.families (sides o) p.block) p.texts x.rule x.place x.other ≡ true → tried o.key (broken_rule o p x) ≡ Ok tt
unfolding k7_tried sides
k7_convicts o p x is families digests reaching wrong = rw is (rw (digests, families) (rw (reaching, wrong) refl))

pub k8_convicts : (o : GivenEpoch) (x : Envelope) (a : Attestation) (ts : List (List ℕ)) → framed o.key (framing o) ≡ Ok (sides o) → signed_by o.key x ≡ true → attestation_by (sha256 o.key) x.text ≡ Some a → a.epoch ≡ o.closing.closing.epoch
    → (is_outside (frame_of o.key [] (sides o) a.block) a || (reaches (frame_of o.key [] (sides o) a.block) ts && not (stands (frame_of o.key [] (sides o) a.block) ts a))) ≡ true
    → tried o.key (K8 (record { given = framing o; attestation = x; segment = ts })) ≡ Ok tt
unfolding k8_tried sides
k8_convicts o x a ts is signed reads epoch wrong = rw is (rw (signed, reads) (rw (eq-eqb _ _ epoch) (rw wrong refl)))

-- ---- where the log was read

-- an attestation stands in its block's segment, if there is one
abbrev pub stands_there : Frame → Option (List (List ℕ)) → Attestation → Bool
stands_there f segment a = option_map_or (λ texts. stands f texts a) segment false

abbrev pub texts_or_none : Option (List (List ℕ)) → List (List ℕ)
texts_or_none segment = option_map_or (λ texts. texts) segment []

-- outside the counts, or the segment reaches and the attestation doesn't stand in it
k8_wrong : (f : Frame) (segment : Option (List (List ℕ))) (a : Attestation) → part_reaches f segment (ltb f.side.before.count f.after.count) ≡ true → stands_there f segment a ≡ false
    → (let ts : List (List ℕ) = cond (is_outside f a) [] (texts_or_none segment) in
    (is_outside f a || (reaches f ts && not (stands f ts a))) ≡ true)
k8_wrong f segment a holds falls = go (ltb a.position f.side.before.count) (leb f.after.count a.position) refl refl
  where
    inside : (o : Option (List (List ℕ))) → part_reaches f o (ltb f.side.before.count f.after.count) ≡ true → stands_there f o a ≡ false → f.side.before.count < f.after.count → (reaches f (texts_or_none o) && not (stands f (texts_or_none o) a)) ≡ true
    inside None h s lt = absurd (false≢true (ap not (sym (lt-ltb _ _ lt)) ∙ h))
    inside (Some ts) h s lt = and_from _ _ (and_parts _ _ h).1 (ap not s)

    go : (u v : Bool) → ltb a.position f.side.before.count ≡ u → leb f.after.count a.position ≡ v → ((u || v) || (reaches f (cond (u || v) [] (texts_or_none segment)) && not (stands f (cond (u || v) [] (texts_or_none segment)) a))) ≡ true
    go true v e g = refl
    go false true e g = refl
    go false false e g = let lo = ltb-false _ _ e in let hi = leb-false _ _ g in inside segment holds falls (omega (arith, lo, hi))

reaches_alike : (o : GivenEpoch) (families : List FamilyRow) (b : ℕ) (ts : List (List ℕ)) → reaches (frame_of o.key families (sides o) b) ts ≡ reaches (frame_for o b) ts
unfolding reaches sides
reaches_alike o families b ts = refl

stands_alike : (o : GivenEpoch) (b : ℕ) (ts : List (List ℕ)) (a : Attestation) → stands (frame_of o.key [] (sides o) b) ts a ≡ stands (frame_for o b) ts a
unfolding stands sides
stands_alike o b ts a = refl

-- each segment of the log reaches
pub segments_reach : (o : GivenEpoch) → LogGiven o → AllByRecursion (λ p. reaches (frame_for o p.block) p.texts ≡ true) (parts_or_none o.log)
segments_reach o log =
    all_map (λ (p : LogPart). segment_for o p.block ≡ Some p.texts) (λ (p : LogPart). reaches (frame_for o p.block) p.texts ≡ true)
    (λ p own. (and_parts _ _ (ap (λ (s : Option (List (List ℕ))). part_reaches (frame_for o p.block) s (rose (old_rows o) (new_rows o) p.block)) (sym own) ∙ log.holds p.block)).1) (parts_or_none o.log) log.own

-- the attestation that a text spells for this store
pub attestation_read : (store text : List ℕ) (a : Attestation) → attestation_by store text ≡ Some a → attestation_of text ≡ Ok a
attestation_read store text a e = ok_some (attestation_of text) a (where_some (λ a. bytes_eq a.store store) (result_ok (attestation_of text)) a e).0

-- ---- what is given, and what is hashed

pub record Sources (o : GivenEpoch) (vs : List Envelope) (P : Envelope → Type 0) (Q : List ℕ → Type 0) : Type 0 where
  pub signed : AllByRecursion (λ x. signed_by o.key x ≡ true) vs
  pub given : AllByRecursion (λ c. P c.envelope) (closings o)
  pub handed : AllByRecursion P vs
  pub none : P no_envelope
  pub families : Q o.families_text
  pub table : Q o.table
  pub table_before : Q o.table_before
  pub text_before : Q (envelope_before o.before).text
  pub log : AllByRecursion (λ p. AllByRecursion Q (chain_of o p)) (parts_or_none o.log)
  pub gets : AllByRecursion (λ x. AllByRecursion Q (get_chain o x)) vs

-- a closing that is given
pub IsGiven : GivenEpoch → SignedClosing → Type 0
IsGiven o c = (signed_by o.key c.envelope ≡ true) × (closing_by (sha256 o.key) c.envelope.text ≡ Some c.closing)

pub closings_given : (o : GivenEpoch) → Facts o → AllByRecursion (IsGiven o) (closings o)
unfolding IsGiven
closings_given o facts = go o.before facts.before_given
  where
    closing : IsGiven o o.closing
    closing = (facts.closing_given.signed, facts.closing_given.closing_is)

    go : (b : Option SignedClosing) → GivenBefore o.key o.epoch b → AllByRecursion (IsGiven o) (list_of b ++ o.closing ∷ [])
    go None h = (closing, tt)
    go (Some c) h =
        elim h [
          | inl x ↦ absurd cc
          | inr x ↦
              let is : c ≡ x.1 = cc in
              let w : SignedIn o.key 1 o.epoch c = subst (λ (z : SignedClosing). SignedIn o.key 1 o.epoch z) (sym is) x.3 in
              ((w.signed, w.closing_is), (closing, tt))
        ]

before_one : (P : Envelope → Type 0) (b : Option SignedClosing) (c : SignedClosing) → P no_envelope → AllByRecursion (λ c. P c.envelope) (list_of b ++ c ∷ []) → P (envelope_before b)
before_one P None c none all = none
before_one P (Some d) c none all = all.0

pub last_one : (P : Envelope → Type 0) (b : Option SignedClosing) (c : SignedClosing) → AllByRecursion (λ c. P c.envelope) (list_of b ++ c ∷ []) → P c.envelope
last_one P None c all = all.0
last_one P (Some d) c all = all.1.0

-- ---- row by row

pub Held : (o : GivenEpoch) (P : Envelope → Type 0) → Envelope → Type 0
Held o P x = P x × (signed_by o.key x ≡ true)

pub both_of : (o : GivenEpoch) (vs : List Envelope) (P : Envelope → Type 0) (Q : List ℕ → Type 0) → Sources o vs P Q → AllByRecursion (Held o P) vs
unfolding Held
both_of o vs P Q s = all_two P (λ x. signed_by o.key x ≡ true) (Held o P) (λ x p q. (p, q)) vs s.handed s.signed

pub row_k10 : (o : GivenEpoch) (vs : List Envelope) (P : Envelope → Type 0) (Q : List ℕ → Type 0) (ev : Evidence) → Sources o vs P Q → option_map K10 (find ((λ x. not (is_statement (store_id o) x.text))) vs) ≡ Some ev → Shows o.key P Q ev
unfolding Held presented
row_k10 o vs P Q ev s e =
    let b = map_some K10 (find ((λ x. not (is_statement (store_id o) x.text))) vs) ev e in
    let f = found_one (Held o P) ((λ x. not (is_statement (store_id o) x.text))) vs b.0 (both_of o vs P Q s) b.1 in
    subst (Shows o.key P Q) b.2 (record { convicts = k10_convicts o.key b.0 f.0.1 f.1; all_given = (f.0.0, tt); all_hashed = tt })

get_hashed : (o : GivenEpoch) (Q : List ℕ → Type 0) (x : Envelope) (a : Attestation) → attestation_by (store_id o) x.text ≡ Some a → eqb a.kind 2 ≡ true → AllByRecursion Q (get_chain o x) → AllByRecursion Q (own_chain_text (result_ok (attestation_of x.text)))
get_hashed o Q x a is get h =
    let same : get_chain o x ≡ own_chain_text (result_ok (attestation_of x.text)) = ap get_chain_text is ∙ ap (λ (b : Bool). cond b (own_chain_text (Some a)) []) get ∙ sym (ap own_chain_text (ap result_ok (attestation_read (store_id o) x.text a is))) in
    subst (λ (l : List (List ℕ)). AllByRecursion Q l) same h

pub row_k9 : (o : GivenEpoch) (vs : List Envelope) (P : Envelope → Type 0) (Q : List ℕ → Type 0) (ev : Evidence) → Sources o vs P Q → option_map K9 (find (has_wrong_head (store_id o)) vs) ≡ Some ev → Shows o.key P Q ev
unfolding Held presented
row_k9 o vs P Q ev s e =
    let b = map_some K9 (find (has_wrong_head (store_id o)) vs) ev e in
    let all = all_two (Held o P) (λ x. AllByRecursion Q (get_chain o x)) (λ x. Held o P x × AllByRecursion Q (get_chain o x)) (λ x p q. (p, q)) vs (both_of o vs P Q s) s.gets in
    let f = found_one (λ x. Held o P x × AllByRecursion Q (get_chain o x)) (has_wrong_head (store_id o)) vs b.0 all b.1 in
    let a = and_some (attestation_by (store_id o) (b.0).text) (λ a. eqb a.kind 2 && not (head_fits a)) f.1 in
    let get = (and_parts (eqb a.0.kind 2) (not (head_fits a.0)) a.2).0 in
    subst (Shows o.key P Q) b.2 (record { convicts = k9_convicts o.key b.0 f.0.0.1 f.1; all_given = (f.0.0.0, tt); all_hashed = get_hashed o Q b.0 a.0 a.1 get f.0.1 })

pub row_k3 : (o : GivenEpoch) (vs : List Envelope) (P : Envelope → Type 0) (Q : List ℕ → Type 0) (ev : Evidence) → Facts o → Sources o vs P Q → first_of (map (other_closing o) vs) ≡ Some ev → Shows o.key P Q ev
unfolding Held presented IsGiven
row_k3 o vs P Q ev facts s e =
    let x = first_found (Held o P) (other_closing o) vs ev (both_of o vs P Q s) e in
    let b = map_some (λ (c : SignedClosing). K3 (record { x = c.envelope; y = x.0 })) (find (is_other_closing (store_id o) x.0) (closings o)) ev x.2 in
    let all = all_two (λ c. P c.envelope) (IsGiven o) (λ c. P c.envelope × IsGiven o c) (λ c p q. (p, q)) (closings o) s.given (closings_given o facts) in
    let f = found_one (λ c. P c.envelope × IsGiven o c) (is_other_closing (store_id o) x.0) (closings o) b.0 all b.1 in
    subst (Shows o.key P Q) b.2 (record { convicts = k3_convicts o.key b.0 x.0 f.0.1.0 f.0.1.1 x.1.1 f.1; all_given = (f.0.0, (x.1.0, tt)); all_hashed = tt })

pub row_k2 : (o : GivenEpoch) (vs : List Envelope) (P : Envelope → Type 0) (Q : List ℕ → Type 0) (ev : Evidence) → Facts o → Sources o vs P Q → option_map (λ (p : Envelope × Envelope). K2 (record { x = p.0; y = p.1 })) (clash same_leaf [] (closing_envelopes o ++ vs)) ≡ Some ev → Shows o.key P Q ev
unfolding Held presented IsGiven
row_k2 o vs P Q ev facts s e =
    let b = map_some (λ (p : Envelope × Envelope). K2 (record { x = p.0; y = p.1 })) (clash same_leaf [] (closing_envelopes o ++ vs)) ev e in
    let front = all_two (λ c. P c.envelope) (IsGiven o) (λ c. Held o P c.envelope) (λ c p q. (p, q.0)) (closings o) s.given (closings_given o facts) in
    let all = all_append (Held o P) (closing_envelopes o) vs (mapped_all (Held o P) (λ c. c.envelope) (closings o) front) (both_of o vs P Q s) in
    let f = clash_is (Held o P) same_leaf [] (closing_envelopes o ++ vs) b.0 tt all b.1 in
    subst (Shows o.key P Q) b.2 (record { convicts = k2_convicts o.key b.0.0 b.0.1 f.0.1 f.1.1 f.2; all_given = (f.0.0, (f.1.0, tt)); all_hashed = tt })

pub row_k1 : (o : GivenEpoch) (vs : List Envelope) (P : Envelope → Type 0) (Q : List ℕ → Type 0) (ev : Evidence) → Sources o vs P Q → option_map (λ (p : Envelope × Envelope). K1 (record { x = p.0; y = p.1 })) (clash (same_place (store_id o)) [] vs) ≡ Some ev → Shows o.key P Q ev
unfolding Held presented
row_k1 o vs P Q ev s e =
    let b = map_some (λ (p : Envelope × Envelope). K1 (record { x = p.0; y = p.1 })) (clash (same_place (store_id o)) [] vs) ev e in
    let f = clash_is (Held o P) (same_place (store_id o)) [] vs b.0 tt (both_of o vs P Q s) b.1 in
    subst (Shows o.key P Q) b.2 (record { convicts = k1_convicts o.key b.0.0 b.0.1 f.0.1 f.1.1 f.2; all_given = (f.0.0, (f.1.0, tt)); all_hashed = tt })

pub row_k5 : (o : GivenEpoch) (vs : List Envelope) (P : Envelope → Type 0) (Q : List ℕ → Type 0) (ev : Evidence) → Facts o → Sources o vs P Q → evidence_if (link_is_wrong o) (K5 (record { x = o.closing.envelope; y = envelope_before o.before })) ≡ Some ev → Shows o.key P Q ev
unfolding presented
row_k5 o vs P Q ev facts s e =
    let b = if_some (link_is_wrong o) (K5 (record { x = o.closing.envelope; y = envelope_before o.before })) ev e in
    let x = facts.closing_given in
    let epoch : o.closing.closing.epoch ≡ o.epoch = omega (arith, x.epochs) in
    let fits = before_fits o.key o.closing.closing o.epoch o.before epoch facts.before_given in
    subst (Shows o.key P Q) b.1 (record {
      convicts = k5_convicts o.key o.closing.envelope (envelope_before o.before) o.closing.closing (before_in o.before) x.signed x.closing_is fits b.0;
      all_given = (last_one P o.before o.closing s.given, (before_one P o.before o.closing s.none s.given, tt));
      all_hashed = (s.text_before, tt);
    })

pub row_k4_before : (o : GivenEpoch) (vs : List Envelope) (P : Envelope → Type 0) (Q : List ℕ → Type 0) (ev : Evidence) → Facts o → Sources o vs P Q → evidence_if (not (is_formed_before o.table_before (before_in o.before))) (K4 (record { closing = envelope_before o.before; table = o.table_before })) ≡ Some ev → Shows o.key P Q ev
unfolding presented
row_k4_before o vs P Q ev facts s e =
    let b = if_some (not (is_formed_before o.table_before (before_in o.before))) (K4 (record { closing = envelope_before o.before; table = o.table_before })) ev e in
    subst (Shows o.key P Q) b.1 (record { convicts = go o.before facts.before_given facts.before_digest (not_true _ b.0); all_given = (before_one P o.before o.closing s.none s.given, tt); all_hashed = (s.table_before, tt) })
  where
    go : (before : Option SignedClosing) → GivenBefore o.key o.epoch before → is_table_before o.table_before (before_in before) ≡ true → is_formed_before o.table_before (before_in before) ≡ false → tried o.key (K4 (record { closing = envelope_before before; table = o.table_before })) ≡ Ok tt
    go None given digests wrong = absurd (false≢true (sym wrong ∙ digests))
    go (Some c) given digests wrong =
        elim given [
          | inl x ↦ absurd cc
          | inr x ↦
              let is : c ≡ x.1 = cc in
              let w : SignedIn o.key 1 o.epoch c = subst (λ (z : SignedClosing). SignedIn o.key 1 o.epoch z) (sym is) x.3 in
              k4_convicts o.key c.envelope c.closing o.table_before w.signed w.closing_is digests wrong
        ]

pub row_k4 : (o : GivenEpoch) (vs : List Envelope) (P : Envelope → Type 0) (Q : List ℕ → Type 0) (ev : Evidence) → Facts o → Sources o vs P Q → evidence_if (not (is_formed o.table o.closing.closing)) (K4 (record { closing = o.closing.envelope; table = o.table })) ≡ Some ev → Shows o.key P Q ev
unfolding presented
row_k4 o vs P Q ev facts s e =
    let b = if_some (not (is_formed o.table o.closing.closing)) (K4 (record { closing = o.closing.envelope; table = o.table })) ev e in
    let x = facts.closing_given in
    subst (Shows o.key P Q) b.1 (record { convicts = k4_convicts o.key o.closing.envelope o.closing.closing o.table x.signed x.closing_is facts.table_digest (not_true _ b.0); all_given = (last_one P o.before o.closing s.given, tt); all_hashed = (s.table, tt) })

pub row_k6 : (o : GivenEpoch) (vs : List Envelope) (P : Envelope → Type 0) (Q : List ℕ → Type 0) (ev : Evidence) → Sources o vs P Q → framed o.key (framing o) ≡ Ok (sides o) → option_map (λ (b : ℕ). K6 (record { block = b; given = framing o })) (least_regressed (old_rows o) (new_rows o)) ≡ Some ev → Shows o.key P Q ev
unfolding presented
row_k6 o vs P Q ev s is e =
    let b = map_some (λ (b : ℕ). K6 (record { block = b; given = framing o })) (least_regressed (old_rows o) (new_rows o)) ev e in
    subst (Shows o.key P Q) b.2 (record {
      convicts = k6_convicts o b.0 is (least_regressed_is (old_rows o) (new_rows o) b.0 b.1);
      all_given = (last_one P o.before o.closing s.given, (before_one P o.before o.closing s.none s.given, tt));
      all_hashed = (s.table, (s.table_before, (s.text_before, tt)));
    })

pub row_k7 : (o : GivenEpoch) (vs : List Envelope) (P : Envelope → Type 0) (Q : List ℕ → Type 0) (ev : Evidence) → Facts o → Sources o vs P Q → framed o.key (framing o) ≡ Ok (sides o) → LogGiven o → first_of (map (fault_in o) (parts_or_none o.log)) ≡ Some ev → Shows o.key P Q ev
unfolding presented sides
row_k7 o vs P Q ev facts s is log e =
    let Both : LogPart → Type 0 = λ (p : LogPart). (reaches (frame_for o p.block) p.texts ≡ true) × AllByRecursion Q (chain_of o p) in
    let all = all_two (λ (p : LogPart). reaches (frame_for o p.block) p.texts ≡ true) (λ (p : LogPart). AllByRecursion Q (chain_of o p)) Both (λ p a b. (a, b)) (parts_or_none o.log) (segments_reach o log) s.log in
    let p = first_found Both (fault_in o) (parts_or_none o.log) ev all e in
    let b = map_some (broken_rule o p.0) (first_fault (frame_for o p.0.block) p.0.texts) ev p.2 in
    let x = facts.closing_given in
    let epoch : o.closing.closing.epoch ≡ o.epoch = omega (arith, x.epochs) in
    let wrong = (first_fault_least (frame_for o p.0.block) p.0.texts b.0 b.1).is_broken in
    let frames = frame_is o o.families p.0.block epoch in
    let found : Found = b.0 in
    let bad : broken (frame_of o.key o.families (sides o) p.0.block) p.0.texts found.rule found.place found.other ≡ true = ap (λ (f : Frame). broken f p.0.texts found.rule found.place found.other) frames ∙ wrong in
    let chained : AllByRecursion Q (chain_texts (opening_head (framed o.key (framing o)) p.0.block) p.0.texts) = opened (framed o.key (framing o)) p.0 is p.1.1 in
    subst (Shows o.key P Q) b.2 (record {
      convicts = k7_convicts o p.0 found is facts.families_is facts.families_digest (reaches_alike o o.families p.0.block p.0.texts ∙ p.1.0) bad;
      all_given = (last_one P o.before o.closing s.given, (before_one P o.before o.closing s.none s.given, tt));
      all_hashed = (s.families, (s.table, (s.table_before, (s.text_before, chained))));
    })
  where
    opened : (r : Result Framed ℕ) (p : LogPart) → r ≡ Ok (sides o) → AllByRecursion Q (chain_of o p) → AllByRecursion Q (chain_texts (opening_head r p.block) p.texts)
    opened r p e h = subst (λ (z : Result Framed ℕ). AllByRecursion Q (chain_texts (opening_head z p.block) p.texts)) (sym e) h

-- the texts of K8 reach the same heads that the log does
k8_hashed : (o : GivenEpoch) (Q : List ℕ → Type 0) (a : Attestation) (out : Bool) → AllByRecursion (λ p. AllByRecursion Q (chain_of o p)) (parts_or_none o.log) → AllByRecursion Q (chain_texts (row (old_rows o) a.block).head (cond out [] (texts_or_none (segment_for o a.block))))
k8_hashed o Q a true h = tt
k8_hashed o Q a false h = go (segment_for o a.block) refl
  where
    go : (s : Option (List (List ℕ))) → segment_for o a.block ≡ s → AllByRecursion Q (chain_texts (row (old_rows o) a.block).head (texts_or_none s))
    go None e = tt
    go (Some ts) e = part_found (λ (b : ℕ) (l : List (List ℕ)). AllByRecursion Q (chain_texts (row (old_rows o) b).head l)) (parts_or_none o.log) a.block ts h e

pub row_k8 : (o : GivenEpoch) (vs : List Envelope) (P : Envelope → Type 0) (Q : List ℕ → Type 0) (ev : Evidence) → Facts o → Sources o vs P Q → framed o.key (framing o) ≡ Ok (sides o) → LogGiven o → option_map (lost_evidence o) (find (is_lost o) vs) ≡ Some ev → Shows o.key P Q ev
unfolding presented sides Held
row_k8 o vs P Q ev facts s is log e =
    let b = map_some (lost_evidence o) (find (is_lost o) vs) ev e in
    let f = found_one (Held o P) (is_lost o) vs b.0 (both_of o vs P Q s) b.1 in
    let r = and_some (attestation_by (store_id o) (b.0).text) (λ a. eqb a.epoch o.epoch && not (stands_there (frame_for o a.block) (segment_for o a.block) a)) f.1 in
    let a : Attestation = r.0 in
    let w = and_parts (eqb a.epoch o.epoch) (not (stands_there (frame_for o a.block) (segment_for o a.block) a)) r.2 in
    let x = facts.closing_given in
    let epoch : o.closing.closing.epoch ≡ o.epoch = omega (arith, x.epochs) in
    let reads : result_ok (attestation_of (b.0).text) ≡ Some a = ap result_ok (attestation_read (store_id o) (b.0).text a r.1) in
    let ts : List (List ℕ) = segment_beside o (Some a) in
    let texts : segment_beside o (attestation_by (store_id o) (b.0).text) ≡ ts = ap (segment_beside o) r.1 in
    let wrong = k8_wrong (frame_for o a.block) (segment_for o a.block) a (log.holds a.block) (not_true _ w.1) in
    let there : reaches (frame_of o.key [] (sides o) a.block) ts ≡ reaches (frame_for o a.block) ts = reaches_alike o [] a.block ts in
    let stood : stands (frame_of o.key [] (sides o) a.block) ts a ≡ stands (frame_for o a.block) ts a = stands_alike o a.block ts a in
    let bad : (is_outside (frame_of o.key [] (sides o) a.block) a || (reaches (frame_of o.key [] (sides o) a.block) ts && not (stands (frame_of o.key [] (sides o) a.block) ts a))) ≡ true =
    joined (is_outside (frame_for o a.block) a) _ _ _ _ there stood wrong in
    let all_hashed : AllByRecursion Q (presented o.key (K8 (record { given = framing o; attestation = b.0; segment = ts }))) = (s.table, (s.table_before, (s.text_before, opened (framed o.key (framing o)) (result_ok (attestation_of (b.0).text)) a ts is reads (k8_hashed o Q a (is_outside (frame_for o a.block) a) s.log)))) in
    let shown : Shows o.key P Q (K8 (record { given = framing o; attestation = b.0; segment = ts })) = record {
      convicts = k8_convicts o b.0 a ts is f.0.1 r.1 (eqb-true _ _ w.0 ∙ sym epoch) bad;
      all_given = (last_one P o.before o.closing s.given, (before_one P o.before o.closing s.none s.given, (f.0.0, tt)));
      all_hashed = all_hashed;
    } in
    subst (Shows o.key P Q) (ap (λ (l : List (List ℕ)). K8 (record { given = framing o; attestation = b.0; segment = l })) (sym texts) ∙ b.2) shown
  where
    joined : (u r r₂ d d₂ : Bool) → r ≡ r₂ → d ≡ d₂ → (u || (r₂ && not d₂)) ≡ true → (u || (r && not d)) ≡ true
    joined u r r₂ d d₂ e g h = rw (e, g) h

    opened : (r : Result Framed ℕ) (t : Option Attestation) (a : Attestation) (l : List (List ℕ)) → r ≡ Ok (sides o) → t ≡ Some a → AllByRecursion Q (chain_texts (row (old_rows o) a.block).head l) → AllByRecursion Q (chain_texts (opening_head r (block_in t)) l)
    opened r t a l e g h = rw (e, g) h

-- ---- the whole

-- the first row that is found, or the rows behind it
pub step : {G : Type 0} (o rest : Option Evidence) (ev : Evidence) → (o ≡ Some ev → G) → (o ≡ None → rest ≡ Some ev → G) → or_else o rest ≡ Some ev → G
step o rest ev found more e =
    elim (else_some o rest ev e) [
      | inl h ↦ found h
      | inr h ↦ more h.0 h.1
    ]

pub nothing : {G : Type 0} (ev : Evidence) → (let n : Option Evidence = None in n) ≡ Some ev → G
nothing ev e = absurd cc

pub reads_whole : (o : GivenEpoch) → is_formed_before o.table_before (before_in o.before) ≡ true → is_formed o.table o.closing.closing ≡ true → least_regressed (old_rows o) (new_rows o) ≡ None → reads_log o ≡ true
reads_whole o b t none = and_from _ _ b (and_from _ _ t (rw none refl))

pub guilt_shows : (o : GivenEpoch) (hand_ins : List Envelope) (P : Envelope → Type 0) (Q : List ℕ → Type 0) (ev : Evidence) → Facts o → Sources o (verified o hand_ins) P Q → guilt o hand_ins ≡ Some ev → Shows o.key P Q ev
unfolding guilt
guilt_shows o hand_ins P Q ev facts s =
    let vs : List Envelope = verified o hand_ins in
    step _ _ ev (row_k10 o vs P Q ev s) (λ n10.
    step _ _ ev (row_k9 o vs P Q ev s) (λ n9.
    step _ _ ev (row_k3 o vs P Q ev facts s) (λ n3.
    step _ _ ev (row_k2 o vs P Q ev facts s) (λ n2.
    step _ _ ev (row_k1 o vs P Q ev s) (λ n1.
    step _ _ ev (row_k5 o vs P Q ev facts s) (λ n5.
    step _ _ ev (row_k4_before o vs P Q ev facts s) (λ nb.
    step _ _ ev (row_k4 o vs P Q ev facts s) (λ nt.
    let formed_then : is_formed_before o.table_before (before_in o.before) ≡ true = if_none _ _ nb in
    let formed_now : is_formed o.table o.closing.closing ≡ true = if_none _ _ nt in
    let is = sides_are o facts formed_then formed_now in
    step _ _ ev (row_k6 o vs P Q ev s is) (λ n6.
    let log = facts.log_facts (reads_whole o formed_then formed_now (map_none (λ (b : ℕ). K6 (record { block = b; given = framing o })) _ n6)) in
    step _ _ ev (row_k7 o vs P Q ev facts s is log) (λ n7.
    step _ _ ev (row_k8 o vs P Q ev facts s is log) (λ n8. nothing ev)))))))))))
