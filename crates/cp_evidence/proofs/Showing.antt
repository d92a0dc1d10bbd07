-- What evidence shows whose conditions all hold, kind by kind.
use Rattle.std.proofs.Common.{◌≡◌, ℕ, ◌+◌, Bool, true, false, cond, not, ◌&&◌, ◌||◌, eqb, ltb, leb, List, [], Option, Some, None, Result, Ok, Err, ◌⊎◌, inl, inr, refl, sym, arith, subst}
use Rattle.std.specs.Prelude.{bytes_eq, is_some}
use Rattle.std.specs.Result.{result_ok}
use Rattle.std.proofs.lemmas.Bool.{and_parts, or_cases, eqb-true, ltb-true, leb-true, false≢true}
use Rattle.std.proofs.lemmas.Slice.Eq.{bytes_eq-Decides}
use Rattle.sha2.specs.Sha256.{sha256}
use Rattle.cp_bytes.specs.Hashes.{head}
use Rattle.cp_bytes.proofs.FieldLemmas.{bind_ok, ok_is}
use Rattle.lms_tree.specs.Verifying.{leaf_of}
use Rattle.cp_statements.specs.Envelope.{Envelope}
use Rattle.cp_statements.specs.Attestation.{Attestation, attestation_of}
use Rattle.cp_statements.specs.Closing.{Closing, closing_of}
use Rattle.cp_statements.specs.Entry.{entry_text}
use Rattle.cp_tips.specs.Table.{TableRow, table_of, row, well_formed, regressed}
use Rattle.cp_families.specs.Families.{FamilyRow, families_of}
use Rattle.cp_chain.specs.Rules.{broken}
use Rattle.cp_chain.specs.Standing.{reaches, stands}
use Rattle.cp_evidence.specs.Evidence.{Two, ClosingTable, Given, WentBack, BrokenRule, Lost}
use Rattle.cp_evidence.specs.Conditions.{where_holds, signed_by, attestation_by, closing_by, entry_for, Before, is_empty_envelope, some_before, closing_before, before_of, link_from, is_table_before, rows_for, rows_before, Framed, framed, frame_of, families_for, k1_tried, k2_tried, k3_tried, k4_tried, k5_tried, k6_tried, k7_tried, k8_tried, k9_tried, k10_tried}
use Rattle.cp_evidence.proofs.Trying.{check_then, check_last, want_then, where_some, some_is, not_true, not_both}

-- ---- one part

pub read_ok : {A : Type 0} (r : Result A ℕ) (x : A) → result_ok r ≡ Some x → r ≡ Ok x
read_ok (Ok y) x e = cc
read_ok (Err at) x e = absurd cc

pub differ : (a b : List ℕ) → not (bytes_eq a b) ≡ true → a ≡ b → ⊥
differ a b h e = not_both (bytes_eq a b) ((bytes_eq-Decides a b).1 e) (not_true _ h)

pub attestation_by_is : (store text : List ℕ) (a : Attestation) → attestation_by store text ≡ Some a → (attestation_of text ≡ Ok a) × (a.store ≡ store)
attestation_by_is store text a e =
    let w = where_some (λ (z : Attestation). bytes_eq z.store store) (result_ok (attestation_of text)) a e in
    (read_ok _ a w.0, (bytes_eq-Decides _ _).0 w.1)

pub closing_by_is : (store text : List ℕ) (c : Closing) → closing_by store text ≡ Some c → (closing_of text ≡ Ok c) × (c.store ≡ store)
closing_by_is store text c e =
    let w = where_some (λ (z : Closing). bytes_eq z.store store) (result_ok (closing_of text)) c e in
    (read_ok _ c w.0, (bytes_eq-Decides _ _).0 w.1)

pub attestation_by_from : (store text : List ℕ) (a : Attestation) → attestation_of text ≡ Ok a → a.store ≡ store → attestation_by store text ≡ Some a
attestation_by_from store text a e h = rw (e, (bytes_eq-Decides a.store store).1 h) refl

pub closing_by_from : (store text : List ℕ) (c : Closing) → closing_of text ≡ Ok c → c.store ≡ store → closing_by store text ≡ Some c
closing_by_from store text c e h = rw (e, (bytes_eq-Decides c.store store).1 h) refl

-- ---- envelopes alone

pub record ShowsK1 (key : List ℕ) (e : Two) : Type 0 where
  pub first : signed_by key e.x ≡ true
  pub second : signed_by key e.y ≡ true
  pub a : Attestation
  pub b : Attestation
  pub a_is : attestation_of e.x.text ≡ Ok a
  pub b_is : attestation_of e.y.text ≡ Ok b
  pub blocks : a.block ≡ b.block
  pub positions : a.position ≡ b.position
  pub texts : e.x.text ≡ e.y.text → ⊥

pub shows_k1 : (key : List ℕ) (e : Two) → k1_tried key e ≡ Ok tt → ShowsK1 key e
unfolding k1_tried
shows_k1 key e p =
    let a = check_then 1 (signed_by key e.x) _ tt p in
    let b = check_then 2 (signed_by key e.y) _ tt a.1 in
    let c = want_then 3 (attestation_by (sha256 key) e.x.text) _ tt b.1 in
    let d = want_then 4 (attestation_by (sha256 key) e.y.text) _ tt c.2 in
    let f = check_then 5 (eqb c.0.block d.0.block && eqb c.0.position d.0.position) _ tt d.2 in
    let q = and_parts _ _ f.0 in
    record {
      first = a.0;
      second = b.0;
      a = c.0;
      b = d.0;
      a_is = (attestation_by_is _ _ _ c.1).0;
      b_is = (attestation_by_is _ _ _ d.1).0;
      blocks = eqb-true _ _ q.0;
      positions = eqb-true _ _ q.1;
      texts = differ _ _ (check_last 6 _ f.1);
    }

pub record ShowsK2 (key : List ℕ) (e : Two) : Type 0 where
  pub first : signed_by key e.x ≡ true
  pub second : signed_by key e.y ≡ true
  pub leaves : leaf_of e.x.signature ≡ leaf_of e.y.signature
  pub texts : e.x.text ≡ e.y.text → ⊥

pub shows_k2 : (key : List ℕ) (e : Two) → k2_tried key e ≡ Ok tt → ShowsK2 key e
unfolding k2_tried
shows_k2 key e p =
    let a = check_then 1 (signed_by key e.x) _ tt p in
    let b = check_then 2 (signed_by key e.y) _ tt a.1 in
    let c = check_then 3 (eqb (leaf_of e.x.signature) (leaf_of e.y.signature)) _ tt b.1 in
    record { first = a.0; second = b.0; leaves = eqb-true _ _ c.0; texts = differ _ _ (check_last 4 _ c.1) }

pub record ShowsK3 (key : List ℕ) (e : Two) : Type 0 where
  pub first : signed_by key e.x ≡ true
  pub second : signed_by key e.y ≡ true
  pub c : Closing
  pub d : Closing
  pub c_is : closing_of e.x.text ≡ Ok c
  pub d_is : closing_of e.y.text ≡ Ok d
  pub epochs : c.epoch ≡ d.epoch
  pub texts : e.x.text ≡ e.y.text → ⊥

pub shows_k3 : (key : List ℕ) (e : Two) → k3_tried key e ≡ Ok tt → ShowsK3 key e
unfolding k3_tried
shows_k3 key e p =
    let a = check_then 1 (signed_by key e.x) _ tt p in
    let b = check_then 2 (signed_by key e.y) _ tt a.1 in
    let c = want_then 3 (closing_by (sha256 key) e.x.text) _ tt b.1 in
    let d = want_then 4 (closing_by (sha256 key) e.y.text) _ tt c.2 in
    let f = check_then 5 (eqb c.0.epoch d.0.epoch) _ tt d.2 in
    record {
      first = a.0;
      second = b.0;
      c = c.0;
      d = d.0;
      c_is = (closing_by_is _ _ _ c.1).0;
      d_is = (closing_by_is _ _ _ d.1).0;
      epochs = eqb-true _ _ f.0;
      texts = differ _ _ (check_last 6 _ f.1);
    }

pub record ShowsK9 (key : List ℕ) (x : Envelope) : Type 0 where
  pub signed : signed_by key x ≡ true
  pub a : Attestation
  pub a_is : attestation_of x.text ≡ Ok a
  pub is_get : a.kind ≡ 2
  pub heads : a.head ≡ head a.prev (entry_text (entry_for a)) → ⊥

pub shows_k9 : (key : List ℕ) (x : Envelope) → k9_tried key x ≡ Ok tt → ShowsK9 key x
unfolding k9_tried
shows_k9 key x p =
    let a = check_then 1 (signed_by key x) _ tt p in
    let c = want_then 2 (where_holds (λ (z : Attestation). eqb z.kind 2) (attestation_by (sha256 key) x.text)) _ tt a.1 in
    let w = where_some (λ (z : Attestation). eqb z.kind 2) (attestation_by (sha256 key) x.text) c.0 c.1 in
    record { signed = a.0; a = c.0; a_is = (attestation_by_is _ _ _ w.0).0; is_get = eqb-true _ _ w.1; heads = differ _ _ (check_last 3 _ c.2) }

pub record ShowsK10 (key : List ℕ) (x : Envelope) : Type 0 where
  pub signed : signed_by key x ≡ true
  pub no_attestation : (a : Attestation) → attestation_by (sha256 key) x.text ≡ Some a → ⊥
  pub no_closing : (c : Closing) → closing_by (sha256 key) x.text ≡ Some c → ⊥

neither : {A B : Type 0} (p : Option A) (q : Option B) → not (is_some p || is_some q) ≡ true → ((a : A) → p ≡ Some a → ⊥) × ((b : B) → q ≡ Some b → ⊥)
neither (Some a) q h = absurd (false≢true h)
neither None (Some b) h = absurd (false≢true h)
neither None None h = (λ a e. cc, λ b e. cc)

pub shows_k10 : (key : List ℕ) (x : Envelope) → k10_tried key x ≡ Ok tt → ShowsK10 key x
unfolding k10_tried
shows_k10 key x p =
    let a = check_then 1 (signed_by key x) _ tt p in
    let n = neither (attestation_by (sha256 key) x.text) (closing_by (sha256 key) x.text) (check_last 2 _ a.1) in
    record { signed = a.0; no_attestation = n.0; no_closing = n.1 }

-- ---- the closing before

-- the closing before, where there is one
pub record ShowsBefore (key : List ℕ) (c : Closing) (y : Envelope) (d : Closing) : Type 0 where
  pub signed : signed_by key y ≡ true
  pub closing_is : closing_of y.text ≡ Ok d
  pub epochs : d.epoch + 1 ≡ c.epoch

abbrev pub FirstOrLater : List ℕ → Closing → Envelope → Before → Type 0
FirstOrLater key c y before = ((c.epoch ≡ 1) × (before ≡ None)) ⊎ ((d : Closing) × (before ≡ Some d) × ShowsBefore key c y d)

given_some : {A : Type 0} (b : Bool) (x y : A) → cond b (Some x) None ≡ Some y → (b ≡ true) × (x ≡ y)
given_some true x y e = (refl, some_is x y e)
given_some false x y e = absurd cc

given_one : {A : Type 0} (b : Bool) (o : Option A) (y : A) → cond b o None ≡ Some y → (b ≡ true) × (o ≡ Some y)
given_one true o y e = (refl, e)
given_one false o y e = absurd cc

some_before_is : (o : Option Closing) (before : Before) → some_before o ≡ Some before → (d : Closing) × (o ≡ Some d) × (before ≡ Some d)
some_before_is (Some d) before e = (d, refl, sym (some_is (Some d) before e))
some_before_is None before e = absurd cc

pub shows_before : (key : List ℕ) (c : Closing) (y : Envelope) (before : Before) → before_of key c y ≡ Some before → FirstOrLater key c y before
shows_before key c y before e = go (eqb c.epoch 1) refl e
  where
    go : (b : Bool) → eqb c.epoch 1 ≡ b → cond b (cond (is_empty_envelope y) (Some None) None) (some_before (closing_before key c y)) ≡ Some before → FirstOrLater key c y before
    go true t h = inl (eqb-true _ _ t, sym (given_some (is_empty_envelope y) None before h).1)
    go false t h =
        let d = some_before_is (closing_before key c y) before h in
        let s = given_one (signed_by key y) (where_holds (λ (z : Closing). eqb (z.epoch + 1) c.epoch) (closing_by (sha256 key) y.text)) d.0 d.1 in
        let w = where_some (λ (z : Closing). eqb (z.epoch + 1) c.epoch) (closing_by (sha256 key) y.text) d.0 s.1 in
        inr (d.0, d.2, record { signed = s.0; closing_is = (closing_by_is _ y.text d.0 w.0).0; epochs = eqb-true _ _ w.1 })

pub record ShowsK5 (key : List ℕ) (e : Two) : Type 0 where
  pub signed : signed_by key e.x ≡ true
  pub c : Closing
  pub c_is : closing_of e.x.text ≡ Ok c
  pub before : Before
  pub before_is : FirstOrLater key c e.y before
  pub link : c.link ≡ link_from e.y before → ⊥

pub shows_k5 : (key : List ℕ) (e : Two) → k5_tried key e ≡ Ok tt → ShowsK5 key e
unfolding k5_tried
shows_k5 key e p =
    let a = check_then 1 (signed_by key e.x) _ tt p in
    let c = want_then 2 (closing_by (sha256 key) e.x.text) _ tt a.1 in
    let d = want_then 3 (before_of key c.0 e.y) _ tt c.2 in
    record { signed = a.0; c = c.0; c_is = (closing_by_is _ _ _ c.1).0; before = d.0; before_is = shows_before key c.0 e.y d.0 d.1; link = differ _ _ (check_last 4 _ d.2) }

-- ---- tables

pub rows_for_is : (bytes : List ℕ) (c : Closing) (rows : List TableRow) → rows_for bytes c ≡ Some rows → (table_of bytes ≡ Ok rows) × (well_formed rows c.rows c.entries ≡ true)
rows_for_is bytes c rows e =
    let w = where_some (λ (rs : List TableRow). well_formed rs c.rows c.entries) (result_ok (table_of bytes)) rows e in
    (read_ok _ rows w.0, w.1)

pub rows_for_from : (bytes : List ℕ) (c : Closing) (rows : List TableRow) → table_of bytes ≡ Ok rows → well_formed rows c.rows c.entries ≡ true → rows_for bytes c ≡ Some rows
rows_for_from bytes c rows reads formed = rw (reads, formed) refl

pub record ShowsK4 (key : List ℕ) (e : ClosingTable) : Type 0 where
  pub signed : signed_by key e.closing ≡ true
  pub c : Closing
  pub c_is : closing_of e.closing.text ≡ Ok c
  pub table : sha256 e.table ≡ c.table
  pub not_formed : (rows : List TableRow) → rows_for e.table c ≡ Some rows → ⊥

none_given : {A : Type 0} (o : Option A) → not (is_some o) ≡ true → (x : A) → o ≡ Some x → ⊥
none_given (Some y) h x e = false≢true h
none_given None h x e = cc

pub shows_k4 : (key : List ℕ) (e : ClosingTable) → k4_tried key e ≡ Ok tt → ShowsK4 key e
unfolding k4_tried
shows_k4 key e p =
    let a = check_then 1 (signed_by key e.closing) _ tt p in
    let c = want_then 2 (closing_by (sha256 key) e.closing.text) _ tt a.1 in
    let d = check_then 3 (bytes_eq (sha256 e.table) c.0.table) _ tt c.2 in
    record { signed = a.0; c = c.0; c_is = (closing_by_is _ _ _ c.1).0; table = (bytes_eq-Decides _ _).0 d.0; not_formed = none_given (rows_for e.table c.0) (check_last 4 _ d.1) }

-- ---- the frame

pub record ShowsFramed (key : List ℕ) (g : Given) (w : Framed) : Type 0 where
  pub signed : signed_by key g.closing ≡ true
  pub closing_is : closing_of g.closing.text ≡ Ok w.closing
  pub before : Before
  pub before_is : FirstOrLater key w.closing g.before before
  pub table : sha256 g.table ≡ w.closing.table
  pub table_before : is_table_before g.table_before before ≡ true
  pub rows_is : table_of g.table ≡ Ok w.rows
  pub rows_before_is : rows_before g.table_before before ≡ Some w.rows_before

pub shows_framed : (key : List ℕ) (g : Given) (w : Framed) → framed key g ≡ Ok w → ShowsFramed key g w
unfolding framed
shows_framed key g w e =
    let a = check_then 1 (signed_by key g.closing) _ w e in
    let c = want_then 2 (closing_by (sha256 key) g.closing.text) _ w a.1 in
    let d = want_then 3 (before_of key c.0 g.before) _ w c.2 in
    let f = check_then 4 (bytes_eq (sha256 g.table) c.0.table) _ w d.2 in
    let h = check_then 5 (is_table_before g.table_before d.0) _ w f.1 in
    let i = want_then 6 (rows_for g.table c.0) _ w h.1 in
    let j = want_then 7 (rows_before g.table_before d.0) _ w i.2 in
    let value : Framed = record { closing = c.0; rows = i.0; rows_before = j.0 } in
    let same : value ≡ w = ok_is value w j.2 in
    subst (λ (v : Framed). ShowsFramed key g v) same
    (record { signed = a.0; closing_is = (closing_by_is _ _ _ c.1).0; before = d.0; before_is = shows_before key c.0 g.before d.0 d.1; table = (bytes_eq-Decides _ _).0 f.0; table_before = h.0; rows_is = (rows_for_is g.table c.0 i.0 i.1).0; rows_before_is = j.1 })

pub record ShowsK6 (key : List ℕ) (e : WentBack) : Type 0 where
  pub w : Framed
  pub framed_is : framed key e.given ≡ Ok w
  pub back : regressed w.rows_before w.rows e.block ≡ true

pub shows_k6 : (key : List ℕ) (e : WentBack) → k6_tried key e ≡ Ok tt → ShowsK6 key e
unfolding k6_tried
shows_k6 key e p =
    let a = bind_ok (framed key e.given) _ tt p in
    record { w = a.0; framed_is = a.1; back = check_last 8 _ a.2 }

pub record ShowsK7 (key : List ℕ) (e : BrokenRule) : Type 0 where
  pub w : Framed
  pub framed_is : framed key e.given ≡ Ok w
  pub families : List FamilyRow
  pub families_are : families_of e.families ≡ Ok families
  pub families_named : sha256 e.families ≡ w.closing.families
  pub reaching : reaches (frame_of key families w e.block) e.segment ≡ true
  pub breaking : broken (frame_of key families w e.block) e.segment e.fault.rule e.fault.place e.fault.other ≡ true

pub shows_k7 : (key : List ℕ) (e : BrokenRule) → k7_tried key e ≡ Ok tt → ShowsK7 key e
unfolding k7_tried
shows_k7 key e p =
    let a = bind_ok (framed key e.given) _ tt p in
    let c = want_then 8 (families_for e.families a.0.closing) _ tt a.2 in
    let f = given_one (bytes_eq (sha256 e.families) a.0.closing.families) (result_ok (families_of e.families)) c.0 c.1 in
    let d = check_then 9 (reaches (frame_of key c.0 a.0 e.block) e.segment) _ tt c.2 in
    record { w = a.0; framed_is = a.1; families = c.0; families_are = read_ok _ c.0 f.1; families_named = (bytes_eq-Decides _ _).0 f.0; reaching = d.0; breaking = check_last 10 _ d.1 }

pub record ShowsK8 (key : List ℕ) (e : Lost) : Type 0 where
  pub w : Framed
  pub framed_is : framed key e.given ≡ Ok w
  pub signed : signed_by key e.attestation ≡ true
  pub a : Attestation
  pub a_is : attestation_of e.attestation.text ≡ Ok a
  pub epochs : a.epoch ≡ w.closing.epoch
  pub lost : leb (row w.rows_before a.block).count a.position ≡ true → ltb a.position (row w.rows a.block).count ≡ true
      → (reaches (frame_of key [] w a.block) e.segment ≡ true) × (stands (frame_of key [] w a.block) e.segment a ≡ true → ⊥)

-- a position between the counts
inside : (p c d : ℕ) (q t : Bool) → ((ltb p c || leb d p) || (q && not t)) ≡ true → leb c p ≡ true → ltb p d ≡ true → (q ≡ true) × (t ≡ true → ⊥)
inside p c d q t e le lt =
    elim (or_cases (ltb p c || leb d p) (q && not t) e) [
      | inl out ↦
          elim (or_cases (ltb p c) (leb d p) out) [
            | inl x ↦ absurd (let a = ltb-true p c x in let b = leb-true c p le in omega arith)
            | inr x ↦ absurd (let a = leb-true d p x in let b = ltb-true p d lt in omega arith)
          ]
      | inr z ↦ (let a = and_parts q (not t) z in (a.0, λ is. not_both t is (not_true t a.1)))
    ]

pub shows_k8 : (key : List ℕ) (e : Lost) → k8_tried key e ≡ Ok tt → ShowsK8 key e
unfolding k8_tried
shows_k8 key e p =
    let a = bind_ok (framed key e.given) _ tt p in
    let b = check_then 8 (signed_by key e.attestation) _ tt a.2 in
    let c = want_then 9 (where_holds (λ (z : Attestation). eqb z.epoch a.0.closing.epoch) (attestation_by (sha256 key) e.attestation.text)) _ tt b.1 in
    let f = where_some (λ (z : Attestation). eqb z.epoch a.0.closing.epoch) (attestation_by (sha256 key) e.attestation.text) c.0 c.1 in
    record {
      w = a.0;
      framed_is = a.1;
      signed = b.0;
      a = c.0;
      a_is = (attestation_by_is _ _ _ f.0).0;
      epochs = eqb-true _ _ f.1;
      lost = inside _ _ _ _ _ (check_last 10 _ c.2);
    }
