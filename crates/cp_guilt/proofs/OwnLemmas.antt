-- An honest store's own texts are clean, whatever digests do.
use Rattle.std.proofs.Common.{◌≡◌, ℕ, ◌-◌, Bool, true, false, not, ◌&&◌, eqb, List, [], ◌∷◌, ◌++◌, length, map, Option, Some, None, Result, Ok, inl, inr, refl, sym, ap, subst, ◌∙◌, arith}
use Rattle.std.specs.Prelude.{is_none, option_map}
use Rattle.std.specs.Result.{result_unwrap_or}
use Rattle.std.specs.List.{AllByRecursion, find}
use Rattle.std.proofs.lemmas.Bool.{and_parts, eqb-true, lt-ltb, false≢true}
use Rattle.std.proofs.lemmas.List.{nil_from_length}
use Rattle.sha2.specs.Sha256.{sha256}
use Rattle.sha2.proofs.Facts256.{length-sha256}
use Rattle.lms_tree.specs.Verifying.{leaf_of}
use Rattle.cp_statements.specs.Envelope.{Envelope}
use Rattle.cp_statements.specs.Attestation.{Attestation}
use Rattle.cp_statements.specs.Closing.{Closing, closing_of}
use Rattle.cp_tips.specs.Table.{TableRow, row_in, tip_or_fresh, row}
use Rattle.cp_chain.specs.Log.{LogPart}
use Rattle.cp_chain.specs.Rules.{first_fault, first_of}
use Rattle.cp_chain.specs.Standing.{stands}
use Rattle.cp_chain.proofs.Found.{first_found}
use Rattle.cp_chain.proofs.Firsts.{first_fault_least}
use Rattle.cp_core.specs.Store.{Store, list_at}
use Rattle.cp_core.specs.Life.{in_epoch, list_text, entries, cut, shard_of, items_of}
use Rattle.cp_core.specs.Honest.{Honest, epoch_frame, Signed, counted}
use Rattle.cp_core.specs.declared.seal_item.SealItem.{SealItem}
use Rattle.cp_core.specs.declared.chronicle.Chronicle.{Chronicle}
use Rattle.cp_evidence.specs.Evidence.{Evidence}
use Rattle.cp_evidence.specs.Evidence.Evidence.{K1, K2, K3, K4, K5, K6, K7, K8, K9, K10}
use Rattle.cp_evidence.specs.Conditions.{signed_by, attestation_by, is_statement, is_table_before, tried}
use Rattle.cp_evidence.specs.Material.{SignedClosing, GivenEpoch, before_in, is_formed, is_formed_before, rows_in_table, least_regressed, rose, store_id, old_rows, new_rows, parts_or_none, segment_for, frame_for, list_of, closings, closing_envelopes, verified, envelope_before}
use Rattle.cp_evidence.specs.Verdict.{has_wrong_head, is_other_closing, is_lost, same_leaf, same_place, clash, framing, evidence_if, other_closing, link_is_wrong, fault_in, lost_evidence, guilt}
use Rattle.cp_evidence.specs.AuditLaws.{hashed_by}
use Rattle.cp_evidence.proofs.Showing.{closing_by_is}
use Rattle.cp_evidence.proofs.Trying.{not_true, not_both}
use Rattle.cp_evidence.proofs.Searches.{all_two, all_parts, all_always, map_some, map_none, if_some, if_none, found_one, and_some}
use Rattle.cp_evidence.proofs.GivenFacts.{SignedIn, GivenBefore, empty_rows, least_regressed_is, part_found, LogGiven, Facts, given_facts, came_from}
use Rattle.cp_evidence.proofs.Guilts.{Shows, stands_there, broken_rule, attestation_read, Sources, last_one, row_k10, row_k9, row_k3, row_k2, row_k1, row_k5, step, nothing, reads_whole}
use Rattle.cp_evidence.proofs.CleanLemmas.{grown, none_is_clean}
use Rattle.cp_evidence.proofs.AuditLemmas.{sources}
use Rattle.cp_guilt.specs.Framing.{WasSigned, HolderSigned}
use Rattle.cp_guilt.specs.HonestAudit.{HolderSignedAll}
use Rattle.cp_guilt.specs.OwnAudit.{IsListOf, IsTableOf, IsOwnPart, OwnTexts, OwnIsClean}
use Rattle.cp_guilt.proofs.Envelopes.{not_k1, not_k2, not_k3, not_k5, not_k9, not_k10}
use Rattle.cp_guilt.proofs.Frames.{nothing_counted, HonestTable, signed_table, table_epoch, table_reads, table_rows, table_formed, row_is_tip, never_back}
use Rattle.cp_guilt.proofs.SegmentsOfLife.{frames_same, rows_listed, own_unbroken, StandsThere, own_stands}
use Rattle.cp_guilt.proofs.HonestLemmas.{nothing_verifies}

-- ---- the evidence that shows envelopes alone

abbrev OfEnvelopes : Evidence → Type 0
OfEnvelopes (K1 e) = Unit {0}
OfEnvelopes (K2 e) = Unit {0}
OfEnvelopes (K3 e) = Unit {0}
OfEnvelopes (K4 e) = ⊥
OfEnvelopes (K5 e) = Unit {0}
OfEnvelopes (K6 e) = ⊥
OfEnvelopes (K7 e) = ⊥
OfEnvelopes (K8 e) = ⊥
OfEnvelopes (K9 x) = Unit {0}
OfEnvelopes (K10 x) = Unit {0}

-- it convicts no honest store, whatever digests do
none_of_envelopes : (s : Store) (r : Chronicle) (key : List ℕ) (e : Evidence) → OfEnvelopes e → s.id ≡ sha256 key → length s.id ≡ 32 → Honest s r → HolderSigned s r key e → tried key e ≡ Ok tt → ⊥
none_of_envelopes s r key (K1 e) shows own id h holder p = not_k1 s r key e h id holder p
none_of_envelopes s r key (K2 e) shows own id h holder p = not_k2 s r key e h holder p
none_of_envelopes s r key (K3 e) shows own id h holder p = not_k3 s r key e h id holder p
none_of_envelopes s r key (K4 e) shows own id h holder p = shows
none_of_envelopes s r key (K5 e) shows own id h holder p = not_k5 s r key e h id holder p
none_of_envelopes s r key (K6 e) shows own id h holder p = shows
none_of_envelopes s r key (K7 e) shows own id h holder p = shows
none_of_envelopes s r key (K8 e) shows own id h holder p = shows
none_of_envelopes s r key (K9 x) shows own id h holder p = not_k9 s r key x h id holder p
none_of_envelopes s r key (K10 x) shows own id h holder p = not_k10 s r key x h id own holder p

made_of : {A : Type 0} (make : A → Evidence) (found : Option A) (e : Evidence) → ((x : A) → OfEnvelopes (make x)) → option_map make found ≡ Some e → OfEnvelopes e
made_of make found e h is = let b = map_some make found e is in subst OfEnvelopes b.2 (h b.0)

-- no evidence is made where the test holds
none_made : (holds : Bool) (x e : Evidence) → holds ≡ true → evidence_if (not holds) x ≡ Some e → ⊥
none_made true x e t is = cc
none_made false x e t is = false≢true t

-- ---- the given texts

-- every text is one of these
abbrev Any : List ℕ → Type 0
Any t = Unit {0}

-- an honest life's own texts, and envelopes that it signed
record OwnGiven (s : Store) (r : Chronicle) (o : GivenEpoch) (vs : List Envelope) : Type 0 where
  own_id : s.id ≡ sha256 o.key
  id : length s.id ≡ 32
  honest : Honest s r
  facts : Facts o
  own : OwnTexts s r o
  from : Sources o vs (WasSigned s r o.key) Any

-- the table of a seal of the epoch
table_at : (r : Chronicle) (n : ℕ) (bytes : List ℕ) → IsTableOf r n bytes → (front : List SealItem) (x : SealItem) (back : List SealItem) → r.seals ≡ front ++ x ∷ back → x.epoch ≡ n → bytes ≡ x.table
table_at r n bytes all front x back at epoch =
    let P : SealItem → Type 0 = λ (y : SealItem). y.epoch ≡ n → bytes ≡ y.table in
    (all_parts P front (x ∷ back) (subst (λ (l : List SealItem). AllByRecursion P l) at all)).1.0 epoch

-- the list of a seal of the epoch
list_at_seal : (r : Chronicle) (n : ℕ) (bytes : List ℕ) → IsListOf r n bytes → (front : List SealItem) (x : SealItem) (back : List SealItem) → r.seals ≡ front ++ x ∷ back → x.epoch ≡ n → bytes ≡ x.families
list_at_seal r n bytes all front x back at epoch =
    let P : SealItem → Type 0 = λ (y : SealItem). y.epoch ≡ n → bytes ≡ y.families in
    (all_parts P front (x ∷ back) (subst (λ (l : List SealItem). AllByRecursion P l) at all)).1.0 epoch

own_table : (s : Store) (r : Chronicle) → Honest s r → length s.id ≡ 32 → (x : Envelope) (c : Closing) (n : ℕ) (bytes : List ℕ) → Signed s r (leaf_of x.signature) x.text → closing_of x.text ≡ Ok c → c.epoch ≡ n → IsTableOf r n bytes → HonestTable s r c bytes
own_table s r h id x c n bytes signed reads epoch own = signed_table s r h id x c bytes signed reads (λ front y back at same named. table_at r n bytes own front y back at (sym same ∙ epoch))

own_formed : (s : Store) (r : Chronicle) (c : Closing) (bytes : List ℕ) → HonestTable s r c bytes → is_formed bytes c ≡ true
own_formed s r c bytes t = ap (λ (rows : Option (List TableRow)). not (is_none rows)) (table_formed s r c bytes t)

own_rows : (s : Store) (r : Chronicle) (c : Closing) (n : ℕ) (bytes : List ℕ) → HonestTable s r c bytes → c.epoch ≡ n → (b : ℕ) → row_in (rows_in_table bytes) b ≡ counted (cut (items_of r b) b n)
own_rows s r c n bytes t epoch b =
    let rows : rows_in_table bytes ≡ t.fits.rows = ap (λ (z : Result (List TableRow) ℕ). result_unwrap_or z []) (table_reads s r c bytes t) in
    ap (λ (v : List TableRow). row_in v b) rows ∙ table_rows s r c bytes t t.fits.rows (table_reads s r c bytes t) b ∙ ap (λ (k : ℕ). counted (cut (items_of r b) b k)) epoch

-- the frame of a block's rows in the epoch
own_frame : (s : Store) (r : Chronicle) (o : GivenEpoch) (b : ℕ) → s.id ≡ sha256 o.key → o.families ≡ list_at s.families (items_of r b) o.epoch → row (old_rows o) b ≡ cut (items_of r b) b (o.epoch - 1) → row (new_rows o) b ≡ cut (items_of r b) b o.epoch → frame_for o b ≡ epoch_frame s (items_of r b) b o.epoch
own_frame s r o b id families before after = frames_same s r (sha256 o.key) o.families b o.epoch (row (old_rows o) b) (row (new_rows o) b) (sym id) families before after

module _ (s : Store) (r : Chronicle) (o : GivenEpoch) (vs : List Envelope) (g : OwnGiven s r o vs) where
  closing_epoch : o.closing.closing.epoch ≡ o.epoch
  closing_epoch = let e = g.facts.closing_given.epochs in omega (arith, e)

  table_now : HonestTable s r o.closing.closing o.table
  table_now =
      let c = g.facts.closing_given in
      own_table s r g.honest g.id o.closing.envelope o.closing.closing o.epoch o.table (last_one (WasSigned s r o.key) o.before o.closing g.from.given c.signed) (closing_by_is _ o.closing.envelope.text o.closing.closing c.closing_is).0 closing_epoch g.own.table

  rows_now : (b : ℕ) → row_in (new_rows o) b ≡ counted (cut (items_of r b) b o.epoch)
  rows_now b = own_rows s r o.closing.closing o.epoch o.table table_now closing_epoch b

  -- the table before is well formed, and its rows are the tips at the end of the epoch before
  abbrev TableBefore : Option SignedClosing → Type 0
  TableBefore before = (is_formed_before o.table_before (before_in before) ≡ true) × ((b : ℕ) → row_in (old_rows o) b ≡ counted (cut (items_of r b) b (o.epoch - 1)))

  before_by : (before : Option SignedClosing) → GivenBefore o.key o.epoch before → is_table_before o.table_before (before_in before) ≡ true → AllByRecursion (λ (c : SignedClosing). WasSigned s r o.key c.envelope) (list_of before ++ o.closing ∷ []) → TableBefore before
  before_by None given empty was =
      elim given [
        | inl x ↦
            let none : o.table_before ≡ [] = nil_from_length o.table_before (eqb-true _ _ empty) in
            (empty, λ b. ap (λ (l : List ℕ). row_in (rows_in_table l) b) none ∙ ap (λ (l : List TableRow). row_in l b) empty_rows ∙ nothing_counted s r g.honest b (o.epoch - 1) (omega (arith, x.0)))
        | inr x ↦ absurd cc
      ]
  before_by (Some d) given named was =
      elim given [
        | inl x ↦ absurd cc
        | inr x ↦
            let is : d ≡ x.1 = cc in
            let w : SignedIn o.key 1 o.epoch d = subst (λ (z : SignedClosing). SignedIn o.key 1 o.epoch z) (sym is) x.3 in
            let next = w.epochs in
            let epoch : d.closing.epoch ≡ o.epoch - 1 = omega (arith, next) in
            let t = own_table s r g.honest g.id d.envelope d.closing (o.epoch - 1) o.table_before (was.0 w.signed) (closing_by_is _ d.envelope.text d.closing w.closing_is).0 epoch g.own.table_before in
            (own_formed s r d.closing o.table_before t, own_rows s r d.closing (o.epoch - 1) o.table_before t epoch)
      ]

  before_all : TableBefore o.before
  before_all = before_by o.before g.facts.before_given g.facts.before_digest g.from.given

  tip_now : (b : ℕ) → row (new_rows o) b ≡ cut (items_of r b) b o.epoch
  tip_now b = ap (tip_or_fresh b) (rows_now b) ∙ row_is_tip b _

  tip_before : (b : ℕ) → row (old_rows o) b ≡ cut (items_of r b) b (o.epoch - 1)
  tip_before b = ap (tip_or_fresh b) (before_all.1 b) ∙ row_is_tip b _

  -- the given list is that of the epoch in the block's shard
  own_list : (b : ℕ) → o.families_text ≡ list_text s.families (items_of r b) o.epoch
  own_list b =
      let t = table_now in
      let epoch : t.seal.epoch ≡ o.epoch = sym (table_epoch s r o.closing.closing o.table t) ∙ closing_epoch in
      list_at_seal r o.epoch o.families_text g.own.families t.front t.seal t.back t.at epoch ∙ t.fits.families (shard_of b) (omega arith) ∙ ap (list_text s.families (items_of r b)) epoch

  frame_all : (b : ℕ) → frame_for o b ≡ epoch_frame s (items_of r b) b o.epoch
  frame_all b = own_frame s r o b g.own_id (rows_listed s (items_of r b) o.epoch o.families_text o.families g.facts.families_is (own_list b)) (tip_before b) (tip_now b)

  -- ---- kind by kind

  no_envelopes : (e : Evidence) → OfEnvelopes e → Shows o.key (WasSigned s r o.key) Any e → ⊥
  no_envelopes e kind shows = none_of_envelopes s r o.key e kind g.own_id g.id g.honest shows.all_given shows.convicts

  no_k10 : (e : Evidence) → option_map K10 (find (λ x. not (is_statement (store_id o) x.text)) vs) ≡ Some e → ⊥
  no_k10 e is = no_envelopes e (made_of K10 _ e (λ x. tt) is) (row_k10 o vs (WasSigned s r o.key) Any e g.from is)

  no_k9 : (e : Evidence) → option_map K9 (find (has_wrong_head (store_id o)) vs) ≡ Some e → ⊥
  no_k9 e is = no_envelopes e (made_of K9 _ e (λ x. tt) is) (row_k9 o vs (WasSigned s r o.key) Any e g.from is)

  no_k3 : (e : Evidence) → first_of (map (other_closing o) vs) ≡ Some e → ⊥
  no_k3 e is =
      let x = first_found (λ (x : Envelope). Unit {0}) (other_closing o) vs e (all_always (λ (x : Envelope). Unit {0}) (λ x. tt) vs) is in
      no_envelopes e (made_of (λ (c : SignedClosing). K3 (record { x = c.envelope; y = x.0 })) (find (is_other_closing (store_id o) x.0) (closings o)) e (λ c. tt) x.2) (row_k3 o vs (WasSigned s r o.key) Any e g.facts g.from is)

  no_k2 : (e : Evidence) → option_map (λ (p : Envelope × Envelope). K2 (record { x = p.0; y = p.1 })) (clash same_leaf [] (closing_envelopes o ++ vs)) ≡ Some e → ⊥
  no_k2 e is = no_envelopes e (made_of (λ (p : Envelope × Envelope). K2 (record { x = p.0; y = p.1 })) (clash same_leaf [] (closing_envelopes o ++ vs)) e (λ p. tt) is) (row_k2 o vs (WasSigned s r o.key) Any e g.facts g.from is)

  no_k1 : (e : Evidence) → option_map (λ (p : Envelope × Envelope). K1 (record { x = p.0; y = p.1 })) (clash (same_place (store_id o)) [] vs) ≡ Some e → ⊥
  no_k1 e is = no_envelopes e (made_of (λ (p : Envelope × Envelope). K1 (record { x = p.0; y = p.1 })) (clash (same_place (store_id o)) [] vs) e (λ p. tt) is) (row_k1 o vs (WasSigned s r o.key) Any e g.from is)

  no_k5 : (e : Evidence) → evidence_if (link_is_wrong o) (K5 (record { x = o.closing.envelope; y = envelope_before o.before })) ≡ Some e → ⊥
  no_k5 e is = no_envelopes e (subst OfEnvelopes (if_some (link_is_wrong o) (K5 (record { x = o.closing.envelope; y = envelope_before o.before })) e is).1 tt) (row_k5 o vs (WasSigned s r o.key) Any e g.facts g.from is)

  no_k4_before : (e : Evidence) → evidence_if (not (is_formed_before o.table_before (before_in o.before))) (K4 (record { closing = envelope_before o.before; table = o.table_before })) ≡ Some e → ⊥
  no_k4_before e is = none_made (is_formed_before o.table_before (before_in o.before)) (K4 (record { closing = envelope_before o.before; table = o.table_before })) e before_all.0 is

  no_k4 : (e : Evidence) → evidence_if (not (is_formed o.table o.closing.closing)) (K4 (record { closing = o.closing.envelope; table = o.table })) ≡ Some e → ⊥
  no_k4 e is = none_made (is_formed o.table o.closing.closing) (K4 (record { closing = o.closing.envelope; table = o.table })) e (own_formed s r o.closing.closing o.table table_now) is

  no_k6 : (e : Evidence) → option_map (λ (b : ℕ). K6 (record { block = b; given = framing o })) (least_regressed (old_rows o) (new_rows o)) ≡ Some e → ⊥
  no_k6 e is =
      let b = map_some (λ (b : ℕ). K6 (record { block = b; given = framing o })) (least_regressed (old_rows o) (new_rows o)) e is in
      never_back s r g.honest (old_rows o) (new_rows o) o.epoch b.0 (before_all.1 b.0) (rows_now b.0) (least_regressed_is (old_rows o) (new_rows o) b.0 b.1)

  no_k7 : (e : Evidence) → first_of (map (fault_in o) (parts_or_none o.log)) ≡ Some e → ⊥
  no_k7 e is =
      let p = first_found (IsOwnPart r o.epoch) (fault_in o) (parts_or_none o.log) e g.own.log is in
      let part : LogPart = p.0 in
      let b = map_some (broken_rule o part) (first_fault (frame_for o part.block) part.texts) e p.2 in
      own_unbroken s r g.honest (frame_for o part.block) part.block o.epoch part.texts b.0 (frame_all part.block) p.1 (first_fault_least (frame_for o part.block) part.texts b.0 b.1).is_broken

  -- an attestation of the epoch stands in its block's segment of the log
  stands_in_log : LogGiven o → (x : Envelope) (a : Attestation) → Signed s r (leaf_of x.signature) x.text → attestation_by (store_id o) x.text ≡ Some a → a.epoch ≡ o.epoch → stands_there (frame_for o a.block) (segment_for o a.block) a ≡ true
  stands_in_log log x a signed is epoch =
      let st : StandsThere (frame_for o a.block) (entries (in_epoch (items_of r a.block) a.block o.epoch)) a = own_stands s r g.honest g.id (leaf_of x.signature) x.text a signed (attestation_read (store_id o) x.text a is) o.epoch epoch (frame_for o a.block) (tip_before a.block) (tip_now a.block) in
      let starts = st.starts in
      let ends = st.ends in
      let segment = grown (frame_for o a.block) (segment_for o a.block) (rose (old_rows o) (new_rows o) a.block) (log.holds a.block) (lt-ltb _ _ (omega (arith, starts, ends))) in
      let own : segment.0 ≡ entries (in_epoch (items_of r a.block) a.block o.epoch) = part_found (λ (c : ℕ) (l : List (List ℕ)). l ≡ entries (in_epoch (items_of r c) c o.epoch)) (parts_or_none o.log) a.block segment.0 g.own.log segment.1 in
      ap (λ (z : Option (List (List ℕ))). stands_there (frame_for o a.block) z a) segment.1 ∙ ap (λ (l : List (List ℕ)). stands (frame_for o a.block) l a) own ∙ st.standing

-- an attestation of the epoch is not lost
no_k8 : (s : Store) (r : Chronicle) (o : GivenEpoch) (vs : List Envelope) → OwnGiven s r o vs → LogGiven o → (e : Evidence) → option_map (lost_evidence o) (find (is_lost o) vs) ≡ Some e → ⊥
no_k8 s r o vs g log e is =
    let b = map_some (lost_evidence o) (find (is_lost o) vs) e is in
    let Both : Envelope → Type 0 = λ (x : Envelope). WasSigned s r o.key x × (signed_by o.key x ≡ true) in
    let both = all_two (WasSigned s r o.key) (λ x. signed_by o.key x ≡ true) Both (λ x p q. (p, q)) vs g.from.handed g.from.signed in
    let f = found_one Both (is_lost o) vs b.0 both b.1 in
    let x : Envelope = b.0 in
    let q = and_some (attestation_by (store_id o) x.text) (λ a. eqb a.epoch o.epoch && not (stands_there (frame_for o a.block) (segment_for o a.block) a)) f.1 in
    let a : Attestation = q.0 in
    let w = and_parts (eqb a.epoch o.epoch) (not (stands_there (frame_for o a.block) (segment_for o a.block) a)) q.2 in
    not_both _ (stands_in_log s r o vs g log x a (f.0.0 f.0.1) q.1 (eqb-true _ _ w.0)) (not_true _ w.1)

-- ---- the whole

no_guilt : (s : Store) (r : Chronicle) (o : GivenEpoch) (hand_ins : List Envelope) → OwnGiven s r o (verified o hand_ins) → (e : Evidence) → guilt o hand_ins ≡ Some e → ⊥
unfolding guilt
no_guilt s r o hand_ins g e =
    let vs : List Envelope = verified o hand_ins in
    step _ _ e (no_k10 s r o vs g e) (λ n10.
    step _ _ e (no_k9 s r o vs g e) (λ n9.
    step _ _ e (no_k3 s r o vs g e) (λ n3.
    step _ _ e (no_k2 s r o vs g e) (λ n2.
    step _ _ e (no_k1 s r o vs g e) (λ n1.
    step _ _ e (no_k5 s r o vs g e) (λ n5.
    step _ _ e (no_k4_before s r o vs g e) (λ nb.
    step _ _ e (no_k4 s r o vs g e) (λ nt.
    step _ _ e (no_k6 s r o vs g e) (λ n6.
    let log = g.facts.log_facts (reads_whole o (if_none _ _ nb) (if_none _ _ nt) (map_none (λ (b : ℕ). K6 (record { block = b; given = framing o })) _ n6)) in
    step _ _ e (no_k7 s r o vs g e) (λ n7.
    step _ _ e (no_k8 s r o vs g log e) (λ n8. nothing e)))))))))))

pub own_clean : OwnIsClean
own_clean s r m o hand_ins id e honest holder own = none_is_clean o hand_ins facts (go (guilt o hand_ins) refl)
  where
    facts : Facts o
    facts = given_facts m o e

    own_id : s.id ≡ sha256 o.key
    own_id = id ∙ ap sha256 (sym (came_from m o e).key)

    signed : HolderSignedAll s r o.key o hand_ins
    signed = subst (λ (k : List ℕ). HolderSignedAll s r k o hand_ins) (sym (came_from m o e).key) holder

    given : OwnGiven s r o (verified o hand_ins)
    given = record {
      own_id = own_id;
      id = ap length own_id ∙ length-sha256 o.key;
      honest = honest;
      facts = facts;
      own = own;
      from = sources o hand_ins (WasSigned s r o.key) Any (nothing_verifies s r o.key) signed (all_always Any (λ t. tt) (hashed_by o hand_ins));
    }

    go : (found : Option Evidence) → guilt o hand_ins ≡ found → guilt o hand_ins ≡ None
    go None h = h
    go (Some found) h = absurd (no_guilt s r o hand_ins given found h)
