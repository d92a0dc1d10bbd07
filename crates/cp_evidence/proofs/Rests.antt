-- What stands beside the envelopes in the evidence that the audit finds: tables, a families list,
-- segments and numbers, all of the given material.
use Rattle.std.proofs.Common.{◌≡◌, ℕ, ◌≤◌, Bool, true, false, cond, not, List, [], ◌++◌, length, map, Option, Some, None, ◌⊎◌, inl, inr, refl, subst}
use Rattle.std.specs.Prelude.{filter, option_map}
use Rattle.std.specs.List.{AllByRecursion, find}
use Rattle.cp_statements.specs.Envelope.{Envelope}
use Rattle.cp_statements.specs.Attestation.{Attestation}
use Rattle.cp_tips.specs.Table.{regressed}
use Rattle.cp_chain.specs.Log.{LogPart}
use Rattle.cp_chain.specs.Rules.{Found, first_fault, first_of}
use Rattle.cp_chain.proofs.Found.{first_found}
use Rattle.cp_chain.proofs.Firsts.{broken_within, first_fault_least}
use Rattle.cp_evidence.specs.Evidence.{Evidence}
use Rattle.cp_evidence.specs.Evidence.Evidence.{K1, K2, K3, K4, K5, K6, K7, K8, K9, K10}
use Rattle.cp_evidence.specs.Conditions.{attestation_by, is_statement, is_outside}
use Rattle.cp_evidence.specs.Material.{GivenEpoch, SignedClosing, envelope_before, blocks_in, least_regressed, store_id, old_rows, new_rows, parts_or_none, segment_for, frame_for, before_in, is_formed, is_formed_before, closings, closing_envelopes, verified}
use Rattle.cp_evidence.specs.Verdict.{has_wrong_head, is_other_closing, other_closing, same_leaf, same_place, clash, framing, evidence_if, link_is_wrong, fault_in, is_lost, segment_beside, lost_evidence, guilt}
use Rattle.cp_evidence.proofs.Searches.{all_always, all_filter, map_some, if_some, least_is}
use Rattle.cp_evidence.proofs.GivenFacts.{part_found}
use Rattle.cp_evidence.proofs.Guilts.{step, nothing, texts_or_none, broken_rule}

-- what holds of the blocks of the table before, and of the blocks and the segments of the log
pub record Holds (o : GivenEpoch) (Block : ℕ → Type 0) (Segment : List (List ℕ) → Type 0) : Type 0 where
  pub blocks : AllByRecursion Block (blocks_in (old_rows o))
  pub log : AllByRecursion (λ p. Block p.block × Segment p.texts) (parts_or_none o.log)
  pub none : Segment []

-- a given table; the frame that the given parts make; a fault within its segment
abbrev pub Rest : GivenEpoch → (ℕ → Type 0) → (List (List ℕ) → Type 0) → Evidence → Type 0
Rest o Block Segment (K1 e) = Unit {0}
Rest o Block Segment (K2 e) = Unit {0}
Rest o Block Segment (K3 e) = Unit {0}
Rest o Block Segment (K4 e) = (e.table ≡ o.table) ⊎ (e.table ≡ o.table_before)
Rest o Block Segment (K5 e) = Unit {0}
Rest o Block Segment (K6 e) = Block e.block × (e.given ≡ framing o)
Rest o Block Segment (K7 e) = Block e.block × (e.fault.place ≤ length e.segment) × (e.fault.other ≤ e.fault.place) × (e.given ≡ framing o) × (e.families ≡ o.families_text) × Segment e.segment
Rest o Block Segment (K8 e) = (e.given ≡ framing o) × Segment e.segment
Rest o Block Segment (K9 x) = Unit {0}
Rest o Block Segment (K10 x) = Unit {0}

module _ (o : GivenEpoch) (Block : ℕ → Type 0) (Segment : List (List ℕ) → Type 0) (h : Holds o Block Segment) where
  row_k6 : (ev : Evidence) → option_map (λ (b : ℕ). K6 (record { block = b; given = framing o })) (least_regressed (old_rows o) (new_rows o)) ≡ Some ev → Rest o Block Segment ev
  unfolding least_regressed
  row_k6 ev e =
      let b = map_some (λ (b : ℕ). K6 (record { block = b; given = framing o })) (least_regressed (old_rows o) (new_rows o)) ev e in
      let own : Block b.0 = least_is Block (filter (regressed (old_rows o) (new_rows o)) (blocks_in (old_rows o))) b.0 (all_filter Block (regressed (old_rows o) (new_rows o)) (blocks_in (old_rows o)) h.blocks) b.1 in
      subst (Rest o Block Segment) b.2 (own, refl)

  row_k7 : (ev : Evidence) → first_of (map (fault_in o) (parts_or_none o.log)) ≡ Some ev → Rest o Block Segment ev
  row_k7 ev e =
      let p = first_found (λ (p : LogPart). Block p.block × Segment p.texts) (fault_in o) (parts_or_none o.log) ev h.log e in
      let part : LogPart = p.0 in
      let b = map_some (broken_rule o part) (first_fault (frame_for o part.block) part.texts) ev p.2 in
      let x : Found = b.0 in
      let w = broken_within (frame_for o part.block) part.texts x.rule x.place x.other (first_fault_least (frame_for o part.block) part.texts x b.1).is_broken in
      subst (Rest o Block Segment) b.2 (p.1.0, w.0, w.1, refl, refl, p.1.1)

  row_k8 : (vs : List Envelope) (ev : Evidence) → option_map (lost_evidence o) (find (is_lost o) vs) ≡ Some ev → Rest o Block Segment ev
  row_k8 vs ev e =
      let b = map_some (lost_evidence o) (find (is_lost o) vs) ev e in
      subst (Rest o Block Segment) b.2 (refl, texts (attestation_by (store_id o) (b.0).text))
    where
      found : (a : Attestation) (seg : Option (List (List ℕ))) → segment_for o a.block ≡ seg → Segment (texts_or_none seg)
      found a None e = h.none
      found a (Some ts) e = (part_found (λ (b : ℕ) (l : List (List ℕ)). Block b × Segment l) (parts_or_none o.log) a.block ts h.log e).1

      kept : (out : Bool) (a : Attestation) → Segment (cond out [] (texts_or_none (segment_for o a.block)))
      kept true a = h.none
      kept false a = found a (segment_for o a.block) refl

      texts : (r : Option Attestation) → Segment (segment_beside o r)
      texts None = h.none
      texts (Some a) = kept (is_outside (frame_for o a.block) a) a

  plain : {A : Type 0} (make : A → Evidence) (found : Option A) (ev : Evidence) → ((x : A) → Rest o Block Segment (make x)) → option_map make found ≡ Some ev → Rest o Block Segment ev
  plain make found ev made e = let b = map_some make found ev e in subst (Rest o Block Segment) b.2 (made b.0)

  row_k3 : (vs : List Envelope) (ev : Evidence) → first_of (map (other_closing o) vs) ≡ Some ev → Rest o Block Segment ev
  row_k3 vs ev e =
      let x = first_found (λ (x : Envelope). Unit {0}) (other_closing o) vs ev (all_always (λ (x : Envelope). Unit {0}) (λ x. tt) vs) e in
      plain (λ (c : SignedClosing). K3 (record { x = c.envelope; y = x.0 })) (find (is_other_closing (store_id o) x.0) (closings o)) ev (λ c. tt) x.2

  row_k10 : (vs : List Envelope) (ev : Evidence) → option_map K10 (find ((λ x. not (is_statement (store_id o) x.text))) vs) ≡ Some ev → Rest o Block Segment ev
  row_k10 vs ev = plain K10 (find ((λ x. not (is_statement (store_id o) x.text))) vs) ev (λ x. tt)

  row_k9 : (vs : List Envelope) (ev : Evidence) → option_map K9 (find (has_wrong_head (store_id o)) vs) ≡ Some ev → Rest o Block Segment ev
  row_k9 vs ev = plain K9 (find (has_wrong_head (store_id o)) vs) ev (λ x. tt)

  row_k2 : (vs : List Envelope) (ev : Evidence) → option_map (λ (p : Envelope × Envelope). K2 (record { x = p.0; y = p.1 })) (clash same_leaf [] (closing_envelopes o ++ vs)) ≡ Some ev → Rest o Block Segment ev
  row_k2 vs ev = plain (λ (p : Envelope × Envelope). K2 (record { x = p.0; y = p.1 })) (clash same_leaf [] (closing_envelopes o ++ vs)) ev (λ p. tt)

  row_k1 : (vs : List Envelope) (ev : Evidence) → option_map (λ (p : Envelope × Envelope). K1 (record { x = p.0; y = p.1 })) (clash (same_place (store_id o)) [] vs) ≡ Some ev → Rest o Block Segment ev
  row_k1 vs ev = plain (λ (p : Envelope × Envelope). K1 (record { x = p.0; y = p.1 })) (clash (same_place (store_id o)) [] vs) ev (λ p. tt)

  row_k5 : (ev : Evidence) → evidence_if (link_is_wrong o) (K5 (record { x = o.closing.envelope; y = envelope_before o.before })) ≡ Some ev → Rest o Block Segment ev
  row_k5 ev e = subst (Rest o Block Segment) (if_some (link_is_wrong o) (K5 (record { x = o.closing.envelope; y = envelope_before o.before })) ev e).1 tt

  row_k4_before : (ev : Evidence) → evidence_if (not (is_formed_before o.table_before (before_in o.before))) (K4 (record { closing = envelope_before o.before; table = o.table_before })) ≡ Some ev → Rest o Block Segment ev
  row_k4_before ev e = subst (Rest o Block Segment) (if_some (not (is_formed_before o.table_before (before_in o.before))) (K4 (record { closing = envelope_before o.before; table = o.table_before })) ev e).1 (inr refl)

  row_k4 : (ev : Evidence) → evidence_if (not (is_formed o.table o.closing.closing)) (K4 (record { closing = o.closing.envelope; table = o.table })) ≡ Some ev → Rest o Block Segment ev
  row_k4 ev e = subst (Rest o Block Segment) (if_some (not (is_formed o.table o.closing.closing)) (K4 (record { closing = o.closing.envelope; table = o.table })) ev e).1 (inl refl)

  pub rest : (hand_ins : List Envelope) (ev : Evidence) → guilt o hand_ins ≡ Some ev → Rest o Block Segment ev
  unfolding guilt
  rest hand_ins ev =
      let vs : List Envelope = verified o hand_ins in
      step _ _ ev (row_k10 vs ev) (λ n10.
      step _ _ ev (row_k9 vs ev) (λ n9.
      step _ _ ev (row_k3 vs ev) (λ n3.
      step _ _ ev (row_k2 vs ev) (λ n2.
      step _ _ ev (row_k1 vs ev) (λ n1.
      step _ _ ev (row_k5 ev) (λ n5.
      step _ _ ev (row_k4_before ev) (λ nb.
      step _ _ ev (row_k4 ev) (λ nt.
      step _ _ ev (row_k6 ev) (λ n6.
      step _ _ ev (row_k7 ev) (λ n7.
      step _ _ ev (row_k8 vs ev) (λ n8. nothing ev)))))))))))
