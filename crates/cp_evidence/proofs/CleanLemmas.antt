-- Clean exactly where no guilt is found.
use Rattle.std.proofs.Common.{◌≡◌, ℕ, Bool, true, false, not, ◌&&◌, eqb, List, [], ◌++◌, map, Option, Some, None, refl, sym, ap, subst, ◌∙◌}
use Rattle.std.specs.Prelude.{bytes_eq}
use Rattle.std.specs.List.{AllByRecursion}
use Rattle.std.proofs.lemmas.Bool.{and_parts, eqb-true, eq-eqb, false≢true}
use Rattle.std.proofs.lemmas.Slice.Eq.{bytes_eq-Decides}
use Rattle.cp_statements.specs.Envelope.{Envelope}
use Rattle.cp_statements.specs.Attestation.{Attestation}
use Rattle.cp_chain.specs.Frame.{Frame}
use Rattle.cp_chain.specs.Legal.{Legal}
use Rattle.cp_chain.specs.Log.{LogPart}
use Rattle.cp_chain.specs.Rules.{Found, first_fault, first_of}
use Rattle.cp_chain.specs.Standing.{reaches, stands}
use Rattle.cp_chain.proofs.Each.{each_weaker, each_nil}
use Rattle.cp_chain.proofs.Found.{some_is, else_none, none_else, first_none, none_first}
use Rattle.cp_chain.proofs.Firsts.{no_fault_legal, legal_no_fault}
use Rattle.cp_evidence.specs.Evidence.Evidence.{K1, K2, K3, K6, K9, K10}
use Rattle.cp_evidence.specs.Conditions.{attestation_by, closing_by, is_statement, head_fits}
use Rattle.cp_evidence.specs.Material.{SignedClosing, before_in, is_formed, is_formed_before, least_regressed, rose, part_reaches, GivenEpoch, store_id, old_rows, new_rows, parts_or_none, segment_for, frame_for, closings, closing_envelopes, verified}
use Rattle.cp_evidence.specs.Sound.{Sound, HeadFits, SameClosing, OneLeaf, OnePlace, EachTwo, StandsInLog, Clean}
use Rattle.cp_evidence.specs.Verdict.{has_wrong_head, is_other_closing, is_lost, same_leaf, same_place, clash, framing, other_closing, fault_in, lost_evidence, guilt}
use Rattle.cp_evidence.proofs.Searches.{all_map, map_none, none_map, if_none, none_if, not_false, find_none, none_found, clash_none, none_clash, NoWrong, and_some_false, false_and_some}
use Rattle.cp_evidence.proofs.GivenFacts.{none_regressed, regressed_none, part_found, LogGiven, Facts}
use Rattle.cp_evidence.proofs.Guilts.{stands_there, broken_rule, reads_whole}

-- ---- tests and what they say

bytes_same : (a b : List ℕ) → not (bytes_eq a b) ≡ false → a ≡ b
bytes_same a b h = (bytes_eq-Decides a b).0 (not_false _ h)

same_bytes : (a b : List ℕ) → a ≡ b → not (bytes_eq a b) ≡ false
same_bytes a b e = ap not ((bytes_eq-Decides a b).1 e)

-- of two tests that don't hold together, the second fails where the first holds
second_fails : (a b : Bool) → (a && b) ≡ false → a ≡ true → b ≡ false
second_fails true b h e = h
second_fails false b h e = absurd (false≢true e)

fail_both : (a b : Bool) → (a ≡ true → b ≡ false) → (a && b) ≡ false
fail_both true b h = h refl
fail_both false b h = refl

right_head : (store : List ℕ) (x : Envelope) → has_wrong_head store x ≡ false → HeadFits store x
right_head store x h a is get = not_false _ (second_fails (eqb a.kind 2) _ (and_some_false (attestation_by store x.text) (λ a. eqb a.kind 2 && not (head_fits a)) a h is) (eq-eqb _ _ get))

head_back : (store : List ℕ) (x : Envelope) → HeadFits store x → has_wrong_head store x ≡ false
head_back store x h = false_and_some (attestation_by store x.text) (λ a. eqb a.kind 2 && not (head_fits a)) (λ a is. fail_both (eqb a.kind 2) _ (λ get. ap not (h a is (eqb-true _ _ get))))

closing_same : (store : List ℕ) (x : Envelope) (given : SignedClosing) → is_other_closing store x given ≡ false → SameClosing store x given
closing_same store x given h c is epochs = bytes_same _ _ (second_fails (eqb c.epoch given.closing.epoch) _ (and_some_false (closing_by store x.text) (λ c. eqb c.epoch given.closing.epoch && not (bytes_eq x.text given.envelope.text)) c h is) (eq-eqb _ _ epochs))

closing_back : (store : List ℕ) (x : Envelope) (given : SignedClosing) → SameClosing store x given → is_other_closing store x given ≡ false
closing_back store x given h = false_and_some (closing_by store x.text) (λ c. eqb c.epoch given.closing.epoch && not (bytes_eq x.text given.envelope.text)) (λ c is. fail_both (eqb c.epoch given.closing.epoch) _ (λ same. same_bytes _ _ (h c is (eqb-true _ _ same))))

one_leaf : (x y : Envelope) → same_leaf x y ≡ false → OneLeaf x y
one_leaf x y h same = bytes_same _ _ (second_fails _ _ h (eq-eqb _ _ same))

leaf_back : (x y : Envelope) → OneLeaf x y → same_leaf x y ≡ false
leaf_back x y h = fail_both _ _ (λ same. same_bytes _ _ (h (eqb-true _ _ same)))

one_place : (store : List ℕ) (x y : Envelope) → same_place store x y ≡ false → OnePlace store x y
one_place store x y h a b ra rb blocks positions =
    let f = and_some_false (attestation_by store x.text) _ a h ra in
    let g = and_some_false (attestation_by store y.text) (λ b. eqb a.block b.block && (eqb a.position b.position && not (bytes_eq x.text y.text))) b f rb in
    bytes_same _ _ (second_fails (eqb a.position b.position) _ (second_fails (eqb a.block b.block) _ g (eq-eqb _ _ blocks)) (eq-eqb _ _ positions))

place_back : (store : List ℕ) (x y : Envelope) → OnePlace store x y → same_place store x y ≡ false
place_back store x y h =
    false_and_some (attestation_by store x.text) _ (λ a ra. false_and_some (attestation_by store y.text) _ (λ b rb.
    fail_both (eqb a.block b.block) (eqb a.position b.position && not (bytes_eq x.text y.text)) (λ blocks.
    fail_both (eqb a.position b.position) (not (bytes_eq x.text y.text)) (λ positions. same_bytes _ _ (h a b ra rb (eqb-true _ _ blocks) (eqb-true _ _ positions))))))

-- ---- each two of a list

each_two : (wrong : Envelope → Envelope → Bool) (R : Envelope → Envelope → Type 0) → ((x y : Envelope) → wrong x y ≡ false → R x y) → (xs : List Envelope) → clash wrong [] xs ≡ None → EachTwo R xs
each_two wrong R h xs e = each_weaker (NoWrong wrong) (λ earlier y. AllByRecursion (λ x. R x y) earlier) (λ earlier y. all_map (λ x. wrong x y ≡ false) (λ x. R x y) (λ x. h x y) earlier) xs (clash_none wrong [] xs (each_nil (NoWrong wrong)) e)

two_each : (wrong : Envelope → Envelope → Bool) (R : Envelope → Envelope → Type 0) → ((x y : Envelope) → R x y → wrong x y ≡ false) → (xs : List Envelope) → EachTwo R xs → clash wrong [] xs ≡ None
two_each wrong R h xs each = none_clash wrong [] xs (each_weaker (λ earlier y. AllByRecursion (λ x. R x y) earlier) (NoWrong wrong) (λ earlier y. all_map (λ x. R x y) (λ x. wrong x y ≡ false) (λ x. h x y) earlier) xs each)

-- ---- segments of the log

-- an attestation is not lost exactly where it stands in its block's segment
in_segment : (f : Frame) (segment : Option (List (List ℕ))) (a : Attestation) → stands_there f segment a ≡ true → (ts : List (List ℕ)) × (segment ≡ Some ts) × (stands f ts a ≡ true)
in_segment f None a stood = absurd (false≢true stood)
in_segment f (Some ts) a stood = (ts, refl, stood)

not_lost : (o : GivenEpoch) (x : Envelope) → is_lost o x ≡ false → StandsInLog o x
not_lost o x h a is epoch =
    let falls = second_fails (eqb a.epoch o.epoch) _ (and_some_false (attestation_by (store_id o) x.text) (λ a. eqb a.epoch o.epoch && not (stands_there (frame_for o a.block) (segment_for o a.block) a)) a h is) (eq-eqb _ _ epoch) in
    in_segment (frame_for o a.block) (segment_for o a.block) a (not_false _ falls)

lost_back : (o : GivenEpoch) (x : Envelope) → StandsInLog o x → is_lost o x ≡ false
lost_back o x h = false_and_some (attestation_by (store_id o) x.text) (λ a. eqb a.epoch o.epoch && not (stands_there (frame_for o a.block) (segment_for o a.block) a)) (λ a is. fail_both (eqb a.epoch o.epoch) _ (λ epoch.
    let w = h a is (eqb-true _ _ epoch) in
    ap not (ap (λ (s : Option (List (List ℕ))). stands_there (frame_for o a.block) s a) w.1 ∙ w.2)))

-- a segment where the count rose, and that reaches
pub grown : (f : Frame) (segment : Option (List (List ℕ))) (grew : Bool) → part_reaches f segment grew ≡ true → grew ≡ true → (ts : List (List ℕ)) × (segment ≡ Some ts) × (reaches f ts ≡ true)
grown f None grew holds g = absurd (false≢true (ap not (sym g) ∙ holds))
grown f (Some ts) grew holds g = (ts, refl, (and_parts grew (reaches f ts) holds).1)

sound_legal : (o : GivenEpoch) → LogGiven o → first_of (map (fault_in o) (parts_or_none o.log)) ≡ None → (b : ℕ) → rose (old_rows o) (new_rows o) b ≡ true → (ts : List (List ℕ)) × (segment_for o b ≡ Some ts) × (reaches (frame_for o b) ts ≡ true) × Legal (frame_for o b) ts
sound_legal o log none b grew =
    let g = grown (frame_for o b) (segment_for o b) (rose (old_rows o) (new_rows o) b) (log.holds b) grew in
    let quiet : AllByRecursion (λ p. first_fault (frame_for o p.block) p.texts ≡ None) (parts_or_none o.log) = all_map (λ p. fault_in o p ≡ None) (λ p. first_fault (frame_for o p.block) p.texts ≡ None) (λ p e. map_none (λ (x : Found). broken_rule o p x) (first_fault (frame_for o p.block) p.texts) e) (parts_or_none o.log) (first_none (fault_in o) (parts_or_none o.log) none) in
    let at = part_found (λ (c : ℕ) (l : List (List ℕ)). first_fault (frame_for o c) l ≡ None) (parts_or_none o.log) b g.0 quiet g.1 in
    (g.0, g.1, g.2, no_fault_legal (frame_for o b) g.0 at)

legal_quiet : (o : GivenEpoch) → LogGiven o → Sound o → first_of (map (fault_in o) (parts_or_none o.log)) ≡ None
legal_quiet o log sound = none_first (fault_in o) (parts_or_none o.log) (all_map (λ p. segment_for o p.block ≡ Some p.texts) (λ p. fault_in o p ≡ None) one (parts_or_none o.log) log.own)
  where
    one : (p : LogPart) → segment_for o p.block ≡ Some p.texts → fault_in o p ≡ None
    one p own =
        let grew = (and_parts (rose (old_rows o) (new_rows o) p.block) (reaches (frame_for o p.block) p.texts) (ap (λ (s : Option (List (List ℕ))). part_reaches (frame_for o p.block) s (rose (old_rows o) (new_rows o) p.block)) (sym own) ∙ log.holds p.block)).0 in
        let w = sound.legal p.block grew in
        let both : (let s : Option (List (List ℕ)) = Some w.0 in s) ≡ Some p.texts = sym w.1 ∙ own in
        let same : w.0 ≡ p.texts = some_is w.0 p.texts both in
        none_map (λ (x : Found). broken_rule o p x) (first_fault (frame_for o p.block) p.texts) (legal_no_fault (frame_for o p.block) p.texts (subst (Legal (frame_for o p.block)) same w.3))

-- ---- both ways

pub none_is_clean : (o : GivenEpoch) (hand_ins : List Envelope) → Facts o → guilt o hand_ins ≡ None → Clean o hand_ins
unfolding guilt
none_is_clean o hand_ins facts e =
    let vs : List Envelope = verified o hand_ins in
    let r10 = else_none _ _ e in
    let r9 = else_none _ _ r10.1 in
    let r3 = else_none _ _ r9.1 in
    let r2 = else_none _ _ r3.1 in
    let r1 = else_none _ _ r2.1 in
    let r5 = else_none _ _ r1.1 in
    let rb = else_none _ _ r5.1 in
    let rt = else_none _ _ rb.1 in
    let r6 = else_none _ _ rt.1 in
    let r7 = else_none _ _ r6.1 in
    let r8 = else_none _ _ r7.1 in
    let formed_then : is_formed_before o.table_before (before_in o.before) ≡ true = if_none _ _ rb.0 in
    let formed_now : is_formed o.table o.closing.closing ≡ true = if_none _ _ rt.0 in
    let none : least_regressed (old_rows o) (new_rows o) ≡ None = map_none (λ (b : ℕ). K6 (record { block = b; given = framing o })) _ r6.0 in
    let log = facts.log_facts (reads_whole o formed_then formed_now none) in
    let sound : Sound o = record {
      link = (bytes_eq-Decides _ _).0 (if_none _ _ r5.0);
      table_before = formed_then;
      table = formed_now;
      none_back = none_regressed (old_rows o) (new_rows o) none;
      legal = sound_legal o log r7.0;
    } in
    record {
      sound = sound;
      statements = all_map (λ x. not (is_statement (store_id o) x.text) ≡ false) (λ x. is_statement (store_id o) x.text ≡ true) (λ x h. not_false _ h) vs (find_none ((λ x. not (is_statement (store_id o) x.text))) vs (map_none K10 _ r10.0));
      heads = all_map (λ (x : Envelope). has_wrong_head (store_id o) x ≡ false) (HeadFits (store_id o)) (right_head (store_id o)) vs (find_none (has_wrong_head (store_id o)) vs (map_none K9 _ r9.0));
      same_closings = all_map (λ x. other_closing o x ≡ None) (λ x. AllByRecursion (SameClosing (store_id o) x) (closings o)) (λ x h. all_map (λ c. is_other_closing (store_id o) x c ≡ false) (SameClosing (store_id o) x) (closing_same (store_id o) x) (closings o) (find_none (is_other_closing (store_id o) x) (closings o) (map_none (λ (c : SignedClosing). K3 (record { x = c.envelope; y = x })) _ h))) vs (first_none (other_closing o) vs r3.0);
      leaves = each_two same_leaf OneLeaf one_leaf (closing_envelopes o ++ vs) (map_none (λ (p : Envelope × Envelope). K2 (record { x = p.0; y = p.1 })) _ r2.0);
      places = each_two (same_place (store_id o)) (OnePlace (store_id o)) (one_place (store_id o)) vs (map_none (λ (p : Envelope × Envelope). K1 (record { x = p.0; y = p.1 })) _ r1.0);
      stand = all_map (λ x. is_lost o x ≡ false) (StandsInLog o) (not_lost o) vs (find_none (is_lost o) vs (map_none (lost_evidence o) _ r8.0));
    }

pub clean_is_none : (o : GivenEpoch) (hand_ins : List Envelope) → Facts o → Clean o hand_ins → guilt o hand_ins ≡ None
unfolding guilt
clean_is_none o hand_ins facts clean =
    let vs : List Envelope = verified o hand_ins in
    let sound = clean.sound in
    let none : least_regressed (old_rows o) (new_rows o) ≡ None = regressed_none (old_rows o) (new_rows o) sound.none_back in
    let log = facts.log_facts (reads_whole o sound.table_before sound.table none) in
    none_else _ _ (none_map K10 _ (none_found ((λ x. not (is_statement (store_id o) x.text))) vs (all_map (λ x. is_statement (store_id o) x.text ≡ true) (λ x. not (is_statement (store_id o) x.text) ≡ false) (λ x h. ap not h) vs clean.statements)))
    (none_else _ _ (none_map K9 _ (none_found (has_wrong_head (store_id o)) vs (all_map (HeadFits (store_id o)) (λ (x : Envelope). has_wrong_head (store_id o) x ≡ false) (head_back (store_id o)) vs clean.heads)))
    (none_else _ _ (none_first (other_closing o) vs (all_map (λ x. AllByRecursion (SameClosing (store_id o) x) (closings o)) (λ x. other_closing o x ≡ None) (λ x h. none_map (λ (c : SignedClosing). K3 (record { x = c.envelope; y = x })) _ (none_found (is_other_closing (store_id o) x) (closings o) (all_map (SameClosing (store_id o) x) (λ c. is_other_closing (store_id o) x c ≡ false) (closing_back (store_id o) x) (closings o) h))) vs clean.same_closings))
    (none_else _ _ (none_map (λ (p : Envelope × Envelope). K2 (record { x = p.0; y = p.1 })) _ (two_each same_leaf OneLeaf leaf_back (closing_envelopes o ++ vs) clean.leaves))
    (none_else _ _ (none_map (λ (p : Envelope × Envelope). K1 (record { x = p.0; y = p.1 })) _ (two_each (same_place (store_id o)) (OnePlace (store_id o)) (place_back (store_id o)) vs clean.places))
    (none_else _ _ (none_if _ _ ((bytes_eq-Decides _ _).1 sound.link))
    (none_else _ _ (none_if _ _ sound.table_before)
    (none_else _ _ (none_if _ _ sound.table)
    (none_else _ _ (none_map (λ (b : ℕ). K6 (record { block = b; given = framing o })) _ none)
    (none_else _ _ (legal_quiet o log sound)
    (none_else _ _ (none_map (lost_evidence o) _ (none_found (is_lost o) vs (all_map (StandsInLog o) (λ x. is_lost o x ≡ false) (lost_back o) vs clean.stand))) refl))))))))))
