-- The parts of each kind of evidence: what was spelled is read, and what is read was spelled so.
use Rattle.std.proofs.Common.{◌≡◌, ℕ, ◌^◌, ◌<◌, Bool, true, false, cond, eqb, List, ◌++◌, Option, Some, None, Ok, ◌⊎◌, inl, inr, refl, sym, ap, subst, ◌∙◌, arith}
use Rattle.std.specs.Int.{w64, to_be_bytes}
use Rattle.std.proofs.lemmas.Bool.{eqb-true}
use Rattle.cp_bytes.specs.Fields.{IsBytes, or_left, field_at, part, part_at}
use Rattle.cp_bytes.specs.Fields.Field.{U64}
use Rattle.cp_bytes.proofs.FieldLemmas.{bind_ok, ok_is, or_left_ok, Takes, Takes-then, field_takes, field_again}
use Rattle.cp_statements.specs.Envelope.{envelope_text, envelope_at}
use Rattle.cp_statements.proofs.Parts.{part_takes, part_again, at_front}
use Rattle.cp_statements.proofs.Entries.{envelope_at_again, envelope_at_takes}
use Rattle.cp_chain.specs.Rules.{Rule, number_of, rule_of}
use Rattle.cp_chain.specs.Rules.Rule.{Text, Block, Epoch, Position, Latest, Version, Writer, Repeat, LastTip}
use Rattle.cp_chain.specs.Segment.{segment_text, segment_at}
use Rattle.cp_evidence.specs.Evidence.{Two, ClosingTable, Given, WentBack, BrokenRule, Lost, two_text, closing_table_text, given_text, went_back_text, broken_rule_text, lost_text, TwoFit, ClosingTableFits, GivenFits, WentBackFits, BrokenRuleFits, LostFits, two_at, closing_table_at, given_at, went_back_at, rule_at, broken_rule_at, lost_at}
use Rattle.cp_chain.proofs.Readings.{segment_at_again, segment_at_takes}

u64 : ℕ → List ℕ
u64 n = to_be_bytes w64 n

-- ---- two texts

pub two_again : (e : Two) (rest : List ℕ) → TwoFit e → two_at (two_text e ++ rest) ≡ Ok (e, rest)
unfolding two_at two_text
two_again e rest fits =
    let a = at_front envelope_at e.x (envelope_text e.x) (envelope_text e.y) rest (λ more. envelope_at_again e.x more fits.0) in
    rw (a, envelope_at_again e.y rest fits.1) refl

pub two_takes : (bytes : List ℕ) (v : Two × List ℕ) → IsBytes bytes → two_at bytes ≡ Ok v → Takes bytes (two_text v.0) v.1 × TwoFit v.0
unfolding two_at two_text
two_takes bytes v fits e =
    let a = bind_ok (envelope_at bytes) _ v e in
    let b = bind_ok (envelope_at a.0.1) _ v a.2 in
    let ta = envelope_at_takes bytes a.0 fits a.1 in
    let tb = envelope_at_takes a.0.1 b.0 ta.0.rest_fits b.1 in
    let value : Two × List ℕ = (record { x = a.0.0; y = b.0.0 }, b.0.1) in
    subst (λ (w : Two × List ℕ). Takes bytes (envelope_text w.0.x ++ envelope_text w.0.y) w.1 × TwoFit w.0) (ok_is value v b.2)
    (Takes-then bytes (envelope_text a.0.0) a.0.1 (envelope_text b.0.0) b.0.1 ta.0 tb.0, (ta.1, tb.1))

-- ---- a closing and a table

pub closing_table_again : (e : ClosingTable) (rest : List ℕ) → ClosingTableFits e → closing_table_at (closing_table_text e ++ rest) ≡ Ok (e, rest)
unfolding closing_table_at closing_table_text
closing_table_again e rest fits =
    let a = at_front envelope_at e.closing (envelope_text e.closing) (part e.table) rest (λ more. envelope_at_again e.closing more fits.0) in
    rw (a, part_again e.table rest fits.1) refl

pub closing_table_takes : (bytes : List ℕ) (v : ClosingTable × List ℕ) → IsBytes bytes → closing_table_at bytes ≡ Ok v → Takes bytes (closing_table_text v.0) v.1 × ClosingTableFits v.0
unfolding closing_table_at closing_table_text
closing_table_takes bytes v fits e =
    let a = bind_ok (envelope_at bytes) _ v e in
    let b = bind_ok (part_at a.0.1) _ v a.2 in
    let ta = envelope_at_takes bytes a.0 fits a.1 in
    let tb = part_takes a.0.1 b.0 ta.0.rest_fits b.1 in
    let value : ClosingTable × List ℕ = (record { closing = a.0.0; table = b.0.0 }, b.0.1) in
    subst (λ (w : ClosingTable × List ℕ). Takes bytes (envelope_text w.0.closing ++ part w.0.table) w.1 × ClosingTableFits w.0) (ok_is value v b.2)
    (Takes-then bytes (envelope_text a.0.0) a.0.1 (part b.0.0) b.0.1 ta.0 tb.0, (ta.1, tb.1))

-- ---- the frame of an epoch

pub given_again : (g : Given) (rest : List ℕ) → GivenFits g → given_at (given_text g ++ rest) ≡ Ok (g, rest)
unfolding given_at given_text
given_again g rest fits =
    let a = at_front envelope_at g.closing (envelope_text g.closing) (envelope_text g.before ++ (part g.table ++ part g.table_before)) rest (λ more. envelope_at_again g.closing more fits.0) in
    let b = at_front envelope_at g.before (envelope_text g.before) (part g.table ++ part g.table_before) rest (λ more. envelope_at_again g.before more fits.1) in
    let c = at_front part_at g.table (part g.table) (part g.table_before) rest (λ more. part_again g.table more fits.2) in
    let d = part_again g.table_before rest fits.3 in
    rw a (rw b (rw c (rw d refl)))

pub given_takes : (bytes : List ℕ) (v : Given × List ℕ) → IsBytes bytes → given_at bytes ≡ Ok v → Takes bytes (given_text v.0) v.1 × GivenFits v.0
unfolding given_at given_text
given_takes bytes v fits e =
    let a = bind_ok (envelope_at bytes) _ v e in
    let b = bind_ok (envelope_at a.0.1) _ v a.2 in
    let c = bind_ok (part_at b.0.1) _ v b.2 in
    let d = bind_ok (part_at c.0.1) _ v c.2 in
    let ta = envelope_at_takes bytes a.0 fits a.1 in
    let tb = envelope_at_takes a.0.1 b.0 ta.0.rest_fits b.1 in
    let tc = part_takes b.0.1 c.0 tb.0.rest_fits c.1 in
    let td = part_takes c.0.1 d.0 tc.0.rest_fits d.1 in
    let value : Given × List ℕ = (record { closing = a.0.0; before = b.0.0; table = c.0.0; table_before = d.0.0 }, d.0.1) in
    let two = Takes-then b.0.1 (part c.0.0) c.0.1 (part d.0.0) d.0.1 tc.0 td.0 in
    let three = Takes-then a.0.1 (envelope_text b.0.0) b.0.1 (part c.0.0 ++ part d.0.0) d.0.1 tb.0 two in
    let four = Takes-then bytes (envelope_text a.0.0) a.0.1 (envelope_text b.0.0 ++ (part c.0.0 ++ part d.0.0)) d.0.1 ta.0 three in
    subst (λ (w : Given × List ℕ). Takes bytes (envelope_text w.0.closing ++ (envelope_text w.0.before ++ (part w.0.table ++ part w.0.table_before))) w.1 × GivenFits w.0) (ok_is value v d.2) (four, (ta.1, tb.1, tc.1, td.1))

-- ---- a block between two tables

pub went_back_again : (e : WentBack) (rest : List ℕ) → WentBackFits e → went_back_at (went_back_text e ++ rest) ≡ Ok (e, rest)
unfolding went_back_at went_back_text u64
went_back_again e rest fits =
    let a = at_front (field_at U64) e.block (u64 e.block) (given_text e.given) rest (λ more. field_again U64 e.block more fits.0) in
    rw a (rw (given_again e.given rest fits.1) refl)

pub went_back_takes : (bytes : List ℕ) (v : WentBack × List ℕ) → IsBytes bytes → went_back_at bytes ≡ Ok v → Takes bytes (went_back_text v.0) v.1 × WentBackFits v.0
unfolding went_back_at went_back_text u64
went_back_takes bytes v fits e =
    let a = bind_ok (field_at U64 bytes) _ v e in
    let b = bind_ok (given_at a.0.1) _ v a.2 in
    let ta = field_takes U64 bytes a.0 fits a.1 in
    let tb = given_takes a.0.1 b.0 ta.0.rest_fits b.1 in
    let value : WentBack × List ℕ = (record { block = a.0.0; given = b.0.0 }, b.0.1) in
    subst (λ (w : WentBack × List ℕ). Takes bytes (u64 w.0.block ++ given_text w.0.given) w.1 × WentBackFits w.0) (ok_is value v b.2)
    (Takes-then bytes (u64 a.0.0) a.0.1 (given_text b.0.0) b.0.1 ta.0 tb.0, (ta.1, tb.1))

-- ---- rules

rule_again : (r : Rule) → rule_of (number_of r) ≡ Some r
rule_again Text = refl
rule_again Block = refl
rule_again Epoch = refl
rule_again Position = refl
rule_again Latest = refl
rule_again Version = refl
rule_again Writer = refl
rule_again Repeat = refl
rule_again LastTip = refl

number_fits : (r : Rule) → number_of r < 2 ^ 64
number_fits Text = omega arith
number_fits Block = omega arith
number_fits Epoch = omega arith
number_fits Position = omega arith
number_fits Latest = omega arith
number_fits Version = omega arith
number_fits Writer = omega arith
number_fits Repeat = omega arith
number_fits LastTip = omega arith

-- the first of a chain of tests on a number, or a later one
one_of : {A : Type 0} (n k : ℕ) (x y : A) (rest : Option A) → cond (eqb n k) (Some x) rest ≡ Some y → ((n ≡ k) × (x ≡ y)) ⊎ (rest ≡ Some y)
one_of n k x y rest e = go (eqb n k) refl e
  where
    go : (b : Bool) → eqb n k ≡ b → cond b (Some x) rest ≡ Some y → ((n ≡ k) × (x ≡ y)) ⊎ (rest ≡ Some y)
    go true t h = inl (eqb-true _ _ t, cc)
    go false t h = inr h

number_takes : (n : ℕ) (r : Rule) → rule_of n ≡ Some r → number_of r ≡ n
number_takes n r e = elim (one_of n 1 Text r _ e) [
  | inl h ↦ at h.0 h.1 refl
  | inr e2 ↦
      elim (one_of n 2 Block r _ e2) [
        | inl h ↦ at h.0 h.1 refl
        | inr e3 ↦
            elim (one_of n 3 Epoch r _ e3) [
              | inl h ↦ at h.0 h.1 refl
              | inr e4 ↦
                  elim (one_of n 4 Position r _ e4) [
                    | inl h ↦ at h.0 h.1 refl
                    | inr e5 ↦
                        elim (one_of n 5 Latest r _ e5) [
                          | inl h ↦ at h.0 h.1 refl
                          | inr e6 ↦
                              elim (one_of n 6 Version r _ e6) [
                                | inl h ↦ at h.0 h.1 refl
                                | inr e7 ↦
                                    elim (one_of n 7 Writer r _ e7) [
                                      | inl h ↦ at h.0 h.1 refl
                                      | inr e8 ↦
                                          elim (one_of n 8 Repeat r _ e8) [
                                            | inl h ↦ at h.0 h.1 refl
                                            | inr e9 ↦
                                                elim (one_of n 9 LastTip r _ e9) [ inl h ↦ at h.0 h.1 refl | inr e10 ↦ absurd (none e10) ]
                                          ]
                                    ]
                              ]
                        ]
                  ]
            ]
      ]
]
  where
    at : {k : ℕ} {x : Rule} → n ≡ k → x ≡ r → number_of x ≡ k → number_of r ≡ n
    at p q s = ap number_of (sym q) ∙ s ∙ sym p

    none : (let o : Option Rule = None in o) ≡ Some r → ⊥
    none e = cc

rule_at_again : (r : Rule) (rest : List ℕ) → rule_at (u64 (number_of r) ++ rest) ≡ Ok (r, rest)
unfolding rule_at u64
rule_at_again r rest = rw (field_again U64 (number_of r) rest (number_fits r)) (rw (rule_again r) refl)

rule_at_takes : (bytes : List ℕ) (v : Rule × List ℕ) → IsBytes bytes → rule_at bytes ≡ Ok v → Takes bytes (u64 (number_of v.0)) v.1
unfolding rule_at u64
rule_at_takes bytes v fits e =
    let n = bind_ok (field_at U64 bytes) _ v e in
    let r = bind_ok (or_left bytes (rule_of n.0.0)) _ v n.2 in
    let tn = field_takes U64 bytes n.0 fits n.1 in
    let same : number_of r.0 ≡ n.0.0 = number_takes n.0.0 r.0 (or_left_ok bytes (rule_of n.0.0) r.0 r.1) in
    let value : Rule × List ℕ = (r.0, n.0.1) in
    subst (λ (w : Rule × List ℕ). Takes bytes (to_be_bytes w64 (number_of w.0)) w.1) (ok_is value v r.2) (subst (λ (k : ℕ). Takes bytes (to_be_bytes w64 k) n.0.1) (sym same) tn.0)

-- ---- a broken rule

pub broken_rule_again : (e : BrokenRule) (rest : List ℕ) → BrokenRuleFits e → broken_rule_at (broken_rule_text e ++ rest) ≡ Ok (e, rest)
unfolding broken_rule_at broken_rule_text u64
broken_rule_again e rest fits =
    let p5 : List ℕ = part e.families ++ segment_text e.segment in
    let p4 : List ℕ = given_text e.given ++ p5 in
    let p3 : List ℕ = u64 e.fault.other ++ p4 in
    let p2 : List ℕ = u64 e.fault.place ++ p3 in
    let p1 : List ℕ = u64 (number_of e.fault.rule) ++ p2 in
    let e1 = at_front (field_at U64) e.block (u64 e.block) p1 rest (λ more. field_again U64 e.block more fits.0) in
    let e2 = at_front rule_at e.fault.rule (u64 (number_of e.fault.rule)) p2 rest (λ more. rule_at_again e.fault.rule more) in
    let e3 = at_front (field_at U64) e.fault.place (u64 e.fault.place) p3 rest (λ more. field_again U64 e.fault.place more fits.1) in
    let e4 = at_front (field_at U64) e.fault.other (u64 e.fault.other) p4 rest (λ more. field_again U64 e.fault.other more fits.2) in
    let e5 = at_front given_at e.given (given_text e.given) p5 rest (λ more. given_again e.given more fits.3) in
    let e6 = at_front part_at e.families (part e.families) (segment_text e.segment) rest (λ more. part_again e.families more fits.4) in
    let e7 = segment_at_again e.segment rest fits.5 in
    rw e1 (rw e2 (rw e3 (rw e4 (rw e5 (rw e6 (rw e7 refl))))))

pub broken_rule_takes : (bytes : List ℕ) (v : BrokenRule × List ℕ) → IsBytes bytes → broken_rule_at bytes ≡ Ok v → Takes bytes (broken_rule_text v.0) v.1 × BrokenRuleFits v.0
unfolding broken_rule_at broken_rule_text u64
broken_rule_takes bytes v fits e =
    let b = bind_ok (field_at U64 bytes) _ v e in
    let r = bind_ok (rule_at b.0.1) _ v b.2 in
    let p = bind_ok (field_at U64 r.0.1) _ v r.2 in
    let o = bind_ok (field_at U64 p.0.1) _ v p.2 in
    let g = bind_ok (given_at o.0.1) _ v o.2 in
    let f = bind_ok (part_at g.0.1) _ v g.2 in
    let s = bind_ok (segment_at f.0.1) _ v f.2 in
    let tb = field_takes U64 bytes b.0 fits b.1 in
    let tr = rule_at_takes b.0.1 r.0 tb.0.rest_fits r.1 in
    let tp = field_takes U64 r.0.1 p.0 tr.rest_fits p.1 in
    let to = field_takes U64 p.0.1 o.0 tp.0.rest_fits o.1 in
    let tg = given_takes o.0.1 g.0 to.0.rest_fits g.1 in
    let tf = part_takes g.0.1 f.0 tg.0.rest_fits f.1 in
    let ts = segment_at_takes f.0.1 s.0 tf.0.rest_fits s.1 in
    let value : BrokenRule × List ℕ = (record { block = b.0.0; fault = record { rule = r.0.0; place = p.0.0; other = o.0.0 }; given = g.0.0; families = f.0.0; segment = s.0.0 }, s.0.1) in
    let p5 : List ℕ = part f.0.0 ++ segment_text s.0.0 in
    let p4 : List ℕ = given_text g.0.0 ++ p5 in
    let p3 : List ℕ = u64 o.0.0 ++ p4 in
    let p2 : List ℕ = u64 p.0.0 ++ p3 in
    let t5 = Takes-then g.0.1 (part f.0.0) f.0.1 (segment_text s.0.0) s.0.1 tf.0 ts.0 in
    let t4 = Takes-then o.0.1 (given_text g.0.0) g.0.1 p5 s.0.1 tg.0 t5 in
    let t3 = Takes-then p.0.1 (u64 o.0.0) o.0.1 p4 s.0.1 to.0 t4 in
    let t2 = Takes-then r.0.1 (u64 p.0.0) p.0.1 p3 s.0.1 tp.0 t3 in
    let t1 = Takes-then b.0.1 (u64 (number_of r.0.0)) r.0.1 p2 s.0.1 tr t2 in
    let t0 = Takes-then bytes (u64 b.0.0) b.0.1 (u64 (number_of r.0.0) ++ p2) s.0.1 tb.0 t1 in
    subst (λ (w : BrokenRule × List ℕ). Takes bytes (broken_rule_text w.0) w.1 × BrokenRuleFits w.0) (ok_is value v s.2) (t0, (tb.1, tp.1, to.1, tg.1, tf.1, ts.1))

-- ---- an attestation beside a segment

pub lost_again : (e : Lost) (rest : List ℕ) → LostFits e → lost_at (lost_text e ++ rest) ≡ Ok (e, rest)
unfolding lost_at lost_text
lost_again e rest fits =
    let a = at_front given_at e.given (given_text e.given) (envelope_text e.attestation ++ segment_text e.segment) rest (λ more. given_again e.given more fits.0) in
    let b = at_front envelope_at e.attestation (envelope_text e.attestation) (segment_text e.segment) rest (λ more. envelope_at_again e.attestation more fits.1) in
    rw a (rw b (rw (segment_at_again e.segment rest fits.2) refl))

pub lost_takes : (bytes : List ℕ) (v : Lost × List ℕ) → IsBytes bytes → lost_at bytes ≡ Ok v → Takes bytes (lost_text v.0) v.1 × LostFits v.0
unfolding lost_at lost_text
lost_takes bytes v fits e =
    let a = bind_ok (given_at bytes) _ v e in
    let b = bind_ok (envelope_at a.0.1) _ v a.2 in
    let c = bind_ok (segment_at b.0.1) _ v b.2 in
    let ta = given_takes bytes a.0 fits a.1 in
    let tb = envelope_at_takes a.0.1 b.0 ta.0.rest_fits b.1 in
    let tc = segment_at_takes b.0.1 c.0 tb.0.rest_fits c.1 in
    let value : Lost × List ℕ = (record { given = a.0.0; attestation = b.0.0; segment = c.0.0 }, c.0.1) in
    let two = Takes-then a.0.1 (envelope_text b.0.0) b.0.1 (segment_text c.0.0) c.0.1 tb.0 tc.0 in
    subst (λ (w : Lost × List ℕ). Takes bytes (given_text w.0.given ++ (envelope_text w.0.attestation ++ segment_text w.0.segment)) w.1 × LostFits w.0) (ok_is value v c.2)
    (Takes-then bytes (given_text a.0.0) a.0.1 (envelope_text b.0.0 ++ segment_text c.0.0) c.0.1 ta.0 two, (ta.1, tb.1, tc.1))
