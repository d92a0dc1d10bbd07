-- Evidence of all kinds: what was spelled is read, and what is read was spelled so.
use Rattle.std.proofs.Common.{◌≡◌, ℕ, ◌<◌, Bool, true, false, cond, eqb, List, [], ◌∷◌, ◌++◌, length, Result, Ok, Err, ◌⊎◌, inl, inr, refl, sym, ap, subst, ◌∙◌, arith}
use Rattle.std.specs.Prelude.{codes}
use Rattle.std.proofs.lemmas.Bool.{eqb-true}
use Rattle.std.proofs.lemmas.List.{append-nil}
use Rattle.cp_bytes.specs.Fields.{IsBytes, field_at}
use Rattle.cp_bytes.specs.Fields.Field.{Tag, Byte}
use Rattle.cp_bytes.proofs.FieldLemmas.{bind_ok, ok_is, ended_ok, at_offset_ok, Takes, Takes-then, field_takes, field_again}
use Rattle.cp_statements.specs.Envelope.{EnvelopeFits, envelope_text, envelope_at}
use Rattle.cp_statements.specs.Laws.{IsExact}
use Rattle.cp_statements.proofs.Entries.{envelope_at_again, envelope_at_takes}
use Rattle.cp_evidence.specs.Evidence.{Two, Evidence, kind_of, two_text, closing_table_text, went_back_text, broken_rule_text, lost_text, parts_text, evidence_text, TwoFit, ClosingTableFits, WentBackFits, BrokenRuleFits, LostFits, EvidenceFits, two_at, closing_table_at, went_back_at, broken_rule_at, lost_at, made, parts_at, evidence_of}
use Rattle.cp_evidence.specs.Evidence.Evidence.{K1, K2, K3, K4, K5, K6, K7, K8, K9, K10}
use Rattle.cp_evidence.proofs.Readings.{two_again, two_takes, closing_table_again, closing_table_takes, went_back_again, went_back_takes, broken_rule_again, broken_rule_takes, lost_again, lost_takes}

-- ---- one kind

-- evidence whose parts were taken
record Body (k : ℕ) (bytes : List ℕ) (v : Evidence × List ℕ) : Type 0 where
  takes : Takes bytes (parts_text v.0) v.1
  kind : kind_of v.0 ≡ k
  fits : EvidenceFits v.0

made_ok : {A : Type 0} (kind : A → Evidence) (r : Result (A × List ℕ) ℕ) (v : Evidence × List ℕ) → made kind r ≡ Ok v → (x : A × List ℕ) × (r ≡ Ok x) × ((kind x.0, x.1) ≡ v)
made_ok kind (Ok x) v e = (x, refl, ok_is (kind x.0, x.1) v e)
made_ok kind (Err left) v e = absurd cc

made_again : {A : Type 0} (kind : A → Evidence) (r : Result (A × List ℕ) ℕ) (x : A) (rest : List ℕ) → r ≡ Ok (x, rest) → made kind r ≡ Ok (kind x, rest)
made_again kind r x rest e = ap (made kind) e

-- the parts of a kind were taken
made_takes : {A : Type 0} (k : ℕ) (kind : A → Evidence) (read : List ℕ → Result (A × List ℕ) ℕ) (text : A → List ℕ) (Fits : A → Type 0)
    → ((bytes : List ℕ) (x : A × List ℕ) → IsBytes bytes → read bytes ≡ Ok x → Takes bytes (text x.0) x.1 × Fits x.0)
    → ((bytes rest : List ℕ) (x : A) → Takes bytes (text x) rest → Fits x → Body k bytes (kind x, rest))
    → (bytes : List ℕ) (v : Evidence × List ℕ) → IsBytes bytes → made kind (read bytes) ≡ Ok v → Body k bytes v
made_takes k kind read text Fits takes body bytes v fits e =
    let r = made_ok kind (read bytes) v e in
    let t = takes bytes r.0 fits r.1 in
    subst (Body k bytes) r.2 (body bytes r.0.1 r.0.0 t.0 t.1)

two_body : (k : ℕ) (kind : Two → Evidence) → ((bytes rest : List ℕ) (x : Two) → Takes bytes (two_text x) rest → TwoFit x → Body k bytes (kind x, rest))
    → (bytes : List ℕ) (v : Evidence × List ℕ) → IsBytes bytes → made kind (two_at bytes) ≡ Ok v → Body k bytes v
two_body k kind = made_takes k kind two_at two_text TwoFit two_takes

-- ---- by kinds

parts_again : (e : Evidence) (rest : List ℕ) (left : ℕ) → EvidenceFits e → parts_at (kind_of e) (parts_text e ++ rest) left ≡ Ok (e, rest)
unfolding parts_at
parts_again (K1 e) rest left fits = made_again K1 _ e rest (two_again e rest fits)
parts_again (K2 e) rest left fits = made_again K2 _ e rest (two_again e rest fits)
parts_again (K3 e) rest left fits = made_again K3 _ e rest (two_again e rest fits)
parts_again (K4 e) rest left fits = made_again K4 _ e rest (closing_table_again e rest fits)
parts_again (K5 e) rest left fits = made_again K5 _ e rest (two_again e rest fits)
parts_again (K6 e) rest left fits = made_again K6 _ e rest (went_back_again e rest fits)
parts_again (K7 e) rest left fits = made_again K7 _ e rest (broken_rule_again e rest fits)
parts_again (K8 e) rest left fits = made_again K8 _ e rest (lost_again e rest fits)
parts_again (K9 x) rest left fits = made_again K9 _ x rest (envelope_at_again x rest fits)
parts_again (K10 x) rest left fits = made_again K10 _ x rest (envelope_at_again x rest fits)

-- the first of a chain of tests on the kind, or a later one
kind_is : {A : Type 0} (n k : ℕ) (r rest : Result A ℕ) (y : A) → cond (eqb n k) r rest ≡ Ok y → ((k ≡ n) × (r ≡ Ok y)) ⊎ (rest ≡ Ok y)
kind_is n k r rest y e = go (eqb n k) refl e
  where
    go : (b : Bool) → eqb n k ≡ b → cond b r rest ≡ Ok y → ((k ≡ n) × (r ≡ Ok y)) ⊎ (rest ≡ Ok y)
    go true t h = inl (sym (eqb-true _ _ t), h)
    go false t h = inr h

parts_take : (n : ℕ) (bytes : List ℕ) (left : ℕ) (v : Evidence × List ℕ) → IsBytes bytes → parts_at n bytes left ≡ Ok v → Body n bytes v
unfolding parts_at
parts_take n bytes left v fits e =
    elim (kind_is n 1 (made K1 (two_at bytes)) _ v e) [
      | inl h ↦ at 1 h.0 (two_body 1 K1 (λ b r x t f. record { takes = t; kind = refl; fits = f }) bytes v fits h.1)
      | inr e2 ↦
          elim (kind_is n 2 (made K2 (two_at bytes)) _ v e2) [
            | inl h ↦ at 2 h.0 (two_body 2 K2 (λ b r x t f. record { takes = t; kind = refl; fits = f }) bytes v fits h.1)
            | inr e3 ↦
                elim (kind_is n 3 (made K3 (two_at bytes)) _ v e3) [
                  | inl h ↦ at 3 h.0 (two_body 3 K3 (λ b r x t f. record { takes = t; kind = refl; fits = f }) bytes v fits h.1)
                  | inr e4 ↦
                      elim (kind_is n 4 (made K4 (closing_table_at bytes)) _ v e4) [
                        | inl h ↦ at 4 h.0 (made_takes 4 K4 closing_table_at closing_table_text ClosingTableFits closing_table_takes (λ b r x t f. record { takes = t; kind = refl; fits = f }) bytes v fits h.1)
                        | inr e5 ↦
                            elim (kind_is n 5 (made K5 (two_at bytes)) _ v e5) [
                              | inl h ↦ at 5 h.0 (two_body 5 K5 (λ b r x t f. record { takes = t; kind = refl; fits = f }) bytes v fits h.1)
                              | inr e6 ↦ later e6
                            ]
                      ]
                ]
          ]
    ]
  where
    at : (k : ℕ) → k ≡ n → Body k bytes v → Body n bytes v
    at k same b = subst (λ (j : ℕ). Body j bytes v) same b

    later : cond (eqb n 6) (made K6 (went_back_at bytes)) (cond (eqb n 7) (made K7 (broken_rule_at bytes)) (cond (eqb n 8) (made K8 (lost_at bytes)) (cond (eqb n 9) (made K9 (envelope_at bytes)) (cond (eqb n 10) (made K10 (envelope_at bytes)) (Err left))))) ≡ Ok v → Body n bytes v
    later e6 =
        elim (kind_is n 6 (made K6 (went_back_at bytes)) _ v e6) [
          | inl h ↦ at 6 h.0 (made_takes 6 K6 went_back_at went_back_text WentBackFits went_back_takes (λ b r x t f. record { takes = t; kind = refl; fits = f }) bytes v fits h.1)
          | inr e7 ↦
              elim (kind_is n 7 (made K7 (broken_rule_at bytes)) _ v e7) [
                | inl h ↦ at 7 h.0 (made_takes 7 K7 broken_rule_at broken_rule_text BrokenRuleFits broken_rule_takes (λ b r x t f. record { takes = t; kind = refl; fits = f }) bytes v fits h.1)
                | inr e8 ↦
                    elim (kind_is n 8 (made K8 (lost_at bytes)) _ v e8) [
                      | inl h ↦ at 8 h.0 (made_takes 8 K8 lost_at lost_text LostFits lost_takes (λ b r x t f. record { takes = t; kind = refl; fits = f }) bytes v fits h.1)
                      | inr e9 ↦
                          elim (kind_is n 9 (made K9 (envelope_at bytes)) _ v e9) [
                            | inl h ↦ at 9 h.0 (made_takes 9 K9 envelope_at envelope_text EnvelopeFits envelope_at_takes (λ b r x t f. record { takes = t; kind = refl; fits = f }) bytes v fits h.1)
                            | inr e10 ↦
                                elim (kind_is n 10 (made K10 (envelope_at bytes)) _ v e10) [
                                  | inl h ↦ at 10 h.0 (made_takes 10 K10 envelope_at envelope_text EnvelopeFits envelope_at_takes (λ b r x t f. record { takes = t; kind = refl; fits = f }) bytes v fits h.1)
                                  | inr none ↦ absurd cc
                                ]
                          ]
                    ]
              ]
        ]

-- ---- the whole

kind_fits : (e : Evidence) → kind_of e < 256
kind_fits (K1 e) = omega arith
kind_fits (K2 e) = omega arith
kind_fits (K3 e) = omega arith
kind_fits (K4 e) = omega arith
kind_fits (K5 e) = omega arith
kind_fits (K6 e) = omega arith
kind_fits (K7 e) = omega arith
kind_fits (K8 e) = omega arith
kind_fits (K9 x) = omega arith
kind_fits (K10 x) = omega arith

evidence_again : (e : Evidence) → EvidenceFits e → evidence_of (evidence_text e) ≡ Ok e
unfolding evidence_of evidence_text
evidence_again e fits =
    let left = length (kind_of e ∷ parts_text e) in
    let a = field_again (Tag (codes "CPEV")) tt (kind_of e ∷ parts_text e) tt in
    let b = field_again Byte (kind_of e) (parts_text e) (kind_fits e) in
    let c : parts_at (kind_of e) (parts_text e) left ≡ Ok (e, []) = ap (λ (l : List ℕ). parts_at (kind_of e) l left) (sym (append-nil (parts_text e))) ∙ parts_again e [] left fits in
    rw a (rw b (rw c refl))

evidence_takes : (bytes : List ℕ) (e : Evidence) → IsBytes bytes → evidence_of bytes ≡ Ok e → (bytes ≡ evidence_text e) × EvidenceFits e
unfolding evidence_of evidence_text
evidence_takes bytes ev fits e =
    let w = at_offset_ok bytes _ ev e in
    let a = bind_ok (field_at (Tag (codes "CPEV")) bytes) _ ev w in
    let k = bind_ok (field_at Byte a.0.1) _ ev a.2 in
    let b = bind_ok (parts_at k.0.0 k.0.1 (length a.0.1)) _ ev k.2 in
    let ta = field_takes (Tag (codes "CPEV")) bytes a.0 fits a.1 in
    let tk = field_takes Byte a.0.1 k.0 ta.0.rest_fits k.1 in
    let tb = parts_take k.0.0 k.0.1 (length a.0.1) b.0 tk.0.rest_fits b.1 in
    let done = ended_ok b.0 ev b.2 in
    joined bytes a.0.1 k.0.1 k.0.0 b.0 ta.0 tk.0 tb done.0 done.1
  where
    joined : (bytes r1 r2 : List ℕ) (k : ℕ) (p : Evidence × List ℕ) → Takes bytes (codes "CPEV") r1 → Takes r1 (k ∷ []) r2 → Body k r2 p → p.0 ≡ ev → p.1 ≡ [] → (bytes ≡ codes "CPEV" ++ (kind_of ev ∷ parts_text ev)) × EvidenceFits ev
    joined bytes r1 r2 k p ta tk tb same none =
        let x = Takes-then r1 (k ∷ []) r2 (parts_text p.0) p.1 tk tb.takes in
        let y = Takes-then bytes (codes "CPEV") r1 (k ∷ parts_text p.0) p.1 ta x in
        let whole : bytes ≡ codes "CPEV" ++ (kind_of p.0 ∷ parts_text p.0) = y.parts ∙ ap (λ (r : List ℕ). (codes "CPEV" ++ (k ∷ parts_text p.0)) ++ r) none ∙ append-nil _ ∙ ap (λ (n : ℕ). codes "CPEV" ++ (n ∷ parts_text p.0)) (sym tb.kind) in
        subst (λ (v : Evidence). (bytes ≡ codes "CPEV" ++ (kind_of v ∷ parts_text v)) × EvidenceFits v) same (whole, tb.fits)

pub evidence_exact : IsExact evidence_of evidence_text EvidenceFits
evidence_exact = record {
  spelled_is_read = evidence_again;
  read_is_spelled = evidence_takes;
  one_spelling = λ a b x a_bytes b_bytes p q. (evidence_takes a x a_bytes p).0 ∙ sym (evidence_takes b x b_bytes q).0;
}
