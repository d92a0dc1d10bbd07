-- Hand-ins: what was spelled is read, and what is read was spelled so.
use Rattle.std.proofs.Common.{◌≡◌, ℕ, zero, suc, ◌≤◌, Bool, true, false, cond, eqb, List, [], ◌∷◌, ◌++◌, length, flat_map, Result, Ok, Err, refl, sym, ap, subst, ◌∙◌, arith}
use Rattle.std.specs.Int.{w32, to_be_bytes}
use Rattle.std.proofs.lemmas.Bool.{eqb-true, eqb-false, ne_eqb}
use Rattle.std.proofs.lemmas.List.{append-nil, length-append, nil_from_length}
use Rattle.cp_bytes.specs.Fields.{IsBytes, ◌>>=◌, part}
use Rattle.cp_bytes.proofs.FieldLemmas.{bind_ok, ok_is, at_offset_ok}
use Rattle.cp_statements.specs.Envelope.{Envelope, envelope_text, envelope_at}
use Rattle.cp_statements.specs.Laws.{IsExact}
use Rattle.cp_statements.proofs.Entries.{envelope_at_again, envelope_at_takes}
use Rattle.cp_evidence.specs.HandIns.{HandInsFit, hand_ins_text, envelopes_at, hand_ins_of}

some_bytes : (x : Envelope) (rest : List ℕ) → eqb (length (envelope_text x ++ rest)) 0 ≡ false
unfolding envelope_text
some_bytes x rest = ne_eqb _ _ (λ e. omega (arith, e, length-append (part x.text ++ part x.signature) rest, length-append (part x.text) (part x.signature), length-append (to_be_bytes w32 (length x.text)) x.text))

envelopes_again : (n : ℕ) (xs : List Envelope) → length xs ≤ n → HandInsFit xs → envelopes_at n (flat_map envelope_text xs) ≡ Ok xs
unfolding envelopes_at
envelopes_again zero [] le all = refl
envelopes_again zero (x ∷ xs) le all = absurd (omega (arith, le))
envelopes_again (suc n) [] le all = refl
envelopes_again (suc n) (x ∷ xs) le all =
    rw (some_bytes x (flat_map envelope_text xs)) (rw (envelope_at_again x (flat_map envelope_text xs) all.0) (rw (envelopes_again n xs (omega (arith, le)) all.1) refl))

enough : (xs : List Envelope) → length xs ≤ length (flat_map envelope_text xs)
enough [] = omega arith
enough (x ∷ xs) = omega (arith, enough xs, length-append (envelope_text x) (flat_map envelope_text xs), least x)
  where
    least : (x : Envelope) → 1 ≤ length (envelope_text x)
    least x = one (length (envelope_text x)) (eqb-false _ _ (ap (λ (l : List ℕ). eqb (length l) 0) (sym (append-nil (envelope_text x))) ∙ some_bytes x []))
      where
        one : (n : ℕ) → (n ≡ 0 → ⊥) → 1 ≤ n
        one n ne = omega (arith, ne)

hand_ins_again : (xs : List Envelope) → HandInsFit xs → hand_ins_of (hand_ins_text xs) ≡ Ok xs
unfolding hand_ins_of hand_ins_text
hand_ins_again xs all = rw (envelopes_again (length (flat_map envelope_text xs)) xs (enough xs) all) refl

envelopes_take : (n : ℕ) (bytes : List ℕ) (xs : List Envelope) → IsBytes bytes → envelopes_at n bytes ≡ Ok xs → (bytes ≡ flat_map envelope_text xs) × HandInsFit xs
unfolding envelopes_at
envelopes_take zero bytes xs fits e = go (eqb (length bytes) 0) refl e
  where
    go : (b : Bool) → eqb (length bytes) 0 ≡ b → cond {A = Result (List Envelope) ℕ} b (Ok []) (Err (length bytes)) ≡ Ok xs → (bytes ≡ flat_map envelope_text xs) × HandInsFit xs
    go true t h = subst (λ (y : List Envelope). (bytes ≡ flat_map envelope_text y) × HandInsFit y) (ok_is [] xs h) (nil_from_length bytes (eqb-true _ _ t), tt)
    go false t h = absurd cc
envelopes_take (suc n) bytes xs fits e = go (eqb (length bytes) 0) refl e (λ r ys. envelopes_take n r ys)
  where
    more : Result (List Envelope) ℕ
    more = envelope_at bytes >>= λ first. (envelopes_at n first.1 >>= λ others. Ok (first.0 ∷ others))

    go : (b : Bool) → eqb (length bytes) 0 ≡ b → cond {A = Result (List Envelope) ℕ} b (Ok []) more ≡ Ok xs → ((r : List ℕ) (ys : List Envelope) → IsBytes r → envelopes_at n r ≡ Ok ys → (r ≡ flat_map envelope_text ys) × HandInsFit ys) → (bytes ≡ flat_map envelope_text xs) × HandInsFit xs
    go true t h rest = subst (λ (y : List Envelope). (bytes ≡ flat_map envelope_text y) × HandInsFit y) (ok_is [] xs h) (nil_from_length bytes (eqb-true _ _ t), tt)
    go false t h rest =
        let a = bind_ok (envelope_at bytes) _ xs h in
        let b = bind_ok (envelopes_at n a.0.1) _ xs a.2 in
        let ta = envelope_at_takes bytes a.0 fits a.1 in
        let tb = rest a.0.1 b.0 ta.0.rest_fits b.1 in
        subst (λ (y : List Envelope). (bytes ≡ flat_map envelope_text y) × HandInsFit y) (ok_is (a.0.0 ∷ b.0) xs b.2) (ta.0.parts ∙ ap (λ (l : List ℕ). envelope_text a.0.0 ++ l) tb.0, (ta.1, tb.1))

hand_ins_take : (bytes : List ℕ) (xs : List Envelope) → IsBytes bytes → hand_ins_of bytes ≡ Ok xs → (bytes ≡ hand_ins_text xs) × HandInsFit xs
unfolding hand_ins_of hand_ins_text
hand_ins_take bytes xs fits e = envelopes_take (length bytes) bytes xs fits (at_offset_ok bytes (envelopes_at (length bytes) bytes) xs e)

pub hand_ins_exact : IsExact hand_ins_of hand_ins_text HandInsFit
hand_ins_exact = record {
  spelled_is_read = hand_ins_again;
  read_is_spelled = hand_ins_take;
  one_spelling = λ a b xs a_bytes b_bytes p q. (hand_ins_take a xs a_bytes p).0 ∙ sym (hand_ins_take b xs b_bytes q).0;
}
