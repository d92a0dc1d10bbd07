-- Hand-ins, one after another.
use Rattle.std.proofs.Common.{◌≡◌, ℕ, zero, suc, ◌+◌, ◌-◌, ◌<◌, ◌≤◌, Bool, true, false, cond, eqb, ltb, List, [], ◌∷◌, ◌++◌, length, take, drop, Result, Ok, Err, refl, sym, ap, ◌∙◌, arith, append_assoc, length-append, length-drop}
use Rattle.std.specs.Prelude.{filter}
use Rattle.std.proofs.lemmas.Bool.{ne_eqb, ltb-false}
use Rattle.std.proofs.lemmas.List.{append-nil, nil_from_length}
use Rattle.cp_bytes.specs.Fields.{Field, ValueOf, size_of, parse_field, or_left, ◌>>=◌, field_at, part_at, at_offset}
use Rattle.cp_bytes.specs.Fields.Field.{U32, Raw}
use Rattle.cp_bytes.proofs.FieldLemmas.{bind_ok, guard_ok, ok_is}
use Rattle.cp_statements.specs.Envelope.{Envelope, envelope_at}
use Rattle.cp_evidence.specs.Conditions.{signed_by}
use Rattle.cp_evidence.specs.HandIns.{envelopes_at, hand_ins_of}

not_nil : (rest : List ℕ) → (rest ≡ [] → ⊥) → eqb (length rest) 0 ≡ false
not_nil rest some = ne_eqb _ _ (λ e. some (nil_from_length rest e))

-- hand-ins that were read, in front of others
abbrev pub behind : List Envelope → Result (List Envelope) ℕ → Result (List Envelope) ℕ
behind front r = r >>= λ others. Ok (front ++ others)

behind_none : (r : Result (List Envelope) ℕ) → behind [] r ≡ r
behind_none (Ok x) = refl
behind_none (Err d) = refl

-- the ones so far: the front of all, where the number bounds those that are left
pub record SoFar (key bytes rest : List ℕ) (count : ℕ) (verified : List Envelope) : Type 0 where
  pub front : List Envelope
  pub left : ℕ
  pub enough : length rest ≤ left
  pub few : count + left ≤ length bytes
  pub many : count ≡ length front
  pub kept : verified ≡ filter (signed_by key) front
  pub so_far : envelopes_at (length bytes) bytes ≡ behind front (envelopes_at left rest)

pub begin : (key bytes : List ℕ) → SoFar key bytes bytes 0 []
begin key bytes = record {
  front = [];
  left = length bytes;
  enough = omega arith;
  few = omega arith;
  many = refl;
  kept = refl;
  so_far = sym (behind_none (envelopes_at (length bytes) bytes));
}

-- ---- what is left behind a field and an envelope

field_left : (f : Field) (bytes : List ℕ) (v : ValueOf f × List ℕ) → field_at f bytes ≡ Ok v → length v.1 + size_of f ≡ length bytes
unfolding field_at
field_left f bytes v e =
    let g = guard_ok (ltb (length bytes) (size_of f)) (length bytes) _ v e in
    let w = bind_ok (or_left bytes (parse_field f (take (size_of f) bytes))) _ v g.1 in
    let made : ValueOf f × List ℕ = (w.0, drop (size_of f) bytes) in
    let same : drop (size_of f) bytes ≡ v.1 = ap (λ (p : ValueOf f × List ℕ). p.1) (ok_is made v w.2) in
    let long : size_of f ≤ length bytes = ltb-false _ _ g.0 in
    omega (arith, long, length-drop (size_of f) bytes, ap length same)

part_left : (bytes : List ℕ) (v : List ℕ × List ℕ) → part_at bytes ≡ Ok v → length v.1 < length bytes
unfolding part_at
part_left bytes v e =
    let a = bind_ok (field_at U32 bytes) _ v e in
    omega (arith, field_left U32 bytes a.0 a.1, field_left (Raw a.0.0) a.0.1 v a.2)

pub envelope_left : (bytes : List ℕ) (x : Envelope × List ℕ) → envelope_at bytes ≡ Ok x → length x.1 < length bytes
unfolding envelope_at
envelope_left bytes x e =
    let a = bind_ok (part_at bytes) _ x e in
    let b = bind_ok (part_at a.0.1) _ x a.2 in
    let made : Envelope × List ℕ = (record { text = a.0.0; signature = b.0.0 }, b.0.1) in
    let same : b.0.1 ≡ x.1 = ap (λ (p : Envelope × List ℕ). p.1) (ok_is made x b.2) in
    omega (arith, part_left bytes a.0 a.1, part_left a.0.1 b.0 b.1, ap length same)

-- ---- one more

filter_push : (p : Envelope → Bool) (front : List Envelope) (x : Envelope) → filter p (front ++ x ∷ []) ≡ cond (p x) (filter p front ++ x ∷ []) (filter p front)
filter_push p [] x = refl
filter_push p (y ∷ ys) x = go (p y) (p x) (filter_push p ys x)
  where
    go : (a b : Bool) → filter p (ys ++ x ∷ []) ≡ cond b (filter p ys ++ x ∷ []) (filter p ys) → cond a (y ∷ filter p (ys ++ x ∷ [])) (filter p (ys ++ x ∷ [])) ≡ cond b (cond a (y ∷ filter p ys) (filter p ys) ++ x ∷ []) (cond a (y ∷ filter p ys) (filter p ys))
    go true true h = ap (λ (l : List Envelope). y ∷ l) h
    go true false h = ap (λ (l : List Envelope). y ∷ l) h
    go false b h = h

some_left : (n : ℕ) (rest : List ℕ) (x : Envelope) (rest₂ : List ℕ) → (rest ≡ [] → ⊥) → envelope_at rest ≡ Ok (x, rest₂) → envelopes_at (suc n) rest ≡ behind (x ∷ []) (envelopes_at n rest₂)
unfolding envelopes_at
some_left n rest x rest₂ some e = rw (not_nil rest some) (rw e (go (envelopes_at n rest₂)))
  where
    go : (r : Result (List Envelope) ℕ) → (r >>= λ others. Ok (x ∷ others)) ≡ behind (x ∷ []) r
    go (Ok xs) = refl
    go (Err d) = refl

behind_behind : (front : List Envelope) (x : Envelope) (r : Result (List Envelope) ℕ) → behind front (behind (x ∷ []) r) ≡ behind (front ++ x ∷ []) r
behind_behind front x (Ok xs) = ap (λ (l : List Envelope). Ok l) (sym (append_assoc front (x ∷ []) xs))
behind_behind front x (Err d) = refl

pub step : (key bytes rest rest₂ : List ℕ) (count : ℕ) (verified verified₂ : List Envelope) (x : Envelope) → SoFar key bytes rest count verified → (rest ≡ [] → ⊥) → envelope_at rest ≡ Ok (x, rest₂) → verified₂ ≡ cond (signed_by key x) (verified ++ x ∷ []) verified → SoFar key bytes rest₂ (count + 1) verified₂
step key bytes rest rest₂ count verified verified₂ x so some e kept = go so.left so.enough so.few so.so_far
  where
    shorter : length rest₂ < length rest
    shorter = envelope_left rest (x, rest₂) e

    go : (left : ℕ) → length rest ≤ left → count + left ≤ length bytes → envelopes_at (length bytes) bytes ≡ behind so.front (envelopes_at left rest) → SoFar key bytes rest₂ (count + 1) verified₂
    go zero enough few so_far = absurd (omega (arith, enough, shorter))
    go (suc n) enough few so_far = record {
      front = so.front ++ x ∷ [];
      left = n;
      enough = omega (arith, enough, shorter);
      few = omega (arith, few);
      many = omega (arith, so.many, length-append so.front (x ∷ []));
      kept = kept ∙ ap (λ (l : List Envelope). cond (signed_by key x) (l ++ x ∷ []) l) so.kept ∙ sym (filter_push (signed_by key) so.front x);
      so_far = so_far ∙ ap (behind so.front) (some_left n rest x rest₂ some e) ∙ behind_behind so.front x (envelopes_at n rest₂);
    }

-- ---- the end

no_more : (left : ℕ) → envelopes_at left [] ≡ Ok []
unfolding envelopes_at
no_more zero = refl
no_more (suc n) = refl

pub all_read : (key bytes : List ℕ) (count : ℕ) (verified : List Envelope) → (so : SoFar key bytes [] count verified) → hand_ins_of bytes ≡ Ok so.front
unfolding hand_ins_of
all_read key bytes count verified so =
    let done : envelopes_at (length bytes) bytes ≡ Ok so.front = so.so_far ∙ ap (behind so.front) (no_more so.left) ∙ ap (λ (l : List Envelope). Ok l) (append-nil so.front) in
    ap (at_offset bytes) done

first_fails : (n : ℕ) (rest : List ℕ) (d : ℕ) → (rest ≡ [] → ⊥) → envelope_at rest ≡ Err d → envelopes_at (suc n) rest ≡ Err d
unfolding envelopes_at
first_fails n rest d some e = rw (not_nil rest some) (rw e refl)

pub refused : (key bytes rest : List ℕ) (count : ℕ) (verified : List Envelope) (total at : ℕ) → SoFar key bytes rest count verified → (rest ≡ [] → ⊥) → total ≡ length bytes → envelope_at rest ≡ Err (total - at) → at ≤ total → hand_ins_of bytes ≡ Err at
unfolding hand_ins_of
refused key bytes rest count verified total at so some whole e within = go so.left so.enough so.so_far
  where
    go : (left : ℕ) → length rest ≤ left → envelopes_at (length bytes) bytes ≡ behind so.front (envelopes_at left rest) → at_offset bytes (envelopes_at (length bytes) bytes) ≡ Err at
    go zero enough so_far = absurd (some (nil_from_length rest (omega (arith, enough))))
    go (suc n) enough so_far =
        let stopped : envelopes_at (length bytes) bytes ≡ Err (total - at) = so_far ∙ ap (behind so.front) (first_fails n rest (total - at) some e) in
        let place : length bytes - (total - at) ≡ at = omega (arith, whole, within) in
        ap (at_offset bytes) stopped ∙ ap (λ (k : ℕ). Err k) place
