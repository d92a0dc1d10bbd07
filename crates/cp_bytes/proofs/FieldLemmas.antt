-- A form's two directions are one: what was spelled is read, and what is read was spelled so.
use Rattle.std.proofs.Common.{◌≡◌, ℕ, ◌+◌, ◌≤◌, Bool, true, false, cond, ltb, leb, eqb, ◌&&◌, List, [], ◌∷◌, ◌++◌, length, get_or, take, drop, Option, Some, None, Result, Ok, Err, refl, sym, ap, subst, ◌∙◌, append_assoc, arith, inl, inr}
use Rattle.std.specs.Prelude.{bytes_eq}
use Rattle.std.specs.Int.{w32, w64, from_be_bytes}
use Rattle.std.proofs.lemmas.Bool.{cases_lt, ltb-false, le-ltb, le-leb, leb-true, eqb-true, and_parts}
use Rattle.std.proofs.lemmas.Slice.Eq.{bytes_eq-Decides}
use Rattle.std.proofs.lemmas.List.{append-nil, take_at, drop_at, take-append-drop, length-append, length-take, get_or-drop, get_or-take, get_or_past, nil_from_length}
use Rattle.std.proofs.lemmas.Nat.{be_bytes_4, be_bytes_8, from_be_bytes-to_be_bytes_4, from_be_bytes-to_be_bytes_8}
use Rattle.cp_bytes.specs.Fields.{IsBytes, Field, ValueOf, size_of, FieldFits, spell_field, parse_field, Values, Fit, spell, ◌>>=◌, or_left, field_at, fields_at, ended, at_offset, read_fields}
use Rattle.cp_bytes.specs.Fields.Field.{Tag, Byte, Kind, U32, U64, Epoch, Raw}

pub IsBytes-drop : (n : ℕ) (bytes : List ℕ) → IsBytes bytes → IsBytes (drop n bytes)
IsBytes-drop n bytes h i = rw get_or-drop (h (n + i))

pub IsBytes-take : (n : ℕ) (bytes : List ℕ) → IsBytes bytes → IsBytes (take n bytes)
IsBytes-take n bytes h i =
    elim (cases_lt i n) [
      | inl lt ↦ rw (get_or-take n bytes i 0 lt) (h i)
      | inr le ↦ rw (get_or_past (take n bytes) i 0 (omega (arith, length-take n bytes))) (omega arith)
    ]

-- the value of a step that did not fail
pub bind_ok : {A B : Type 0} (r : Result A ℕ) (f : A → Result B ℕ) (y : B) → (r >>= f) ≡ Ok y → (x : A) × (r ≡ Ok x) × (f x ≡ Ok y)
bind_ok (Ok x) f y e = (x, refl, e)
bind_ok (Err d) f y e = absurd cc

-- a test that did not fail
pub guard_ok : {A : Type 0} (b : Bool) (d : ℕ) (r : Result A ℕ) (y : A) → cond b (Err d) r ≡ Ok y → (b ≡ false) × (r ≡ Ok y)
guard_ok true d r y e = absurd cc
guard_ok false d r y e = (refl, e)

abbrev done : {A : Type 0} → A → Result A ℕ
done x = Ok x

pub ok_is : {A : Type 0} (x y : A) → done x ≡ done y → x ≡ y
ok_is x y e = cc

pub or_left_ok : {A : Type 0} (bytes : List ℕ) (o : Option A) (x : A) → or_left bytes o ≡ Ok x → o ≡ Some x
or_left_ok bytes None x e = absurd cc
or_left_ok bytes (Some y) x e = cc

pub some_given : {A : Type 0} (b : Bool) (x y : A) → cond b (Some x) None ≡ Some y → (b ≡ true) × (x ≡ y)
some_given true x y e = (refl, cc)
some_given false x y e = absurd cc

some_is : {A : Type 0} (x y : A) → (let a : Option A = Some x in a) ≡ Some y → x ≡ y
some_is x y e = cc

pub bytes_eq-same : (t : List ℕ) → bytes_eq t t ≡ true
bytes_eq-same t = (bytes_eq-Decides t t).1 refl

-- ---- one field

pub field_length : (f : Field) (v : ValueOf f) → FieldFits f v → length (spell_field f v) ≡ size_of f
field_length (Tag t) v h = refl
field_length Byte v h = refl
field_length Kind v h = refl
field_length U32 v h = refl
field_length U64 v h = refl
field_length Epoch v h = refl
field_length (Raw n) v h = h

pub parse_again : (f : Field) (v : ValueOf f) → FieldFits f v → parse_field f (spell_field f v) ≡ Some v
parse_again (Tag t) v h = rw (bytes_eq-same t) refl
parse_again Byte v h = refl
parse_again Kind v h = rw (le-leb 1 v h.0, le-leb v 2 h.1) refl
parse_again U32 v h = rw (from_be_bytes-to_be_bytes_4 v h) refl
parse_again U64 v h = rw (from_be_bytes-to_be_bytes_8 v h) refl
parse_again Epoch v h = rw (from_be_bytes-to_be_bytes_8 v h.1, le-leb 1 v h.0) refl
parse_again (Raw n) v h = refl

pub field_again : (f : Field) (v : ValueOf f) (rest : List ℕ) → FieldFits f v → field_at f (spell_field f v ++ rest) ≡ Ok (v, rest)
unfolding field_at
field_again f v rest h =
    let len = field_length f v h in
    let long : ltb (length (spell_field f v ++ rest)) (size_of f) ≡ false = le-ltb _ _ (omega (arith, length-append (spell_field f v) rest)) in
    rw (long, take_at (spell_field f v) rest (size_of f) len, drop_at (spell_field f v) rest (size_of f) len, parse_again f v h) refl

pub fields_again : (fs : List Field) (vs : Values fs) (rest : List ℕ) → Fit fs vs → fields_at fs (spell fs vs ++ rest) ≡ Ok (vs, rest)
unfolding fields_at spell
fields_again [] vs rest h = refl
fields_again (f ∷ fs) vs rest h =
    let regrouped : spell (f ∷ fs) vs ++ rest ≡ spell_field f vs.0 ++ (spell fs vs.1 ++ rest) = append_assoc (spell_field f vs.0) (spell fs vs.1) rest in
    ap (fields_at (f ∷ fs)) regrouped ∙ rw (field_again f vs.0 (spell fs vs.1 ++ rest) h.0, fields_again fs vs.1 rest h.1) refl

one_byte : (bytes : List ℕ) → length bytes ≡ 1 → get_or bytes 0 0 ∷ [] ≡ bytes
one_byte [] h = absurd (omega (arith, h))
one_byte (b ∷ []) h = refl
one_byte (b ∷ (c ∷ bs)) h = absurd (omega (arith, h))

pub record Parses (f : Field) (bytes : List ℕ) (v : ValueOf f) : Type 0 where
  pub spelled : spell_field f v ≡ bytes
  pub fits : FieldFits f v

pub parse_takes : (f : Field) (bytes : List ℕ) (v : ValueOf f) → IsBytes bytes → length bytes ≡ size_of f → parse_field f bytes ≡ Some v → Parses f bytes v
parse_takes (Tag t) bytes v h len e =
    record { spelled = sym ((bytes_eq-Decides bytes t).0 (some_given (bytes_eq bytes t) tt v e).0); fits = tt }
parse_takes Byte bytes v h len e =
    subst (λ (w : ℕ). Parses Byte bytes w) (some_is (get_or bytes 0 0) v e) (record { spelled = one_byte bytes len; fits = omega (arith, h 0) })
parse_takes Kind bytes v h len e =
    let g = some_given (leb 1 (get_or bytes 0 0) && leb (get_or bytes 0 0) 2) (get_or bytes 0 0) v e in
    let b = and_parts _ _ g.0 in
    subst (λ (w : ℕ). Parses Kind bytes w) g.1 (record { spelled = one_byte bytes len; fits = (leb-true _ _ b.0, leb-true _ _ b.1) })
parse_takes U32 bytes v h len e =
    subst (λ (w : ℕ). Parses U32 bytes w) (some_is (from_be_bytes w32 bytes) v e) (record { spelled = be_bytes_4 bytes _ len h refl; fits = omega (arith, h 0, h 1, h 2, h 3) })
parse_takes U64 bytes v h len e =
    subst (λ (w : ℕ). Parses U64 bytes w) (some_is (from_be_bytes w64 bytes) v e) (record { spelled = be_bytes_8 bytes _ len h refl; fits = omega (arith, h 0, h 1, h 2, h 3, h 4, h 5, h 6, h 7) })
parse_takes Epoch bytes v h len e =
    let g = some_given (leb 1 (from_be_bytes w64 bytes)) (from_be_bytes w64 bytes) v e in
    subst (λ (w : ℕ). Parses Epoch bytes w) g.1 (record { spelled = be_bytes_8 bytes _ len h refl; fits = (leb-true _ _ g.0, omega (arith, h 0, h 1, h 2, h 3, h 4, h 5, h 6, h 7)) })
parse_takes (Raw n) bytes v h len e =
    subst (λ (w : List ℕ). Parses (Raw n) bytes w) (some_is bytes v e) (record { spelled = refl; fits = len })

-- what a reader took from the front
pub record Takes (bytes text rest : List ℕ) : Type 0 where
  pub parts : bytes ≡ text ++ rest
  pub rest_fits : IsBytes rest

pub Takes-then : (a x b y c : List ℕ) → Takes a x b → Takes b y c → Takes a (x ++ y) c
Takes-then a x b y c p q = record { parts = p.parts ∙ ap (λ (t : List ℕ). x ++ t) q.parts ∙ sym (append_assoc x y c); rest_fits = q.rest_fits }

pub field_takes : (f : Field) (bytes : List ℕ) (x : ValueOf f × List ℕ) → IsBytes bytes → field_at f bytes ≡ Ok x → Takes bytes (spell_field f x.0) x.1 × FieldFits f x.0
unfolding field_at
field_takes f bytes x fits e =
    let n = size_of f in
    let g = guard_ok (ltb (length bytes) n) (length bytes) (or_left bytes (parse_field f (take n bytes)) >>= λ v. Ok (v, drop n bytes)) x e in
    let long : n ≤ length bytes = ltb-false _ _ g.0 in
    let b = bind_ok (or_left bytes (parse_field f (take n bytes))) (λ v. Ok (v, drop n bytes)) x g.1 in
    let p = parse_takes f (take n bytes) b.0 (IsBytes-take n bytes fits) (omega (arith, length-take n bytes)) (or_left_ok bytes _ b.0 b.1) in
    let made : ValueOf f × List ℕ = (b.0, drop n bytes) in
    subst (λ (y : ValueOf f × List ℕ). Takes bytes (spell_field f y.0) y.1 × FieldFits f y.0) (ok_is made x b.2)
    (record { parts = sym (take-append-drop n bytes) ∙ ap (λ (t : List ℕ). t ++ drop n bytes) (sym p.spelled); rest_fits = IsBytes-drop n bytes fits }, p.fits)

pub fields_take : (fs : List Field) (bytes : List ℕ) (x : Values fs × List ℕ) → IsBytes bytes → fields_at fs bytes ≡ Ok x → Takes bytes (spell fs x.0) x.1 × Fit fs x.0
unfolding fields_at spell
fields_take [] bytes x fits e =
    let made : Unit {0} × List ℕ = (tt, bytes) in
    subst (λ (y : Unit {0} × List ℕ). Takes bytes (spell [] y.0) y.1 × Unit {0}) (ok_is made x e) (record { parts = refl; rest_fits = fits }, tt)
fields_take (f ∷ fs) bytes x fits e =
    let a = bind_ok (field_at f bytes) (λ first. fields_at fs first.1 >>= λ others. Ok ((first.0, others.0), others.1)) x e in
    let b = bind_ok (fields_at fs a.0.1) (λ others. Ok ((a.0.0, others.0), others.1)) x a.2 in
    let first = field_takes f bytes a.0 fits a.1 in
    let second = fields_take fs a.0.1 b.0 first.0.rest_fits b.1 in
    let both = Takes-then bytes (spell_field f a.0.0) a.0.1 (spell fs b.0.0) b.0.1 first.0 second.0 in
    let made : Values (f ∷ fs) × List ℕ = ((a.0.0, b.0.0), b.0.1) in
    subst (λ (y : Values (f ∷ fs) × List ℕ). Takes bytes (spell (f ∷ fs) y.0) y.1 × Fit (f ∷ fs) y.0) (ok_is made x b.2) (both, (first.1, second.1))

-- ---- whole texts

pub at_offset_ok : {A : Type 0} (bytes : List ℕ) (r : Result A ℕ) (x : A) → at_offset bytes r ≡ Ok x → r ≡ Ok x
at_offset_ok bytes (Ok y) x e = e
at_offset_ok bytes (Err d) x e = absurd cc

pub ended_ok : {A : Type 0} (x : A × List ℕ) (y : A) → ended x ≡ Ok y → (x.0 ≡ y) × (x.1 ≡ [])
ended_ok x y e = go (eqb (length x.1) 0) refl e
  where
    go : (b : Bool) → eqb (length x.1) 0 ≡ b → cond b (done x.0) (Err (length x.1)) ≡ Ok y → (x.0 ≡ y) × (x.1 ≡ [])
    go true t e = (ok_is x.0 y e, nil_from_length x.1 (eqb-true _ _ t))
    go false t e = absurd cc

pub read_again : (fs : List Field) (vs : Values fs) → Fit fs vs → read_fields fs (spell fs vs) ≡ Ok vs
unfolding read_fields
read_again fs vs h =
    let e : fields_at fs (spell fs vs) ≡ Ok (vs, []) = ap (fields_at fs) (sym (append-nil (spell fs vs))) ∙ fields_again fs vs [] h in
    rw e refl

pub read_takes : (fs : List Field) (bytes : List ℕ) (vs : Values fs) → IsBytes bytes → read_fields fs bytes ≡ Ok vs → (bytes ≡ spell fs vs) × Fit fs vs
unfolding read_fields
read_takes fs bytes vs fits e =
    let b = bind_ok (fields_at fs bytes) ended vs (at_offset_ok bytes (fields_at fs bytes >>= ended) vs e) in
    let t = fields_take fs bytes b.0 fits b.1 in
    let w = ended_ok b.0 vs b.2 in
    subst (λ (v : Values fs). (bytes ≡ spell fs v) × Fit fs v) w.0
    (t.0.parts ∙ ap (λ (r : List ℕ). spell fs b.0.0 ++ r) w.1 ∙ append-nil (spell fs b.0.0), t.1)
