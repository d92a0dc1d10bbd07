-- The laws of texts of a tag and a row of fields.
use Rattle.std.proofs.Common.{◌≡◌, ℕ, ◌+◌, List, [], ◌∷◌, length, take, drop, ltb, Result, Ok, refl, ap, arith, length-append}
use Rattle.std.specs.Prelude.{bytes_eq}
use Rattle.std.proofs.lemmas.Slice.Eq.{bytes_eq-Decides}
use Rattle.cp_bytes.specs.Fields.{IsBytes, Field, Values, Fit, size_of, spell, spell_field, ◌>>=◌, or_left, parse_field, field_at, fields_at, read_fields, ended}
use Rattle.cp_bytes.specs.Fields.Field.{Tag}
use Rattle.cp_bytes.proofs.FieldLemmas.{bind_ok, guard_ok, ok_is, or_left_ok, some_given, at_offset_ok, field_length, read_again, read_takes}
use Rattle.cp_statements.specs.Tagged.{tagged_text, tagged_of}

pub tagged_again : {A : Type 0} (tag : List ℕ) (fs : List Field) (from : Values fs → A) (vs : Values fs) → Fit fs vs → tagged_of tag fs from (tagged_text tag fs vs) ≡ Ok (from vs)
tagged_again tag fs from vs h = ap (λ (r : Result (Values (Tag tag ∷ fs)) ℕ). r >>= λ ws. Ok (from ws.1)) (read_again (Tag tag ∷ fs) (tt, vs) (tt, h))

pub tagged_takes : {A : Type 0} (tag : List ℕ) (fs : List Field) (from : Values fs → A) (bytes : List ℕ) (x : A) → IsBytes bytes → tagged_of tag fs from bytes ≡ Ok x
    → (vs : Values fs) × (from vs ≡ x) × (bytes ≡ tagged_text tag fs vs) × Fit fs vs
tagged_takes tag fs from bytes x fits e =
    let b = bind_ok (read_fields (Tag tag ∷ fs) bytes) (λ ws. Ok (from ws.1)) x e in
    let t = read_takes (Tag tag ∷ fs) bytes b.0 fits b.1 in
    (b.0.1, ok_is (from b.0.1) x b.2, t.0, t.1.1)

-- bytes that are read under a tag begin with it
pub tag_stands : (t : List ℕ) (fs : List Field) (bytes : List ℕ) (x : Values (Tag t ∷ fs) × List ℕ) → fields_at (Tag t ∷ fs) bytes ≡ Ok x → take (length t) bytes ≡ t
unfolding fields_at field_at
tag_stands t fs bytes x e =
    let b = bind_ok (field_at (Tag t) bytes) _ x e in
    let c = guard_ok (ltb (length bytes) (length t)) (length bytes) (or_left bytes (parse_field (Tag t) (take (length t) bytes)) >>= λ v. Ok (v, drop (length t) bytes)) b.0 b.1 in
    let d = bind_ok (or_left bytes (parse_field (Tag t) (take (length t) bytes))) _ b.0 c.1 in
    let o = or_left_ok bytes (parse_field (Tag t) (take (length t) bytes)) d.0 d.1 in
    (bytes_eq-Decides _ _).0 (some_given (bytes_eq (take (length t) bytes) t) tt d.0 o).0

pub tagged_begins : {A : Type 0} (tag : List ℕ) (fs : List Field) (from : Values fs → A) (bytes : List ℕ) (x : A) → tagged_of tag fs from bytes ≡ Ok x → take (length tag) bytes ≡ tag
unfolding read_fields
tagged_begins tag fs from bytes x e =
    let b = bind_ok (read_fields (Tag tag ∷ fs) bytes) (λ ws. Ok (from ws.1)) x e in
    let c = bind_ok (fields_at (Tag tag ∷ fs) bytes) ended b.0 (at_offset_ok bytes (fields_at (Tag tag ∷ fs) bytes >>= ended) b.0 b.1) in
    tag_stands tag fs bytes c.0 c.1

-- the length of a row of fields
abbrev pub sizes : List Field → ℕ
sizes [] = 0
sizes (f ∷ fs) = size_of f + sizes fs

pub length-spell : (fs : List Field) (vs : Values fs) → Fit fs vs → length (spell fs vs) ≡ sizes fs
unfolding spell
length-spell [] vs h = refl
length-spell (f ∷ fs) vs h = omega (arith, length-append (spell_field f vs.0) (spell fs vs.1), field_length f vs.0 h.0, length-spell fs vs.1 h.1)

pub length-tagged : (tag : List ℕ) (fs : List Field) (vs : Values fs) → Fit fs vs → length (tagged_text tag fs vs) ≡ length tag + sizes fs
length-tagged tag fs vs h = length-spell (Tag tag ∷ fs) (tt, vs) (tt, h)
