-- The laws of an entry's text and of an envelope's.
use Rattle.std.proofs.Common.{◌≡◌, ℕ, ◌^◌, ◌<◌, ◌≤◌, Bool, true, false, cond, eqb, List, [], ◌∷◌, ◌++◌, length, Ok, refl, sym, ap, subst, ◌∙◌, append_assoc, arith}
use Rattle.std.proofs.lemmas.Bool.{eqb-true, eqb-false}
use Rattle.cp_bytes.specs.Fields.{IsBytes, ◌>>=◌, fields_at, part, part_at}
use Rattle.cp_bytes.specs.Fields.Field.{Tag}
use Rattle.cp_bytes.proofs.FieldLemmas.{bind_ok, ok_is, Takes, Takes-then, fields_take, fields_again}
use Rattle.cp_statements.specs.Tagged.{tagged_text}
use Rattle.cp_statements.specs.Entry.{Entry, EntryFits, entry_tag, entry_fields, entry_values, entry_from, signature_text, signature_at, entry_text, entry_at, entry_of}
use Rattle.cp_statements.specs.Envelope.{Envelope, EnvelopeFits, envelope_text, envelope_at, envelope_of}
use Rattle.cp_statements.proofs.Parts.{part_takes, part_again, at_front, whole_again, whole_takes}

-- ---- entries

pub record SignatureFits (kind : ℕ) (signature : List ℕ) : Type 0 where
  pub put : kind ≡ 1 → length signature < 2 ^ 32
  pub get : kind ≡ 2 → signature ≡ []

signature_takes : (kind : ℕ) (bytes : List ℕ) (x : List ℕ × List ℕ) → IsBytes bytes → signature_at kind bytes ≡ Ok x → Takes bytes (signature_text kind x.0) x.1 × SignatureFits kind x.0
unfolding signature_at
signature_takes kind bytes x fits e = go (eqb kind 1) refl e
  where
    go : (b : Bool) → eqb kind 1 ≡ b → cond b (part_at bytes) (Ok ([], bytes)) ≡ Ok x → Takes bytes (cond b (part x.0) []) x.1 × SignatureFits kind x.0
    go true t h =
        let p = part_takes bytes x fits h in
        (p.0, record { put = λ one. p.1; get = λ two. absurd (omega (arith, eqb-true _ _ t, two)) })
    go false t h =
        let made : List ℕ × List ℕ = ([], bytes) in
        subst (λ (p : List ℕ × List ℕ). Takes bytes [] p.1 × SignatureFits kind p.0) (ok_is made x h)
        (record { parts = refl; rest_fits = fits }, record { put = λ one. absurd (eqb-false _ _ t one); get = λ two. refl })

signature_again : (kind : ℕ) (signature rest : List ℕ) → (1 ≤ kind) × (kind ≤ 2) → SignatureFits kind signature → signature_at kind (signature_text kind signature ++ rest) ≡ Ok (signature, rest)
unfolding signature_at
signature_again kind signature rest k h = go (eqb kind 1) refl
  where
    two : eqb kind 1 ≡ false → kind ≡ 2
    two t = grind (arith, k.0, k.1, eqb-false kind 1 t)

    go : (b : Bool) → eqb kind 1 ≡ b → cond b (part_at (cond b (part signature) [] ++ rest)) (Ok ([], cond b (part signature) [] ++ rest)) ≡ Ok (signature, rest)
    go true t = part_again signature rest (h.put (eqb-true _ _ t))
    go false t = ap (λ (s : List ℕ). Ok (s, rest)) (sym (h.get (two t)))

entry_at_takes : (bytes : List ℕ) (x : Entry × List ℕ) → IsBytes bytes → entry_at bytes ≡ Ok x → Takes bytes (entry_text x.0) x.1 × EntryFits x.0
unfolding entry_at entry_text
entry_at_takes bytes x fits e =
    let a = bind_ok (fields_at (Tag entry_tag ∷ entry_fields) bytes) (λ fields. signature_at fields.0.1.0 fields.1 >>= λ signature. Ok (entry_from signature.0 fields.0.1, signature.1)) x e in
    let b = bind_ok (signature_at a.0.0.1.0 a.0.1) (λ signature. Ok (entry_from signature.0 a.0.0.1, signature.1)) x a.2 in
    let first = fields_take (Tag entry_tag ∷ entry_fields) bytes a.0 fits a.1 in
    let second = signature_takes a.0.0.1.0 a.0.1 b.0 first.0.rest_fits b.1 in
    let made : Entry × List ℕ = (entry_from b.0.0 a.0.0.1, b.0.1) in
    let both = Takes-then bytes (tagged_text entry_tag entry_fields a.0.0.1) a.0.1 (signature_text a.0.0.1.0 b.0.0) b.0.1 first.0 second.0 in
    subst (λ (y : Entry × List ℕ). Takes bytes (entry_text y.0) y.1 × EntryFits y.0) (ok_is made x b.2) (both, record { fields = first.1.1; put = second.1.put; get = second.1.get })

entry_at_again : (x : Entry) (rest : List ℕ) → EntryFits x → entry_at (entry_text x ++ rest) ≡ Ok (x, rest)
unfolding entry_at entry_text
entry_at_again x rest h =
    let signed = signature_text x.kind x.signature in
    let f : fields_at (Tag entry_tag ∷ entry_fields) (entry_text x ++ rest) ≡ Ok ((tt, entry_values x), signed ++ rest) =
    ap (fields_at (Tag entry_tag ∷ entry_fields)) (append_assoc (tagged_text entry_tag entry_fields (entry_values x)) signed rest) ∙ fields_again (Tag entry_tag ∷ entry_fields) (tt, entry_values x) (signed ++ rest) (tt, h.fields) in
    rw (f, signature_again x.kind x.signature rest h.fields.0 (record { put = h.put; get = h.get })) refl

pub entry_again : (x : Entry) → EntryFits x → entry_of (entry_text x) ≡ Ok x
unfolding entry_of
entry_again x h = whole_again entry_at x (entry_text x) (λ rest. entry_at_again x rest h)

pub entry_takes : (bytes : List ℕ) (x : Entry) → IsBytes bytes → entry_of bytes ≡ Ok x → (bytes ≡ entry_text x) × EntryFits x
unfolding entry_of
entry_takes bytes x fits e = whole_takes entry_at entry_text EntryFits bytes x (λ y. entry_at_takes bytes y fits) e

-- ---- envelopes

pub envelope_at_again : (x : Envelope) (rest : List ℕ) → EnvelopeFits x → envelope_at (envelope_text x ++ rest) ≡ Ok (x, rest)
unfolding envelope_at envelope_text
envelope_at_again x rest h =
    let a = at_front part_at x.text (part x.text) (part x.signature) rest (λ more. part_again x.text more h.0) in
    let b = part_again x.signature rest h.1 in
    rw (a, b) refl

pub envelope_at_takes : (bytes : List ℕ) (x : Envelope × List ℕ) → IsBytes bytes → envelope_at bytes ≡ Ok x → Takes bytes (envelope_text x.0) x.1 × EnvelopeFits x.0
unfolding envelope_at envelope_text
envelope_at_takes bytes x fits e =
    let a = bind_ok (part_at bytes) _ x e in
    let b = bind_ok (part_at a.0.1) _ x a.2 in
    let ta = part_takes bytes a.0 fits a.1 in
    let tb = part_takes a.0.1 b.0 ta.0.rest_fits b.1 in
    let made : Envelope × List ℕ = (record { text = a.0.0; signature = b.0.0 }, b.0.1) in
    subst (λ (y : Envelope × List ℕ). Takes bytes (part y.0.text ++ part y.0.signature) y.1 × EnvelopeFits y.0) (ok_is made x b.2) (Takes-then bytes (part a.0.0) a.0.1 (part b.0.0) b.0.1 ta.0 tb.0, (ta.1, tb.1))

pub envelope_again : (x : Envelope) → EnvelopeFits x → envelope_of (envelope_text x) ≡ Ok x
unfolding envelope_of
envelope_again x h = whole_again envelope_at x (envelope_text x) (λ rest. envelope_at_again x rest h)

pub envelope_takes : (bytes : List ℕ) (x : Envelope) → IsBytes bytes → envelope_of bytes ≡ Ok x → (bytes ≡ envelope_text x) × EnvelopeFits x
unfolding envelope_of
envelope_takes bytes x fits e = whole_takes envelope_at envelope_text EnvelopeFits bytes x (λ y. envelope_at_takes bytes y fits) e
