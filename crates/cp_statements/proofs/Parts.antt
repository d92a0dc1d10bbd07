-- The laws of a part, and of a text that is read whole.
use Rattle.std.proofs.Common.{◌≡◌, ℕ, ◌^◌, ◌<◌, List, [], ◌++◌, length, Result, Ok, refl, sym, ap, subst, ◌∙◌, append_assoc}
use Rattle.std.specs.Int.{w32, to_be_bytes}
use Rattle.std.proofs.lemmas.List.{append-nil}
use Rattle.cp_bytes.specs.Fields.{IsBytes, ◌>>=◌, field_at, part, part_at, ended, at_offset}
use Rattle.cp_bytes.specs.Fields.Field.{U32, Raw}
use Rattle.cp_bytes.proofs.FieldLemmas.{bind_ok, ended_ok, at_offset_ok, Takes, Takes-then, field_takes, field_again}

pub part_takes : (bytes : List ℕ) (x : List ℕ × List ℕ) → IsBytes bytes → part_at bytes ≡ Ok x → Takes bytes (part x.0) x.1 × (length x.0 < 2 ^ 32)
unfolding part_at
part_takes bytes x fits e =
    let b = bind_ok (field_at U32 bytes) (λ n. field_at (Raw n.0) n.1) x e in
    let t = field_takes U32 bytes b.0 fits b.1 in
    let u = field_takes (Raw b.0.0) b.0.1 x t.0.rest_fits b.2 in
    let both = Takes-then bytes (to_be_bytes w32 b.0.0) b.0.1 x.0 x.1 t.0 u.0 in
    (subst (λ (n : ℕ). Takes bytes (to_be_bytes w32 n ++ x.0) x.1) (sym u.1) both, subst (λ (n : ℕ). n < 2 ^ 32) (sym u.1) t.1)

pub part_again : (text rest : List ℕ) → length text < 2 ^ 32 → part_at (part text ++ rest) ≡ Ok (text, rest)
unfolding part_at
part_again text rest short =
    let counted : field_at U32 (part text ++ rest) ≡ Ok (length text, text ++ rest) = ap (field_at U32) (append_assoc (to_be_bytes w32 (length text)) text rest) ∙ field_again U32 (length text) (text ++ rest) short in
    rw (counted, field_again (Raw (length text)) text rest refl) refl

-- the first of two pieces, and the bytes behind both
pub at_front : {A : Type 0} (read : List ℕ → Result (A × List ℕ) ℕ) (v : A) (a b rest : List ℕ) → ((more : List ℕ) → read (a ++ more) ≡ Ok (v, more)) → read ((a ++ b) ++ rest) ≡ Ok (v, b ++ rest)
at_front read v a b rest h = ap read (append_assoc a b rest) ∙ h (b ++ rest)

pub whole_again : {A : Type 0} (read : List ℕ → Result (A × List ℕ) ℕ) (v : A) (text : List ℕ) → ((rest : List ℕ) → read (text ++ rest) ≡ Ok (v, rest)) → at_offset text (read text >>= ended) ≡ Ok v
whole_again read v text h =
    let e : read text ≡ Ok (v, []) = ap read (sym (append-nil text)) ∙ h [] in
    rw e refl

pub whole_takes : {A : Type 0} (read : List ℕ → Result (A × List ℕ) ℕ) (text : A → List ℕ) (Fits : A → Type 0) (bytes : List ℕ) (v : A) → ((x : A × List ℕ) → read bytes ≡ Ok x → Takes bytes (text x.0) x.1 × Fits x.0) → at_offset bytes (read bytes >>= ended) ≡ Ok v → (bytes ≡ text v) × Fits v
whole_takes read text Fits bytes v h e =
    let b = bind_ok (read bytes) ended v (at_offset_ok bytes (read bytes >>= ended) v e) in
    let t = h b.0 b.1 in
    let w = ended_ok b.0 v b.2 in
    subst (λ z. (bytes ≡ text z) × Fits z) w.0 (t.0.parts ∙ ap (λ (r : List ℕ). text b.0.0 ++ r) w.1 ∙ append-nil (text b.0.0), t.1)
