-- Envelopes as contracts see them, and what calls say of them.
use Rattle.std.proofs.Common.{◌≡◌, ℕ, Bool, true, false, cond, eqb, List, [], ◌∷◌, ◌++◌, length, Some, Result, Ok, Err, refl, sym, ap, ◌∙◌}
use Rattle.std.specs.Prelude.{map, is_err, option_map, OnOk}
use Rattle.std.specs.List.{find}
use Rattle.std.proofs.lemmas.Bool.{eq-eqb, eqb-true, false≢true}
use Rattle.std.proofs.lemmas.List.{nil_from_length}
use Rattle.cp_statements.specs.Envelope as spec
use Rattle.cp_statements.specs.View.{envelope_view}
use Rattle.cp_statements.specs.declared.envelope.Envelope.{Envelope}

map_push : (xs : List Envelope) (x : Envelope) → map envelope_view (xs ++ x ∷ []) ≡ map envelope_view xs ++ envelope_view x ∷ []
map_push [] x = refl
map_push (y ∷ ys) x = ap (λ (l : List spec.Envelope). envelope_view y ∷ l) (map_push ys x)

pub view_kept : (b : Bool) (new old : List Envelope) (x : Envelope) → new ≡ cond b (old ++ x ∷ []) old → map envelope_view new ≡ cond b (map envelope_view old ++ envelope_view x ∷ []) (map envelope_view old)
view_kept true new old x e = ap (map envelope_view) e ∙ map_push old x
view_kept false new old x e = ap (map envelope_view) e

pub went_well : {A E : Type 0} {P : Type 0} (r : Result A E) (b : Bool) → b ≡ is_err r → b ≡ false → OnOk r P → P
went_well (Ok x) b e f p = p
went_well (Err d) b e f p = absurd (false≢true (sym f ∙ e))

pub not_empty : (rest bytes : List ℕ) (b : Bool) → rest ≡ bytes → b ≡ eqb (length rest) 0 → b ≡ false → bytes ≡ [] → ⊥
not_empty rest bytes b same e f none = false≢true (sym f ∙ e ∙ eq-eqb _ _ (ap length (same ∙ none)))

-- a search of what is seen is a search of what there is
pub find_seen : (p : spec.Envelope → Bool) (xs : List Envelope) → find p (map envelope_view xs) ≡ option_map envelope_view (find (λ x. p (envelope_view x)) xs)
find_seen p [] = refl
find_seen p (x ∷ xs) = go (p (envelope_view x)) (find_seen p xs)
  where
    go : (b : Bool) → find p (map envelope_view xs) ≡ option_map envelope_view (find (λ x. p (envelope_view x)) xs) → cond b (Some (envelope_view x)) (find p (map envelope_view xs)) ≡ option_map envelope_view (cond b (Some x) (find (λ x. p (envelope_view x)) xs))
    go true h = refl
    go false h = h

pub is_empty : (rest bytes : List ℕ) (b : Bool) → rest ≡ bytes → b ≡ eqb (length rest) 0 → b ≡ true → bytes ≡ []
is_empty rest bytes b same e t = sym same ∙ nil_from_length rest (eqb-true _ _ (sym e ∙ t))
