-- What is written of what a search finds.
use Rattle.std.proofs.Common.{◌≡◌, ℕ, ◌+◌, ◌<◌, Bool, true, false, cond, List, [], ◌∷◌, ◌++◌, length, get_or, drop, Option, Some, refl, sym, ap, ◌∙◌}
use Rattle.std.proofs.lemmas.List.{drop_more}
use Rattle.cp_chain.specs.Rules.{first_of, or_else}
use Rattle.std.specs.Prelude.{map, option_map}
use Rattle.std.specs.Global.{Vec}
use Rattle.std.specs.List.{find}
use Rattle.cp_statements.specs.Envelope as spec
use Rattle.cp_statements.specs.View.{envelope_view}
use Rattle.cp_statements.specs.declared.envelope.Envelope.{Envelope}
use Rattle.cp_evidence.specs.Evidence.{Evidence, evidence_text}
use Rattle.cp_evidence.specs.AuditLaws.{LongPartsFit}
use Rattle.cp_audit.proofs.ViewLemmas.{find_seen}

pub row_by : (make : spec.Envelope → Evidence) (p : spec.Envelope → Bool) (xs : List Envelope) (found : Option Envelope) → found ≡ find (λ x. p (envelope_view x)) xs → option_map make (find p (map envelope_view xs)) ≡ option_map make (option_map envelope_view found)
row_by make p xs found e = ap (option_map make) (find_seen p xs ∙ ap (option_map envelope_view) (sym e))

-- ---- the first of a list that shows guilt

pub first_here : {X : Type 0} (row : X → Option Evidence) (xs : List X) (i : ℕ) (d : X) → i < length xs → first_of (map row (drop i xs)) ≡ or_else (row (get_or xs i d)) (first_of (map row (drop (i + 1) xs)))
first_here row xs i d lt = ap (λ l. first_of (map row l)) (drop_more xs i d lt)

pub map_map : {X Y Z : Type 0} (g : Y → Z) (f : X → Y) (xs : List X) → map g (map f xs) ≡ map (λ x. g (f x)) xs
map_map g f [] = refl
map_map g f (x ∷ xs) = ap (λ l. g (f x) ∷ l) (map_map g f xs)

-- ---- what a hand-in is written as

-- the bytes of the evidence that is found
abbrev pub WritesOut : Option Evidence → Vec ℕ → Type 0
WritesOut row out = (e : Evidence) × (row ≡ Some e) × (out.items ≡ evidence_text e) × LongPartsFit e

-- the first that shows guilt
pub row_at : {X : Type 0} (row : X → Option Evidence) (xs : List X) (i : ℕ) (d : X) (e : Evidence) (start : List ℕ) (out : Vec ℕ) → i < length xs → first_of (map row xs) ≡ first_of (map row (drop i xs)) → Some e ≡ row (get_or xs i d)
    → out.items ≡ start ++ evidence_text e → start ≡ [] → LongPartsFit e → WritesOut (first_of (map row xs)) out
row_at row xs i d e start out lt none_before shows written none fits = (
  e,
  none_before ∙ first_here row xs i d lt ∙ ap (λ (r : Option Evidence). or_else r (first_of (map row (drop (i + 1) xs)))) (sym shows),
  written ∙ ap (λ (l : List ℕ). l ++ evidence_text e) none,
  fits,
)

-- the first that passes a test
find_here : (p : spec.Envelope → Bool) (xs : List Envelope) (i : ℕ) (d : Envelope) → i < length xs
    → find p (map envelope_view (drop i xs)) ≡ cond (p (envelope_view (get_or xs i d))) (Some (envelope_view (get_or xs i d))) (find p (map envelope_view (drop (i + 1) xs)))
find_here p xs i d lt = ap (λ (l : List Envelope). find p (map envelope_view l)) (drop_more xs i d lt)

pub found_at : (make : spec.Envelope → Evidence) (p : spec.Envelope → Bool) (xs : List Envelope) (i : ℕ) (d : Envelope) (out : Vec ℕ) → i < length xs → find p (map envelope_view xs) ≡ find p (map envelope_view (drop i xs)) → p (envelope_view (get_or xs i d)) ≡ true
    → (out.items ≡ evidence_text (make (envelope_view (get_or xs i d)))) × LongPartsFit (make (envelope_view (get_or xs i d))) → WritesOut (option_map make (find p (map envelope_view xs))) out
found_at make p xs i d out lt none_before passes written = (
  make (envelope_view (get_or xs i d)),
  ap (option_map make) (none_before ∙ find_here p xs i d lt ∙ ap (λ (b : Bool). cond b (Some (envelope_view (get_or xs i d))) (find p (map envelope_view (drop (i + 1) xs)))) passes),
  written.0,
  written.1,
)

pub passed_over : (p : spec.Envelope → Bool) (xs : List Envelope) (i : ℕ) (d : Envelope) → i < length xs → p (envelope_view (get_or xs i d)) ≡ false → find p (map envelope_view (drop i xs)) ≡ find p (map envelope_view (drop (i + 1) xs))
passed_over p xs i d lt fails = find_here p xs i d lt ∙ ap (λ (b : Bool). cond b (Some (envelope_view (get_or xs i d))) (find p (map envelope_view (drop (i + 1) xs)))) fails
