-- The keys of two envelopes that show guilt together.
use Rattle.std.proofs.Common.{◌≡◌, ℕ, Bool, true, false, eqb, not, ◌&&◌, List, Option, Some, None, refl, ap, ◌∙◌, arith}
use Rattle.std.specs.Prelude.{bytes_eq, option_map}
use Rattle.std.specs.Cmp.{IsEquivalence, eq_by_cmp_equiv, nat_cmp_total, on_total, then_total}
use Rattle.std.specs.declared.cmp.Ordering.{Ordering}
use Rattle.std.specs.Ordering.{nat_cmp, ordering_then, is_eq}
use Rattle.lms_tree.specs.Verifying.{leaf_of}
use Rattle.cp_statements.specs.Attestation.{Attestation}
use Rattle.cp_statements.specs.Envelope.{Envelope}
use Rattle.cp_evidence.specs.Conditions.{attestation_by}
use Rattle.cp_evidence.specs.Verdict.{clash, some_and, same_leaf, same_place}
use Rattle.cp_audit.specs.Firsts.{differ, leaf_key, place_cmp, place_in, place_key, same_by}
use Rattle.cp_audit.specs.declared.clash.Place.{Place}

-- ---- equal numbers

eqb_back : (a b : ℕ) → eqb a b ≡ eqb b a
eqb_back a b = grind arith

same_number : (a b : ℕ) → is_eq (nat_cmp a b) ≡ eqb b a
same_number a b = grind arith

is_eq_then : (a b : Ordering) → is_eq (ordering_then a b) ≡ is_eq a && is_eq b
is_eq_then a b = grind arith

pub leaf_laws : IsEquivalence (same_by nat_cmp)
leaf_laws = eq_by_cmp_equiv nat_cmp_total

pub place_laws : IsEquivalence (same_by place_cmp)
place_laws = eq_by_cmp_equiv (then_total (on_total (λ (p : Place). p.block) nat_cmp_total) (on_total (λ (p : Place). p.position) nat_cmp_total))

-- ---- what clashes

clash_alike : (wrong other : Envelope → Envelope → Bool) → ((x y : Envelope) → wrong x y ≡ other x y) → (xs ys : List Envelope) → clash wrong xs ys ≡ clash other xs ys
clash_alike wrong other e xs ys = λ i. clash (λ x y. e x y i) xs ys

leaf_differs : (x y : Envelope) → differ (same_by nat_cmp) leaf_key x y ≡ same_leaf x y
leaf_differs x y = ap (λ (b : Bool). b && not (bytes_eq x.text y.text)) (same_number (leaf_of y.signature) (leaf_of x.signature))

pub leaf_clash_is : (xs ys : List Envelope) → clash (differ (same_by nat_cmp) leaf_key) xs ys ≡ clash same_leaf xs ys
leaf_clash_is = clash_alike (differ (same_by nat_cmp) leaf_key) same_leaf leaf_differs

same_place_at : (a b : Attestation) → same_by place_cmp (place_in b) (place_in a) ≡ (eqb a.block b.block && eqb a.position b.position)
same_place_at a b = is_eq_then (nat_cmp b.block a.block) (nat_cmp b.position a.position) ∙ ap (λ (t : Bool). t && is_eq (nat_cmp b.position a.position)) (same_number b.block a.block) ∙ ap (λ (t : Bool). eqb a.block b.block && t) (same_number b.position a.position)

and_in : (a b c : Bool) → (a && b) && c ≡ a && (b && c)
and_in true b c = refl
and_in false b c = refl

place_differs : (store : List ℕ) (x y : Envelope) → differ (same_by place_cmp) (place_key store) x y ≡ same_place store x y
place_differs store x y = go (attestation_by store x.text) (attestation_by store y.text)
  where
    d : Bool
    d = not (bytes_eq x.text y.text)

    go : (m n : Option Attestation) → some_and (option_map place_in n) (λ k. some_and (option_map place_in m) (same_by place_cmp k) && d) ≡ some_and m (λ a. some_and n (λ b. eqb a.block b.block && (eqb a.position b.position && d)))
    go None None = refl
    go None (Some b) = refl
    go (Some a) None = refl
    go (Some a) (Some b) = ap (λ (t : Bool). t && d) (same_place_at a b) ∙ and_in (eqb a.block b.block) (eqb a.position b.position) d

pub place_clash_is : (store : List ℕ) (xs ys : List Envelope) → clash (differ (same_by place_cmp) (place_key store)) xs ys ≡ clash (same_place store) xs ys
place_clash_is store = clash_alike (differ (same_by place_cmp) (place_key store)) (same_place store) (place_differs store)
