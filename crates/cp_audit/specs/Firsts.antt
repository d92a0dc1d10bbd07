-- What is kept of the envelopes that were passed: of each key the first one (this project's own).
use Rattle.std.specs.Prelude.{ℕ, ◌≡◌, true, Bool, List, ◌++◌, Option, Some, None, option_map, ◌&&◌, not, bytes_eq, cond, is_none, Result, IfOk, OnOk}
use Rattle.std.specs.List.{AllByRecursion, find}
use Rattle.std.specs.declared.cmp.Ordering.{Ordering}
use Rattle.std.specs.Ordering.{nat_cmp, ordering_then}
use Rattle.std.specs.BTreeMap.{BTreeMap, get, is_at}
use Rattle.lms_tree.specs.Verifying.{leaf_of}
use Rattle.cp_statements.specs.Attestation.{Attestation}
use Rattle.cp_statements.specs.Envelope.{Envelope}
use Rattle.cp_statements.specs.View.{envelope_view}
use Rattle.cp_statements.specs.declared.envelope.Envelope as code
use Rattle.cp_evidence.specs.Conditions.{attestation_by}
use Rattle.cp_evidence.specs.Verdict.{clash, some_and}
use Rattle.cp_evidence.specs.declared.two.Two.{Two}
use Rattle.cp_audit.specs.declared.clash.Place.{Place}

-- the envelope has the key
abbrev pub has : {K : Type 0} → (K → K → Bool) → (Envelope → Option K) → K → Envelope → Bool
has same key k x = some_and (key x) (same k)

-- the envelope has this key, and another text than y
abbrev pub differs_at : {K : Type 0} → (K → K → Bool) → (Envelope → Option K) → Option K → Envelope → Envelope → Bool
differs_at same key o y x = some_and o (λ k. has same key k x && not (bytes_eq x.text y.text))

-- one key with two texts
abbrev pub differ : {K : Type 0} → (K → K → Bool) → (Envelope → Option K) → Envelope → Envelope → Bool
differ same key x y = differs_at same key (key y) y x

-- of each key the first of these envelopes is kept, and each of them has the text of the one that is
-- kept of its key
pub record KeepsFirsts {K : Type 0} (same : K → K → Bool) (key : Envelope → Option K) (xs : List Envelope) (kept : K → Option Envelope) : Type 0 where
  pub first : (k : K) → kept k ≡ find (has same key k) xs
  pub texts : (k : K) → AllByRecursion (λ x. has same key k x ≡ true → (f : Envelope) × (kept k ≡ Some f) × (f.text ≡ x.text)) xs

-- ---- the next one

abbrev pub only_other : Envelope → Option Envelope → Option Envelope
only_other y None = None
only_other y (Some f) = cond (bytes_eq f.text y.text) None (Some f)

-- the one that is kept of the key, where it has another text
abbrev pub other_at : {K : Type 0} → (K → Option Envelope) → Option K → Envelope → Option Envelope
other_at kept None y = None
other_at kept (Some k) y = only_other y (kept k)

-- what is kept with the next one, which has this key
abbrev pub kept_with : {K : Type 0} → (K → K → Bool) → (K → Option Envelope) → Option K → Envelope → K → Option Envelope
kept_with same kept None y q = kept q
kept_with same kept (Some k) y q = cond (is_none (kept k) && same k q) (Some y) (kept q)

-- ---- what a map keeps

abbrev pub kept_in : {K : Type 0} → (K → K → Ordering) → BTreeMap K code.Envelope → K → Option Envelope
kept_in cmp m k = option_map envelope_view (get cmp m k)

abbrev pub same_by : {K : Type 0} → (K → K → Ordering) → K → K → Bool
same_by cmp k q = is_at (cmp k) q

abbrev pub pair_view : Two → Envelope × Envelope
pair_view t = (envelope_view t.x, envelope_view t.y)

-- ---- the keys

abbrev pub leaf_key : Envelope → Option ℕ
leaf_key x = Some (leaf_of x.signature)

abbrev pub place_in : Attestation → Place
place_in a = record { block = a.block; position = a.position }

abbrev pub place_key : List ℕ → Envelope → Option Place
place_key store x = option_map place_in (attestation_by store x.text)

abbrev pub place_cmp : Place → Place → Ordering
place_cmp a b = ordering_then (nat_cmp a.block b.block) (nat_cmp a.position b.position)

-- ---- what a search answers; want of memory says nothing

-- this pair, or none
abbrev pub FindsPair : {E : Type 0} → Option (Envelope × Envelope) → Result (Option Two) E → Type 0
FindsPair pair result = IfOk result (λ two. option_map pair_view two ≡ pair)

-- the envelope that is kept of the key, where it has another text than y
abbrev pub FindsOther : {K E : Type 0} → (K → K → Ordering) → BTreeMap K code.Envelope → Option K → Envelope → Result (Option code.Envelope) E → Type 0
FindsOther cmp kept key y result = IfOk result (λ first. option_map envelope_view first ≡ other_at (kept_in cmp kept) key y)

-- the next one, y, is kept of its key
abbrev pub KeepsNext : {K A E : Type 0} → (K → K → Ordering) → BTreeMap K code.Envelope → BTreeMap K code.Envelope → Option K → Envelope → Result A E → Type 0
KeepsNext {K = K} cmp before after key y result = OnOk result ((q : K) → kept_in cmp after q ≡ kept_with (same_by cmp) (kept_in cmp before) key y q)

-- the first two texts of one leaf; the first list is what is before the second
abbrev pub leaf_clash : List Envelope → List Envelope → Option (Envelope × Envelope)
leaf_clash earlier xs = clash (differ (same_by nat_cmp) leaf_key) earlier xs

-- the map keeps the first envelope of each leaf
abbrev pub KeepsLeaves : List Envelope → BTreeMap ℕ code.Envelope → Type 0
KeepsLeaves xs kept = KeepsFirsts (same_by nat_cmp) leaf_key xs (kept_in nat_cmp kept)

-- so it does where no pair is found
abbrev pub KeepsWhereNone : {E : Type 0} → List Envelope → BTreeMap ℕ code.Envelope → Result (Option Two) E → Type 0
KeepsWhereNone xs kept result = IfOk result (λ two. two ≡ None → KeepsLeaves xs kept)

-- the first two texts of one leaf, where the map keeps the earlier envelopes
abbrev pub FindsLeafClash : {E : Type 0} → BTreeMap ℕ code.Envelope → List Envelope → Result (Option Two) E → Type 0
FindsLeafClash before xs result = IfOk result (λ two. (earlier : List Envelope) → KeepsLeaves earlier before → option_map pair_view two ≡ leaf_clash earlier xs)

-- the map keeps these with the earlier envelopes, where no pair is found
abbrev pub KeepsMoreLeaves : {E : Type 0} → BTreeMap ℕ code.Envelope → BTreeMap ℕ code.Envelope → List Envelope → Result (Option Two) E → Type 0
KeepsMoreLeaves before after xs result = IfOk result (λ two. (earlier : List Envelope) → KeepsLeaves earlier before → two ≡ None → KeepsLeaves (earlier ++ xs) after)
