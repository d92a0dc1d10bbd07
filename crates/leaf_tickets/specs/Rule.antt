-- The rule of the counter, and what each step on it tells. All of it is this project's own.
use Rattle.std.specs.Prelude.{◌≡◌, ℕ, ◌+◌, ◌≤◌, ◌==◌, List, [], ◌∷◌, ◌++◌, sum_by, MatchBool}
use mathlib.Core.Option.{some}
use lib.ListN.{get_elem?}
use Rattle.atomic_table.specs.Table.{State, Me, Step}
use Rattle.leaf_tickets.specs.declared.view.View.{View}
use Rattle.leaf_tickets.specs.Models.{times, once_from}

abbrev pub view : ℕ → List ℕ → ℕ → View
view parts drawn found = record { parts = parts; drawn = drawn; found = found }

abbrev pub newcomer : View
newcomer = view 0 [] 0

abbrev pub Sitting : Type 0
Sitting = Me Unit View

-- the views have drawn together the numbers from start on that are below the counter, each once, and none has found a higher counter
pub record DrawnOnce (start seats : ℕ) (s : State Unit View) : Type 0 where
  pub count : ℕ
  pub counter : s.words ≡ count ∷ []
  pub from : start ≤ count
  pub parts : sum_by (λ v. v.parts) s.views ≡ seats
  pub once : (x : ℕ) → sum_by (λ v. times x v.drawn) s.views ≡ once_from start x count
  pub idle : (j : ℕ) (v : View) → get_elem? s.views j ≡ some v → v.parts ≡ 0 → v.drawn ≡ []
  pub low : (j : ℕ) (v : View) → get_elem? s.views j ≡ some v → v.found ≤ count

-- the counter n was found
abbrev pub Looked : Step Unit → Sitting → ℕ → Sitting → Type 0
Looked st m n m' = (m' ≡ (view m.0.parts m.0.drawn n, m.1)) × (m.0.found ≤ n)

-- the counter n was found, and drawn where it was the one expected
abbrev pub Drew : Step Unit → Sitting → ℕ → Sitting → Type 0
Drew st m n m' = (m.0.found ≤ n) × MatchBool (n == st.first)
    ((m' ≡ (view m.0.parts (m.0.drawn ++ n ∷ []) (n + 1), m.1)) × (times n m.0.drawn ≡ 0))
    (m' ≡ (view m.0.parts m.0.drawn n, m.1))

abbrev pub Arrived : Step Unit → Sitting → ℕ → Sitting → Type 0
Arrived st m n m' = m'.0 ≡ newcomer
