-- The numbers that a seat has drawn ascend as its found number rises.
use Rattle.std.proofs.Common.{◌≡◌, ℕ, ◌+◌, ◌≤◌, ◌==◌, Bool, true, false, List, [], ◌∷◌, ◌++◌, sym, subst, arith}
use Rattle.std.specs.Prelude.{MatchBool}
use Rattle.leaf_tickets.specs.Models.{Ascends, AscendsFrom, times}
use Rattle.leaf_tickets.specs.Rule.{Sitting, view}

stays : (low : ℕ) (xs : List ℕ) (found higher : ℕ) → found ≤ higher → AscendsFrom low xs found → AscendsFrom low xs higher
unfolding AscendsFrom
stays low [] found higher rise is = omega (arith, rise, is)
stays low (x ∷ xs) found higher rise is = (is.0, stays (x + 1) xs found higher rise is.1)

goes_on : (low : ℕ) (xs : List ℕ) (found next : ℕ) → found ≤ next → AscendsFrom low xs found → AscendsFrom low (xs ++ next ∷ []) (next + 1)
unfolding AscendsFrom
goes_on low [] found next rise is = (omega (arith, rise, is), omega arith)
goes_on low (x ∷ xs) found next rise is = (is.0, goes_on (x + 1) xs found next rise is.1)

-- the seat has drawn nothing
pub idle : (xs : List ℕ) (found : ℕ) → xs ≡ [] → Ascends xs found
unfolding AscendsFrom
idle xs found none = subst (λ (l : List ℕ). AscendsFrom 0 l found) (sym none) (omega arith)

-- the seat found the counter n
pub looked : (m after : Sitting) (n : ℕ) → after ≡ (view m.0.parts m.0.drawn n, m.1) → m.0.found ≤ n → Ascends m.0.drawn m.0.found → Ascends after.0.drawn after.0.found
looked m after n found rise is = subst (λ (k : Sitting). Ascends k.0.drawn k.0.found) (sym found) (stays 0 m.0.drawn m.0.found n rise is)

-- the seat found the counter n, and drew it where it was the one expected
pub drew : (m after : Sitting) (n expected : ℕ) → m.0.found ≤ n
    → MatchBool (n == expected) ((after ≡ (view m.0.parts (m.0.drawn ++ n ∷ []) (n + 1), m.1)) × (times n m.0.drawn ≡ 0)) (after ≡ (view m.0.parts m.0.drawn n, m.1))
    → Ascends m.0.drawn m.0.found → Ascends after.0.drawn after.0.found
drew m after n expected rise found is = by_test (n == expected) found
  where
    by_test : (b : Bool) → MatchBool b ((after ≡ (view m.0.parts (m.0.drawn ++ n ∷ []) (n + 1), m.1)) × (times n m.0.drawn ≡ 0)) (after ≡ (view m.0.parts m.0.drawn n, m.1))
        → Ascends after.0.drawn after.0.found
    by_test true drawn = subst (λ (k : Sitting). Ascends k.0.drawn k.0.found) (sym drawn.0) (goes_on 0 m.0.drawn m.0.found n rise is)
    by_test false same = looked m after n same rise is
