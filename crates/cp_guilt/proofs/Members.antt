-- Members of lists that begin with known elements.
use Rattle.std.proofs.Common.{ℕ, suc, List, ◌∷◌, refl, arith}
use Rattle.std.specs.Prelude.{Contains}
use Rattle.std.specs.List.{AllByRecursion}
use Rattle.std.proofs.lemmas.List.Elements.{recursion_from_All, All-contains_itself, All-weaker}

pub first_of_list : (x : List ℕ) (xs : List (List ℕ)) → Contains (x ∷ xs) x
first_of_list x xs = (0, omega arith, refl)

pub second_of_list : (x y : List ℕ) (xs : List (List ℕ)) → Contains (x ∷ (y ∷ xs)) y
second_of_list x y xs = (1, omega arith, refl)

pub behind_first : (x y : List ℕ) (xs : List (List ℕ)) → Contains xs y → Contains (x ∷ xs) y
behind_first x y xs c = (suc c.0, omega (arith, c.1), c.2)

-- what holds of each member holds of all
pub all_contained : (P : List ℕ → Type 0) (xs : List (List ℕ)) → ((t : List ℕ) → Contains xs t → P t) → AllByRecursion P xs
all_contained P xs h = recursion_from_All P xs (All-weaker (Contains xs) P h xs (All-contains_itself xs))
