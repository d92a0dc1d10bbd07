-- What is said of each element and those before it.
use Rattle.std.specs.Prelude.{List, ◌∷◌, ◌++◌, ◌≡◌}

-- P holds of each element and those before it
abbrev pub Each : {X : Type 0} → (List X → X → Type 0) → List X → Type 0
Each {X} P xs = (front : List X) (x : X) (back : List X) → xs ≡ front ++ x ∷ back → P front x
