-- What `accept` does to a door's connections (this project's own).
use Rattle.std.specs.Prelude.{◌≡◌, ℕ, ◌+◌, List, [], ◌∷◌, Option, Some, None, Result, Ok, Err, IfSome}
use Rattle.std.specs.Option.{option_map}

-- The first of the connections to come was handed out and left the list; none is handed out only
-- where none is to come. In every other case the list stays.
abbrev pub HandsOut : {C E : Type 0} → Option (List C) → Option (List C) → Result (Option C) E → Type 0
HandsOut old new (Ok (Some conn)) = old ≡ option_map (λ conns. conn ∷ conns) new
HandsOut old new (Ok None) = (new ≡ old) × IfSome old (λ conns. conns ≡ [])
HandsOut old new (Err fault) = new ≡ old

-- The number of connections that are handed out rises by the one that was handed out.
abbrev pub CountsHandedOut : {C E : Type 0} → ℕ → ℕ → Result (Option C) E → Type 0
CountsHandedOut old new (Ok (Some conn)) = new ≡ old + 1
CountsHandedOut old new (Ok None) = new ≡ old
CountsHandedOut old new (Err fault) = new ≡ old
