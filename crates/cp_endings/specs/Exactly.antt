-- What a status says (this project's own).
use Rattle.std.specs.Prelude.{ℕ, ◌≡◌, ◌⊎◌}

-- the status is this one, or a call failed, or memory was wanted
abbrev pub Unless : ℕ → ℕ → Type 0
Unless status wanted = (status ≡ wanted) ⊎ ((status ≡ 4) ⊎ (status ≡ 5))

-- The status is this one only where P holds, and where P holds it is this one, unless a call failed or
-- memory was wanted.
abbrev pub ExactlyWhere : ℕ → ℕ → Type 0 → Type 0
ExactlyWhere status wanted P = (status ≡ wanted → P) × (P → Unless status wanted)
