-- The leaves of a range.
use Rattle.std.specs.Prelude.{ℕ, ◌≤◌, ◌<◌, List}

-- the leaves of the key with this id, from one number on and below another
pub record Range : Type 0 where
  pub key : List ℕ
  pub from : ℕ
  pub to : ℕ

-- the leaf is one of them
abbrev pub IsIn : ℕ → Range → Type 0
IsIn leaf range = (range.from ≤ leaf) × (leaf < range.to)
