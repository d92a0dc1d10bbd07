-- What every store keeps (this project's own).
use Rattle.std.specs.Prelude.{ℕ, ◌+◌, ◌<◌, ◌≤◌, ◌^◌, ◌≡◌, List}
use Rattle.cp_core.specs.Store.{Store, StoreFits}
use Rattle.cp_core.specs.View.{Standing, opened}
use Rattle.cp_core.specs.declared.phase.Phase.{Phase}
use Rattle.cp_core.specs.declared.phase.Phase.TheVariants.{Running}

-- no closing has begun
abbrev pub IsRunning : Phase → Type 0
IsRunning phase = (e : ℕ) × (phase ≡ Running e)

-- the leaves have numbers of four bytes, and so few rows that each log has room for its counts
pub record HasFewLeaves (s : Store) : Type 0 where
  pub leaves : s.attestations + s.closings < 2 ^ 32
  pub few : s.attestations ≤ 2 ^ 27

pub record IsOpen (x : Standing) : Type 0 where
  pub running : IsRunning x.state.phase
  pub fits : StoreFits x.store
  pub few : HasFewLeaves x.store

-- a store before any event, made with these
abbrev pub made_with : List ℕ → List ℕ → ℕ → ℕ → ℕ → Standing
made_with id families attestations closings pages = opened (record { id = id; families = families; attestations = attestations; closings = closings; pages = pages })
