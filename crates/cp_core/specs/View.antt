-- What contracts see of the plain store.
use Rattle.cp_core.specs.Store.{Store}
use Rattle.cp_core.specs.Machine.{State, opening}
use Rattle.cp_core.specs.declared.machine.Machine.{Machine}

-- what it was made with
abbrev pub store_view : Machine → Store
store_view m = record { id = m.store; families = m.families; attestations = m.attestations; closings = m.closings; pages = m.pages }

-- and how it stands
abbrev pub state_view : Machine → State
state_view m = record { life = m.life; contents = m.contents.items; phase = m.phase; published = m.published; kept = m.kept; drawn = m.drawn }

-- both together
pub record Standing : Type 0 where
  pub store : Store
  pub state : State

-- a store before any event
abbrev pub opened : Store → Standing
opened s = record { store = s; state = opening s }
