-- How a store by shards is seen, and what it keeps (this project's own). No public clause cites this
-- module.
use Rattle.cp_core.specs.Store.{Store}
use Rattle.cp_core.specs.View.{Standing}
use Rattle.cp_store.specs.Running.{IsOpen}
use Rattle.cp_store.specs.Shards.{state_of, IsStanding}
use Rattle.cp_store.specs.declared.sharded.Sharded.TheInside.{Inside}

abbrev pub store_of : Inside → Store
store_of a = record { id = a.store; families = a.families; attestations = a.attestations; closings = a.closings; pages = a.pages }

abbrev pub standing_of : Inside → Standing
standing_of a = record { store = store_of a; state = state_of a.shards.items a.closer a.leaves }

pub record IsSharded (a : Inside) : Type 0 where
  pub standing : IsStanding (store_of a) a.shards.items a.closer a.leaves
  pub between : IsOpen (standing_of a)
