-- How a store is seen (this project's own). No public clause cites this module.
use Rattle.cp_core.specs.View.{Standing}
use Rattle.cp_store.specs.declared.store.Body.{Body}
use Rattle.cp_store.specs.declared.store.Body.TheVariants.{Core, Shards}

-- whichever of the two it is
abbrev pub standing_in : Body → Standing
standing_in (Core x) = x
standing_in (Shards x) = x
