-- What the closing of a store by shards has come to (this project's own). No public clause cites this
-- module.
use Rattle.std.specs.Prelude.{ℕ, ◌+◌, ◌≡◌, List, [], ◌∷◌, ◌++◌, Some, ◌==◌, if◌then◌else◌}
use Rattle.cp_chain.specs.Log.{log_text}
use Rattle.cp_core.specs.Frozen.{Part, frozen_part}
use Rattle.cp_core.specs.Honest.{last_of}
use Rattle.cp_core.specs.declared.item.Item.TheVariants.{Frozen}
use Rattle.cp_core.specs.Machine.{State, step, run_from}
use Rattle.cp_core.specs.Sealing.{families_at}
use Rattle.cp_core.specs.Store.{Store, StoreFits}
use Rattle.cp_core.specs.declared.event.Event.TheVariants.{Seal, Publish}
use Rattle.cp_core.specs.declared.phase.Phase.{Phase}
use Rattle.cp_core.specs.declared.phase.Phase.TheVariants.{Running, Half, Full}
use Rattle.cp_closer.specs.Closer.{CloserState, after_take, seal_item}
use Rattle.cp_closer.specs.Laws.{log_at}
use Rattle.cp_closer.specs.declared.sealed_text.SealedText.{SealedText}
use Rattle.cp_shard.specs.Model.{ShardModel}
use Rattle.cp_store.specs.Closes.{freezes_below}
use Rattle.cp_store.specs.Running.{HasFewLeaves}
use Rattle.cp_store.specs.Shards.{state_of, IsStanding}

-- the shard with one more freeze, which brings this list
abbrev pub frozen_shard : ShardModel → ℕ → List ℕ → ShardModel
frozen_shard x e next = record x { items = x.items ++ Frozen e next ∷ [] }

-- the part that it hands over then
abbrev pub part_with : ShardModel → ℕ → List ℕ → Part
part_with x e next = frozen_part x.index (x.items ++ Frozen e next ∷ []) e

-- the closer has taken it
abbrev pub IsTaken : CloserState → CloserState → ShardModel → ℕ → Type 0
IsTaken c d x e = d ≡ after_take c (part_with x e c.next)

-- the phase after so many freezes
abbrev pub phase_after : ℕ → ℕ → Phase
phase_after e k = if k == 16 then Full e else Half e k

-- the store, which stood so when the closing had begun, stands as after the first freezes
pub record IsFrozenTo (s : Store) (st : State) (shards : List ShardModel) (c : CloserState) (n e k : ℕ) : Type 0 where
  pub standing : IsStanding s shards c n
  pub phase : c.phase ≡ phase_after e k
  pub state : state_of shards c n ≡ run_from s st (freezes_below k)

-- they are the shards and the closer of some store, which has come so far
pub record AreFrozenTo (shards : List ShardModel) (c : CloserState) (e k : ℕ) : Type 0 where
  pub store : Store
  pub state : State
  pub drawn : ℕ
  pub fits : StoreFits store
  pub few : HasFewLeaves store
  pub frozen : IsFrozenTo store state shards c drawn e k

-- the store, which stood so when the closing had begun, stands as after all of it
pub record IsFinished (s : Store) (st : State) (shards : List ShardModel) (c : CloserState) (n e : ℕ) (sealed : SealedText) : Type 0 where
  pub standing : IsStanding s shards c n
  pub phase : c.phase ≡ Running (e + 1)
  pub state : state_of shards c n ≡ (step s (step s (run_from s st (freezes_below 16)) Seal).1 Publish).1
  pub kept : c.next ≡ st.kept
  pub seal : last_of c.seals ≡ Some (seal_item e (families_at s st.life e) sealed)
  pub log : sealed.log ≡ log_text (log_at (state_of shards c n).life e)

-- ---- between the shards and closer of before and those of afterwards

-- a store that has come to the first freeze has come through the last one
abbrev pub FreezesAll : List ShardModel → CloserState → List ShardModel → CloserState → ℕ → Type 0
FreezesAll old c new d e = (s : Store) (st : State) (n : ℕ) → StoreFits s → HasFewLeaves s → IsFrozenTo s st old c n e 0 → IsFrozenTo s st new d n e 16

-- a store that has come to the first freeze has come to the next epoch
abbrev pub Finishes : List ShardModel → CloserState → List ShardModel → CloserState → ℕ → SealedText → Type 0
Finishes old c new d e sealed = (s : Store) (st : State) (n : ℕ) → StoreFits s → HasFewLeaves s → IsFrozenTo s st old c n e 0 → IsFinished s st new d n e sealed
