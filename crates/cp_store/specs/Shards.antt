-- What a store by shards and a closer is (this project's own). No public clause cites this module.
use Rattle.std.specs.Prelude.{ℕ, ◌-◌, ◌<◌, ◌≡◌, ◌==◌, List, [], length, map, filter, flat_map, get_or}
use Rattle.cp_core.specs.Store.{Store}
use Rattle.cp_core.specs.Life.{shard_of}
use Rattle.cp_core.specs.Machine.{State}
use Rattle.cp_core.specs.Kept.{Keeps}
use Rattle.cp_core.specs.declared.content.Content.{Content}
use Rattle.cp_core.specs.declared.item.Item.{Item}
use Rattle.cp_closer.specs.Closer.{CloserState, epoch_of}
use Rattle.cp_closer.specs.Laws.{IsCloserOf}
use Rattle.cp_shard.specs.Model.{ShardModel}

-- the shard was made for the store, as the one with this number
pub record IsMade (s : Store) (k : ℕ) (x : ShardModel) : Type 0 where
  pub store : x.store ≡ s.id
  pub index : x.index ≡ k
  pub pages : x.pages ≡ s.pages
  pub closings : x.closings ≡ s.closings
  pub first : x.first ≡ s.families

-- the store's sixteen shards
pub record AreMade (s : Store) (shards : List ShardModel) : Type 0 where
  pub sixteen : length shards ≡ 16
  pub each : (k : ℕ) (d : ShardModel) → k < 16 → IsMade s k (get_or shards k d)

-- the contents of a shard's own blocks
abbrev pub own_contents : ShardModel → List Content
own_contents x = filter (λ c. shard_of c.block == x.index) x.contents

abbrev pub items_in : List ShardModel → List (List Item)
items_in shards = map (λ x. x.items) shards

-- how the store stands: its life are the shards' items and the closer's seals
abbrev pub state_of : List ShardModel → CloserState → ℕ → State
state_of shards c drawn = record {
  life = record { shards = items_in shards; seals = c.seals };
  contents = flat_map own_contents shards;
  phase = c.phase;
  published = epoch_of c.phase - 1;
  kept = c.next;
  drawn = drawn;
}

-- The shards are the store's, its life is honest, and the closer is that of this life.
pub record IsStanding (s : Store) (shards : List ShardModel) (c : CloserState) (drawn : ℕ) : Type 0 where
  pub made : AreMade s shards
  pub keeps : Keeps s (state_of shards c drawn)
  pub closer : IsCloserOf s (state_of shards c drawn).life c

-- a shard without an item
abbrev pub blank_shard : List ℕ → ℕ → ℕ → List ℕ → ℕ → ShardModel
blank_shard id pages closings first k = record { store = id; index = k; pages = pages; closings = closings; first = first; items = []; contents = [] }
