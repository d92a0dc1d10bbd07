-- The laws of the closer: the closing of a store is its life's (this project's own).
use Rattle.std.specs.Prelude.{ℕ, zero, suc, ◌+◌, ◌-◌, ◌^◌, ◌<◌, ◌≤◌, ◌≡◌, List, [], ◌∷◌, ◌++◌, length, map, flat_map, get_or, Option, Ok, Err, ◌==◌, if◌then◌else◌}
use Rattle.std.specs.List.{AllByRecursion}
use Rattle.cp_chain.specs.Log.{Log, log_text}
use Rattle.cp_core.specs.Store.{Store}
use Rattle.cp_core.specs.Life.{rows_in, freezes, list_text, in_epoch, entries, items_of}
use Rattle.cp_core.specs.Kept.{HaveNext}
use Rattle.cp_core.specs.Machine.{next_or}
use Rattle.cp_core.specs.Sealing.{families_at, seal_at}
use Rattle.cp_core.specs.Honest.{StandsRightly}
use Rattle.cp_core.specs.Frozen.{blocks_in, frozen_part}
use Rattle.cp_core.specs.declared.chronicle.Chronicle.{Chronicle}
use Rattle.cp_core.specs.declared.item.Item.{Item}
use Rattle.cp_core.specs.declared.close_refusal.CloseRefusal.TheVariants.{ClosingsOver}
use Rattle.cp_core.specs.declared.phase.Phase.{Phase}
use Rattle.cp_core.specs.declared.phase.Phase.TheVariants.{Running, Half, Full, Sealed}
use Rattle.cp_core.specs.Frozen.{Part}
use Rattle.cp_closer.specs.Taken.{put_all, tips_of}
use Rattle.cp_closer.specs.Closer.{CloserState, epoch_of, opening, begin_answer, after_begin, IsNextPart, after_take, sealed_now, seal_item, after_seal, after_publish}
use Rattle.cp_closer.specs.Kept.{taken_in}

-- ---- a closer of a life

-- the parts of the first shards of an epoch
abbrev pub parts_below : List (List Item) → ℕ → ℕ → List Part
parts_below shards n zero = []
parts_below shards n (suc k) = parts_below shards n k ++ frozen_part k (get_or shards k []) n ∷ []

-- the parts of all shards of the first epochs
abbrev pub parts_up_to : List (List Item) → ℕ → List Part
parts_up_to shards zero = []
parts_up_to shards (suc n) = parts_up_to shards n ++ parts_below shards (suc n) 16

-- the number of epochs that are sealed
abbrev pub sealed_in : Phase → ℕ
sealed_in (Running e) = e - 1
sealed_in (Half e k) = e - 1
sealed_in (Full e) = e - 1
sealed_in (Sealed e) = e

-- The closer was made for the store, has taken just the parts that the shards of this life hand over, and
-- has the life's seals and its epoch's list in each shard.
pub record IsCloserOf (s : Store) (r : Chronicle) (c : CloserState) : Type 0 where
  pub store : c.store ≡ s.id
  pub leaves : c.leaves ≡ s.attestations + s.closings
  pub closings : c.closings ≡ s.closings
  pub seals : c.seals ≡ r.seals
  pub parts : c.parts ≡ parts_below r.shards (epoch_of c.phase) (taken_in c.phase)
  pub tips : c.tips ≡ put_all [] (flat_map tips_of (parts_up_to r.shards (sealed_in c.phase) ++ c.parts))
  pub list : (k : ℕ) → k < 16 → c.list ≡ list_text s.families (get_or r.shards k []) (epoch_of c.phase)

-- ---- what it seals

-- the log of an epoch: the entries of each block that has some in it, ascending by block
abbrev pub log_at : Chronicle → ℕ → Log
log_at r n = record { epoch = n; parts = map (λ b. record { block = b; texts = entries (in_epoch (items_of r b) b n) }) (blocks_in (flat_map rows_in r.shards) n) }

-- Of a life that stands rightly the closer makes the life's own seal: its closing has the tips of all blocks with an
-- entry up to the epoch's end, also those without one in it. Its log has the epoch's entries.
abbrev pub SealsTheLife : Type 0
SealsTheLife = (s : Store) (r : Chronicle) (c : CloserState) (e : ℕ) → StandsRightly r → IsCloserOf s r c → c.phase ≡ Full e → 1 ≤ e
    → (seal_item e c.list (sealed_now c) ≡ seal_at s r e) × ((sealed_now c).log ≡ log_text (log_at r e))

-- ---- each call follows the store's step

-- a new closer is one of a life without seals
abbrev pub OpensAlike : Type 0
OpensAlike = (s : Store) (r : Chronicle) → r.seals ≡ [] → IsCloserOf s r (opening s.id (s.attestations + s.closings) s.closings s.families)

-- The answer is that of the store's step, and where the closing begins, the list for the next epoch is the
-- one that the store keeps.
abbrev pub BeginsAlike : Type 0
BeginsAlike = (s : Store) (r : Chronicle) (c : CloserState) (e : ℕ) (next : Option (List ℕ)) → IsCloserOf s r c → c.phase ≡ Running e → length r.seals + 1 ≡ e
    → (begin_answer c e next ≡ (if e - 1 == s.closings then Err (ClosingsOver (e - 1) s.closings) else Ok tt)) × IsCloserOf s r (after_begin c next (begin_answer c e next))
    × ((after_begin c next (Ok tt)).next ≡ next_or next (families_at s r e))

abbrev pub TakesAlike : Type 0
TakesAlike = (s : Store) (r : Chronicle) (c : CloserState) (e k : ℕ) → IsCloserOf s r c → c.phase ≡ Half e k → IsCloserOf s r (after_take c (frozen_part k (get_or r.shards k []) e))

abbrev pub SealsAlike : Type 0
SealsAlike = (s : Store) (r : Chronicle) (c : CloserState) (e : ℕ) → StandsRightly r → IsCloserOf s r c → c.phase ≡ Full e → 1 ≤ e
    → IsCloserOf s (record r { seals = r.seals ++ seal_at s r e ∷ [] }) (after_seal c)

-- the next epoch has the list that the shards froze this one with
abbrev pub PublishesAlike : Type 0
PublishesAlike = (s : Store) (r : Chronicle) (c : CloserState) (e : ℕ) → IsCloserOf s r c → c.phase ≡ Sealed e → HaveNext s r e 16 c.next → IsCloserOf s r (after_publish c)

-- ---- a life that goes on

-- it has the same seals, and each shard has its items and may have more behind them
pub record IsContinuedBy (r more : Chronicle) : Type 0 where
  pub seals : more.seals ≡ r.seals
  pub items : (k : ℕ) → k < 16 → (rest : List Item) × (get_or more.shards k [] ≡ get_or r.shards k [] ++ rest)

-- each shard has frozen all epochs that are sealed, and also the one that is being closed where its part
-- of it was taken
pub record HaveFrozen (r : Chronicle) (phase : Phase) : Type 0 where
  pub sealed : (k : ℕ) → k < 16 → sealed_in phase ≤ freezes (get_or r.shards k [])
  pub taken : (k : ℕ) → k < taken_in phase → (k < 16) × (epoch_of phase ≤ freezes (get_or r.shards k []))

-- what the shards take on later does not matter: what they handed over stays
abbrev pub StaysAlike : Type 0
StaysAlike = (s : Store) (r more : Chronicle) (c : CloserState) → IsCloserOf s r c → HaveFrozen r c.phase → IsContinuedBy r more → StandsRightly more → IsCloserOf s more c

-- A part that a shard of the life hands over is one that can be taken: its texts have lengths of four
-- bytes, and the shard has at most 2^27 rows.
abbrev pub PartsFit : Type 0
PartsFit = (s : Store) (r : Chronicle) (c : CloserState) (e k : ℕ) → StandsRightly r → IsCloserOf s r c → c.phase ≡ Half e k → k < 16 → 1 ≤ e
    → AllByRecursion (λ row. length row.entry < 2 ^ 32) (rows_in (get_or r.shards k [])) → length (rows_in (get_or r.shards k [])) ≤ 2 ^ 27
    → IsNextPart c (frozen_part k (get_or r.shards k []) e)
