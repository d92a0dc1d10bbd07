-- What a running store keeps beside the honesty of its life (this project's own).
use Rattle.std.specs.Prelude.{ℕ, ◌+◌, ◌<◌, ◌≤◌, ◌≡◌, List, [], length, get_or}
use Rattle.sha2.specs.Sha256.{sha256}
use Rattle.cp_chain.specs.Legal.{Put}
use Rattle.cp_core.specs.Store.{Store, SpellsFamilies}
use Rattle.cp_core.specs.Life.{RowItem, rows_in, freezes, list_text, items_of}
use Rattle.cp_core.specs.Calls.{latest_of, content_at}
use Rattle.cp_core.specs.Machine.{State}
use Rattle.cp_core.specs.Honest.{RowAt, Honest}
use Rattle.cp_core.specs.declared.item.Item.{Item}
use Rattle.cp_core.specs.declared.chronicle.Chronicle.{Chronicle}
use Rattle.cp_core.specs.declared.phase.Phase.{Phase}
use Rattle.cp_core.specs.declared.phase.Phase.TheVariants.{Running, Half, Full, Sealed}

-- all shards have one list of epoch e
abbrev pub Agree : Store → Chronicle → ℕ → Type 0
Agree s r e = (k : ℕ) → k < 16 → list_text s.families (get_or r.shards k []) e ≡ list_text s.families (get_or r.shards 0 []) e

-- the kept list is that of the epoch after e in the first j shards
abbrev pub HaveNext : Store → Chronicle → ℕ → ℕ → List ℕ → Type 0
HaveNext s r e j kept = (k : ℕ) → k < j → list_text s.families (get_or r.shards k []) (e + 1) ≡ kept

-- How many freezes each shard has in a phase, how many seals there are, how many are published, and
-- whose the kept list is: all shards have frozen the epochs before, and the first ones of a half this
-- epoch too, with the kept list for the next; where no closing has begun the kept list is the epoch's.
abbrev pub PhaseFits : Store → Chronicle → List ℕ → Phase → ℕ → Type 0
PhaseFits s r kept (Running e) published = ((k : ℕ) → k < 16 → freezes (get_or r.shards k []) + 1 ≡ e) × (length r.seals + 1 ≡ e) × (published + 1 ≡ e) × HaveNext s r published 16 kept
PhaseFits s r kept (Half e j) published = ((k : ℕ) → k < j → freezes (get_or r.shards k []) ≡ e) × ((k : ℕ) → j ≤ k → k < 16 → freezes (get_or r.shards k []) + 1 ≡ e) × (j < 16) × (length r.seals + 1 ≡ e) × (e ≤ s.closings) × (published + 1 ≡ e) × Agree s r e × HaveNext s r e j kept
PhaseFits s r kept (Full e) published = ((k : ℕ) → k < 16 → freezes (get_or r.shards k []) ≡ e) × (length r.seals + 1 ≡ e) × (e ≤ s.closings) × (published + 1 ≡ e) × Agree s r e × HaveNext s r e 16 kept
PhaseFits s r kept (Sealed e) published = ((k : ℕ) → k < 16 → freezes (get_or r.shards k []) ≡ e) × (length r.seals ≡ e) × (e ≤ s.closings) × (published + 1 ≡ e) × HaveNext s r e 16 kept

-- the content has the put's hash; at version 0, where nothing was put, it is empty
pub record IsContentOf (put : Put) (content : List ℕ) : Type 0 where
  pub at_first : put.version ≡ 0 → content ≡ []
  pub hashed : 1 ≤ put.version → sha256 content ≡ put.content

-- The life is honest, the phase fits it, the kept list spells families, each row's leaf is drawn and no
-- shard has more rows than leaves are drawn, and each block's latest content is that of its latest put.
pub record Keeps (s : Store) (st : State) : Type 0 where
  pub honest : Honest s st.life
  pub phase : PhaseFits s st.life st.kept st.phase st.published
  pub kept : SpellsFamilies st.kept
  pub drawn : (k : ℕ) (front : List Item) (row : RowItem) → RowAt st.life k front row → row.leaf < st.drawn
  pub drawn_within : st.drawn ≤ s.attestations
  pub counted : (k : ℕ) → k < 16 → length (rows_in (get_or st.life.shards k [])) ≤ st.drawn
  pub contents : (b : ℕ) → IsContentOf (latest_of (items_of st.life b) b) (content_at st.contents b)
