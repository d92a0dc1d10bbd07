-- A new store by shards stands rightly.
use Rattle.std.proofs.Common.{◌≡◌, ℕ, zero, suc, ◌+◌, ◌<◌, List, [], ◌∷◌, length, map, get_or, refl, sym, ap, subst, ◌∙◌, inl, inr, arith}
use Rattle.std.proofs.lemmas.Bool.{cases_lt}
use Rattle.std.proofs.lemmas.List.{get_or-map, get_or_append_left, get_or_push}
use Rattle.cp_core.proofs.EventLemmas.{opens}
use Rattle.cp_core.specs.Leaves.{numbers_below}
use Rattle.cp_core.specs.Machine as machine
use Rattle.cp_core.specs.Machine.{State}
use Rattle.cp_core.specs.Kept.{Keeps}
use Rattle.cp_core.specs.Store.{Store, StoreFits}
use Rattle.cp_closer.proofs.Following.{opens_alike}
use Rattle.cp_closer.specs.Closer.{CloserState, opening}
use Rattle.cp_shard.specs.Model.{ShardModel}
use Rattle.cp_store.specs.Inside.{store_of, IsSharded}
use Rattle.cp_store.specs.declared.sharded.Sharded.TheInside.{Inside}
use Rattle.cp_store.specs.Running.{IsOpen, HasFewLeaves}
use Rattle.cp_store.specs.Shards.{IsMade, AreMade, state_of, IsStanding, blank_shard}
use Rattle.cp_store.proofs.Serving.{length-numbers}

number_at : (n k d : ℕ) → k < n → get_or (numbers_below n) k d ≡ k
number_at zero k d lt = absurd (omega (arith, lt))
number_at (suc n) k d lt = elim (cases_lt k n) [
  | inl less ↦ get_or_append_left (numbers_below n) (n ∷ []) d k (omega (arith, less, length-numbers n)) ∙ number_at n k d less
  | inr le ↦ let same : n ≡ k = omega (arith, lt, le) in get_or_push (numbers_below n) n d k (length-numbers n ∙ same) ∙ same
]

blanks_made : (s : Store) → AreMade s (map (blank_shard s.id s.pages s.closings s.families) (numbers_below 16))
blanks_made s = record { sixteen = refl; each = each }
  where
    each : (k : ℕ) (d : ShardModel) → k < 16 → IsMade s k (get_or (map (blank_shard s.id s.pages s.closings s.families) (numbers_below 16)) k d)
    each k d lt =
        subst (IsMade s k) (sym (get_or-map (blank_shard s.id s.pages s.closings s.families) (numbers_below 16) k 0 d lt ∙ ap (blank_shard s.id s.pages s.closings s.families) (number_at 16 k 0 lt)))
        (record { store = refl; index = refl; pages = refl; closings = refl; first = refl })

blank_state : (s : Store) → state_of (map (blank_shard s.id s.pages s.closings s.families) (numbers_below 16)) (opening s.id (s.attestations + s.closings) s.closings s.families) 0 ≡ machine.opening s
blank_state s = refl

blank_stands : (s : Store) → StoreFits s → IsStanding s (map (blank_shard s.id s.pages s.closings s.families) (numbers_below 16)) (opening s.id (s.attestations + s.closings) s.closings s.families) 0
blank_stands s fits = record {
  made = blanks_made s;
  keeps = subst (Keeps s) (sym (blank_state s)) (opens s fits);
  closer = opens_alike s (state_of (map (blank_shard s.id s.pages s.closings s.families) (numbers_below 16)) (opening s.id (s.attestations + s.closings) s.closings s.families) 0).life refl;
}

-- by what its parts were made as
pub record IsNew (s : Store) (shards : List ShardModel) (c : CloserState) (n : ℕ) : Type 0 where
  pub standing : IsStanding s shards c n
  pub state : state_of shards c n ≡ machine.opening s

pub opened : (s : Store) (shards : List ShardModel) (c : CloserState) (n : ℕ) → StoreFits s → shards ≡ map (blank_shard s.id s.pages s.closings s.families) (numbers_below 16) → c ≡ opening s.id (s.attestations + s.closings) s.closings s.families → n ≡ 0 → IsNew s shards c n
opened s shards c n fits xs closer none = rw (xs, closer, none) (record { standing = blank_stands s fits; state = blank_state s })

pub opened_open : (s : Store) (st : State) → st ≡ machine.opening s → StoreFits s → HasFewLeaves s → IsOpen (record { store = s; state = st })
opened_open s st is fits few = record { running = (1, ap (λ (x : State). x.phase) is); fits = fits; few = few }

-- the whole of a new store
pub new_sharded : (a : Inside) → a.shards.items ≡ map (blank_shard a.store a.pages a.closings a.families) (numbers_below 16) → a.closer ≡ opening a.store (a.attestations + a.closings) a.closings a.families → a.leaves ≡ 0 → StoreFits (store_of a) → HasFewLeaves (store_of a) → IsSharded a
new_sharded a shards closer none fits few =
    let new : IsNew (store_of a) a.shards.items a.closer a.leaves = opened (store_of a) a.shards.items a.closer a.leaves fits shards closer none in
    record { standing = new.standing; between = opened_open (store_of a) (state_of a.shards.items a.closer a.leaves) new.state fits few }
