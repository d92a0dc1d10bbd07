-- A store by shards stands rightly at each step of a closing.
use Rattle.std.proofs.Common.{◌≡◌, ℕ, zero, suc, ◌+◌, ◌-◌, ◌<◌, ◌≤◌, Bool, cond, eqb, List, [], ◌∷◌, ◌++◌, length, flat_map, get_or, set, Option, Some, Ok, Err, refl, sym, ap, subst, ◌∙◌, inl, inr, arith}
use Rattle.std.proofs.lemmas.Bool.{cases_eq, eq-eqb, ne_eqb}
use Rattle.cp_core.proofs.EpochLemmas.{freezes_more}
use Rattle.cp_core.proofs.EventLemmas.{list_now}
use Rattle.cp_core.proofs.LifeLemmas.{at_same}
use Rattle.cp_core.proofs.SealLemmas.{each_keeps}
use Rattle.cp_core.specs.Store.{Store, StoreFits}
use Rattle.cp_core.specs.Life.{freezes}
use Rattle.cp_core.specs.Calls.{epoch_now}
use Rattle.cp_core.specs.Frozen.{frozen_part}
use Rattle.cp_core.specs.Kept.{Keeps, PhaseFits}
use Rattle.cp_core.specs.Machine.{State, step, run_from, after_freeze, begun, next_or, SpellsNext}
use Rattle.cp_core.specs.Sealing.{families_at, seal_at}
use Rattle.cp_core.specs.Honest.{last_of}
use Rattle.cp_closer.specs.declared.sealed_text.SealedText.{SealedText}
use Rattle.cp_core.specs.declared.answer.Answer.{Answer}
use Rattle.cp_core.specs.declared.answer.Answer.TheVariants.{CloseRefused, Done}
use Rattle.cp_core.specs.declared.close_refusal.CloseRefusal.{CloseRefusal}
use Rattle.cp_core.specs.declared.close_refusal.CloseRefusal.TheVariants as refusal
use Rattle.cp_core.specs.declared.chronicle.Chronicle.{Chronicle}
use Rattle.cp_core.specs.declared.content.Content.{Content}
use Rattle.cp_core.specs.declared.event.Event.TheVariants.{Begin, Freeze, Seal, Publish}
use Rattle.cp_core.specs.declared.item.Item.{Item}
use Rattle.cp_core.specs.declared.item.Item.TheVariants.{Frozen}
use Rattle.cp_core.specs.declared.phase.Phase.{Phase}
use Rattle.cp_core.specs.declared.phase.Phase.TheVariants.{Running, Half, Full, Sealed}
use Rattle.cp_core.specs.declared.seal_item.SealItem.{SealItem}
use Rattle.cp_closer.proofs.Fitting.{parts_fit}
use Rattle.cp_closer.proofs.Following.{begins_alike, takes_alike, seals_alike, publishes_alike}
use Rattle.cp_closer.proofs.LifeSeals.{seals_the_life}
use Rattle.cp_chain.specs.Log.{log_text}
use Rattle.cp_closer.specs.Closer.{CloserState, epoch_of, begun_in, begin_answer, after_begin, IsNextPart, after_take, sealed_now, seal_item, after_seal, after_publish}
use Rattle.cp_closer.specs.Laws.{IsCloserOf, log_at}
use Rattle.cp_shard.specs.Model.{ShardModel}
use Rattle.cp_store.specs.Closes.{closing_events, Closes}
use Rattle.cp_store.specs.Freezes.{IsFrozenTo, AreFrozenTo, IsFinished, frozen_shard}
use Rattle.cp_core.specs.View.{Standing}
use Rattle.cp_store.specs.Inside.{store_of, standing_of, IsSharded}
use Rattle.cp_store.specs.declared.sharded.Sharded.TheInside.{Inside}
use Rattle.cp_store.specs.Running.{HasFewLeaves}
use Rattle.cp_store.specs.Shards.{own_contents, items_in, state_of, IsStanding}
use Rattle.cp_store.proofs.Alikes.{alike_eq}
use Rattle.cp_store.proofs.Closings.{IsFrozenRightly, closing_is, freezes_right, begin_over, begin_half, frozen, freeze_now, freeze_more, seal_now, sealed, publish_now, half_before, next_phase}
use Rattle.cp_store.proofs.Standings.{closer_more}
use Rattle.cp_shard.proofs.ShortRows.{shard_short}
use Rattle.cp_store.proofs.Serving.{items_here, made_set, life_more}

-- ---- a shard's freeze

flat_map-set : (f : ShardModel → List Content) (xs : List ShardModel) (k : ℕ) (d y : ShardModel) → f y ≡ f (get_or xs k d) → flat_map f (set xs k y) ≡ flat_map f xs
flat_map-set f [] k d y e = refl
flat_map-set f (x ∷ xs) zero d y e = ap (λ (ys : List Content). ys ++ flat_map f xs) e
flat_map-set f (x ∷ xs) (suc k) d y e = ap (λ (ys : List Content). f x ++ ys) (flat_map-set f xs k d y e)

-- what the closing of an epoch has come to before the freeze of shard k
pub record IsHalf (s : Store) (shards : List ShardModel) (c : CloserState) (n e k : ℕ) : Type 0 where
  pub standing : IsStanding s shards c n
  pub fits : StoreFits s
  pub few : HasFewLeaves s
  pub phase : c.phase ≡ Half e k
  pub low : k < 16

half_fits : (s : Store) (shards : List ShardModel) (c : CloserState) (n e k : ℕ) → IsHalf s shards c n e k → PhaseFits s (state_of shards c n).life c.next (Half e k) (epoch_of c.phase - 1)
half_fits s shards c n e k h = subst (λ (p : Phase). PhaseFits s (state_of shards c n).life c.next p (epoch_of c.phase - 1)) h.phase h.standing.keeps.phase

-- the shard is in the epoch
pub shard_now : (s : Store) (shards : List ShardModel) (c : CloserState) (n e k : ℕ) (d : ShardModel) → IsHalf s shards c n e k → epoch_now (get_or shards k d).items ≡ e
shard_now s shards c n e k d h =
    ap (λ (xs : List Item). freezes xs + 1) (sym (items_here s shards k d h.standing.made h.low)) ∙ (half_fits s shards c n e k h).1 k (omega arith) h.low

pub shard_room : (s : Store) (shards : List ShardModel) (c : CloserState) (n e k : ℕ) (d : ShardModel) → IsHalf s shards c n e k → epoch_now (get_or shards k d).items ≤ (get_or shards k d).closings
shard_room s shards c n e k d h = omega (arith, shard_now s shards c n e k d h, (half_fits s shards c n e k h).4, (h.standing.made.each k d h.low).closings)

some_epoch : (s : Store) (shards : List ShardModel) (c : CloserState) (n e k : ℕ) → IsHalf s shards c n e k → 1 ≤ e
some_epoch s shards c n e k h = omega (arith, (half_fits s shards c n e k h).3)

frozen_keeps : (s : Store) (shards : List ShardModel) (c : CloserState) (n e k : ℕ) → IsHalf s shards c n e k → Keeps s (frozen (state_of shards c n) e k)
frozen_keeps s shards c n e k h =
    subst (λ (x : Answer × State). Keeps s x.1) (freeze_now s (state_of shards c n) e k h.phase) (each_keeps s (state_of shards c n) (Freeze k) h.fits h.standing.keeps h.low)

frozen_closer : (s : Store) (shards : List ShardModel) (c : CloserState) (n e k : ℕ) → IsHalf s shards c n e k → IsCloserOf s (frozen (state_of shards c n) e k).life c
frozen_closer s shards c n e k h = closer_more s (state_of shards c n) c k (Frozen e c.next) h.standing.keeps h.standing.closer refl h.low (frozen_keeps s shards c n e k h).honest

-- what the shard hands over, as the life has it
part_is : (s : Store) (shards : List ShardModel) (c : CloserState) (n e k : ℕ) (d : ShardModel) → IsHalf s shards c n e k
    → frozen_part k (get_or (frozen (state_of shards c n) e k).life.shards k []) e ≡ frozen_part (get_or shards k d).index ((get_or shards k d).items ++ Frozen e c.next ∷ []) e
part_is s shards c n e k d h =
    ap (λ (xs : List Item). frozen_part k xs e) (at_same (state_of shards c n).life k (Frozen e c.next) h.standing.keeps.honest.sixteen h.low ∙ ap (λ (xs : List Item). xs ++ Frozen e c.next ∷ []) (items_here s shards k d h.standing.made h.low))
    ∙ ap (λ (i : ℕ). frozen_part i ((get_or shards k d).items ++ Frozen e c.next ∷ []) e) (sym (h.standing.made.each k d h.low).index)

-- the closer can take it
pub part_next : (s : Store) (shards : List ShardModel) (c : CloserState) (n e k : ℕ) (d : ShardModel) → IsHalf s shards c n e k → IsNextPart c (frozen_part (get_or shards k d).index ((get_or shards k d).items ++ Frozen e c.next ∷ []) e)
part_next s shards c n e k d h =
    let keeps = frozen_keeps s shards c n e k h in
    let r : Chronicle = (frozen (state_of shards c n) e k).life in
    subst (IsNextPart c) (part_is s shards c n e k d h)
    (parts_fit s r c e k keeps.honest (frozen_closer s shards c n e k h) h.phase h.low (some_epoch s shards c n e k h) (shard_short s k (get_or r.shards k []) (keeps.honest.shards k h.low))
    (omega (arith, keeps.counted k h.low, keeps.drawn_within, h.few.few)))

-- ---- after the part is taken

-- the phase's epoch stays
same_epoch : (e k : ℕ) → epoch_of (after_freeze e k) ≡ e
same_epoch e k = elim (cases_eq k 15) [ inl last ↦ rw (eq-eqb k 15 last) refl | inr more ↦ rw (ne_eqb k 15 more) refl ]

state_is : (a b : State) → a.life ≡ b.life → a.contents ≡ b.contents → a.phase ≡ b.phase → a.published ≡ b.published → a.kept ≡ b.kept → a.drawn ≡ b.drawn → a ≡ b
state_is a b life contents phase published kept drawn = rw (← life, ← contents, ← phase, ← published, ← kept, ← drawn) refl

pub state_taken : (s : Store) (shards : List ShardModel) (c : CloserState) (n e k : ℕ) (d y : ShardModel) (c' : CloserState) → IsHalf s shards c n e k → y ≡ frozen_shard (get_or shards k d) e c.next
    → c' ≡ after_take c (frozen_part (get_or shards k d).index ((get_or shards k d).items ++ Frozen e c.next ∷ []) e) → state_of (set shards k y) c' n ≡ frozen (state_of shards c n) e k
state_taken s shards c n e k d y c' h made taken =
    let index = (h.standing.made.each k d h.low).index in
    let phase : c'.phase ≡ after_freeze e k = ap (λ (x : CloserState). x.phase) taken ∙ ap (after_freeze e) index in
    state_is (state_of (set shards k y) c' n) (frozen (state_of shards c n) e k)
    (ap (λ (xs : List SealItem). record { shards = items_in (set shards k y); seals = xs }) (ap (λ (x : CloserState). x.seals) taken) ∙ life_more shards c n n k d y (Frozen e c.next) s h.standing.made h.low (ap (λ (x : ShardModel). x.items) made))
    (flat_map-set own_contents shards k d y (ap own_contents made))
    phase
    (ap (λ (p : Phase). epoch_of p - 1) phase ∙ ap (λ (m : ℕ). m - 1) (same_epoch e k ∙ sym (ap epoch_of h.phase)))
    (ap (λ (x : CloserState). x.next) taken) refl

pub taken_stands : (s : Store) (shards : List ShardModel) (c : CloserState) (n e k : ℕ) (d y : ShardModel) (c' : CloserState) → IsHalf s shards c n e k → y ≡ frozen_shard (get_or shards k d) e c.next
    → c' ≡ after_take c (frozen_part (get_or shards k d).index ((get_or shards k d).items ++ Frozen e c.next ∷ []) e) → IsStanding s (set shards k y) c' n
taken_stands s shards c n e k d y c' h made taken =
    let is = state_taken s shards c n e k d y c' h made taken in
    let st : State = state_of shards c n in
    let r : Chronicle = (frozen st e k).life in
    let of : IsCloserOf s r (after_take c (frozen_part k (get_or r.shards k []) e)) = takes_alike s r c e k (frozen_closer s shards c n e k h) h.phase in
    let next : after_take c (frozen_part k (get_or r.shards k []) e) ≡ c' = ap (after_take c) (part_is s shards c n e k d h) ∙ sym taken in
    record {
      made = made_set s shards k d y h.standing.made h.low (ap (λ (x : ShardModel). x.store) made) (ap (λ (x : ShardModel). x.index) made) (ap (λ (x : ShardModel). x.pages) made) (ap (λ (x : ShardModel). x.closings) made) (ap (λ (x : ShardModel). x.first) made);
      keeps = subst (Keeps s) (sym is) (frozen_keeps s shards c n e k h);
      closer = subst (λ (x : Chronicle). IsCloserOf s x c') (ap (λ (x : State). x.life) (sym is)) (subst (IsCloserOf s r) next of);
    }

-- ---- so many freezes after the beginning

pub half_of : (s : Store) (st : State) (shards : List ShardModel) (c : CloserState) (n e k : ℕ) → StoreFits s → HasFewLeaves s → IsFrozenTo s st shards c n e k → k < 16 → IsHalf s shards c n e k
half_of s st shards c n e k fits few h lt = record { standing = h.standing; fits = fits; few = few; phase = h.phase ∙ half_before e k lt; low = lt }

pub frozen_next : (s : Store) (st : State) (shards : List ShardModel) (c : CloserState) (n e k : ℕ) (d y : ShardModel) (c' : CloserState) → StoreFits s → HasFewLeaves s → IsFrozenTo s st shards c n e k → k < 16 → y ≡ frozen_shard (get_or shards k d) e c.next
    → c' ≡ after_take c (frozen_part (get_or shards k d).index ((get_or shards k d).items ++ Frozen e c.next ∷ []) e) → IsFrozenTo s st (set shards k y) c' n e (k + 1)
frozen_next s st shards c n e k d y c' fits few h lt made taken =
    let half = half_of s st shards c n e k fits few h lt in
    let is = state_taken s shards c n e k d y c' half made taken in
    record {
      standing = taken_stands s shards c n e k d y c' half made taken;
      phase = ap (λ (x : State). x.phase) is ∙ next_phase e k;
      state = is ∙ sym (ap (λ (x : Answer × State). x.1) (freeze_now s (state_of shards c n) e k half.phase)) ∙ ap (λ (x : State). (step s x (Freeze k)).1) h.state ∙ sym (freeze_more s st k);
    }

-- ---- the seal

pub record IsFullStore (s : Store) (shards : List ShardModel) (c : CloserState) (n e : ℕ) : Type 0 where
  pub standing : IsStanding s shards c n
  pub fits : StoreFits s
  pub phase : c.phase ≡ Full e

full_some : (s : Store) (shards : List ShardModel) (c : CloserState) (n e : ℕ) → IsFullStore s shards c n e → 1 ≤ e
full_some s shards c n e h =
    let fits : PhaseFits s (state_of shards c n).life c.next (Full e) (epoch_of c.phase - 1) = subst (λ (p : Phase). PhaseFits s (state_of shards c n).life c.next p (epoch_of c.phase - 1)) h.phase h.standing.keeps.phase in
    omega (arith, fits.1)

-- what is sealed is the life's
pub seals_life : (s : Store) (shards : List ShardModel) (c : CloserState) (n e : ℕ) → IsFullStore s shards c n e
    → (seal_item e c.list (sealed_now c) ≡ seal_at s (state_of shards c n).life e) × ((sealed_now c).log ≡ log_text (log_at (state_of shards c n).life e))
seals_life s shards c n e h = seals_the_life s (state_of shards c n).life c e h.standing.keeps.honest h.standing.closer h.phase (full_some s shards c n e h)

pub state_sealed : (s : Store) (shards : List ShardModel) (c : CloserState) (n e : ℕ) (c' : CloserState) → IsFullStore s shards c n e → c' ≡ after_seal c → state_of shards c' n ≡ sealed s (state_of shards c n) e
state_sealed s shards c n e c' h is =
    let epoch : epoch_of c.phase ≡ e = ap epoch_of h.phase in
    let phase : c'.phase ≡ Sealed e = ap (λ (x : CloserState). x.phase) is ∙ ap Sealed epoch in
    let seals : c'.seals ≡ c.seals ++ seal_at s (state_of shards c n).life e ∷ [] =
    ap (λ (x : CloserState). x.seals) is ∙ ap (λ (m : ℕ). c.seals ++ seal_item m c.list (sealed_now c) ∷ []) epoch ∙ ap (λ (x : SealItem). c.seals ++ x ∷ []) (seals_life s shards c n e h).0 in
    state_is (state_of shards c' n) (sealed s (state_of shards c n) e)
    (ap (λ (xs : List SealItem). record { shards = items_in shards; seals = xs }) seals)
    refl phase
    (ap (λ (p : Phase). epoch_of p - 1) phase ∙ ap (λ (m : ℕ). m - 1) (sym epoch))
    (ap (λ (x : CloserState). x.next) is) refl

pub sealed_stands : (s : Store) (shards : List ShardModel) (c : CloserState) (n e : ℕ) (c' : CloserState) → IsFullStore s shards c n e → c' ≡ after_seal c → IsStanding s shards c' n
sealed_stands s shards c n e c' h is =
    let st : State = state_of shards c n in
    let state = state_sealed s shards c n e c' h is in
    let kept : Keeps s (sealed s st e) = subst (λ (x : Answer × State). Keeps s x.1) (seal_now s st e h.phase) (each_keeps s st Seal h.fits h.standing.keeps tt) in
    let of : IsCloserOf s (sealed s st e).life (after_seal c) = seals_alike s st.life c e h.standing.keeps.honest h.standing.closer h.phase (full_some s shards c n e h) in
    record {
      made = h.standing.made;
      keeps = subst (Keeps s) (sym state) kept;
      closer = subst (λ (x : Chronicle). IsCloserOf s x c') (ap (λ (x : State). x.life) (sym state)) (subst (IsCloserOf s (sealed s st e).life) (sym is) of);
    }

-- ---- it is published

abbrev pub published : State → ℕ → State
published st e = record st { published = e; phase = Running (e + 1) }

pub state_published : (shards : List ShardModel) (c : CloserState) (n e : ℕ) (c' : CloserState) → c.phase ≡ Sealed e → c' ≡ after_publish c → state_of shards c' n ≡ published (state_of shards c n) e
state_published shards c n e c' at is =
    let phase : c'.phase ≡ Running (e + 1) = ap (λ (x : CloserState). x.phase) is ∙ ap (λ (p : Phase). Running (epoch_of p + 1)) at in
    let back : e + 1 - 1 ≡ e = omega arith in
    state_is (state_of shards c' n) (published (state_of shards c n) e)
    (ap (λ (xs : List SealItem). record { shards = items_in shards; seals = xs }) (ap (λ (x : CloserState). x.seals) is))
    refl phase (ap (λ (p : Phase). epoch_of p - 1) phase ∙ back) (ap (λ (x : CloserState). x.next) is) refl

pub published_stands : (s : Store) (shards : List ShardModel) (c : CloserState) (n e : ℕ) (c' : CloserState) → StoreFits s → IsStanding s shards c n → c.phase ≡ Sealed e → c' ≡ after_publish c → IsStanding s shards c' n
published_stands s shards c n e c' fits h at is =
    let st : State = state_of shards c n in
    let state = state_published shards c n e c' at is in
    let now : PhaseFits s st.life c.next (Sealed e) st.published = subst (λ (p : Phase). PhaseFits s st.life c.next p st.published) at h.keeps.phase in
    let kept : Keeps s (published st e) = subst (λ (x : Answer × State). Keeps s x.1) (publish_now s st e at) (each_keeps s st Publish fits h.keeps tt) in
    let life : (published st e).life ≡ (state_of shards c' n).life = ap (λ (x : State). x.life) (sym state) in
    record {
      made = h.made;
      keeps = subst (Keeps s) (sym state) kept;
      closer = subst (λ (x : Chronicle). IsCloserOf s x c') life (subst (IsCloserOf s st.life) (sym is) (publishes_alike s st.life c e h.closer at now.4));
    }

-- ---- the beginning

pub running_seals : (s : Store) (shards : List ShardModel) (c : CloserState) (n e : ℕ) → IsStanding s shards c n → c.phase ≡ Running e → length c.seals + 1 ≡ e
running_seals s shards c n e h at =
    let fits : PhaseFits s (state_of shards c n).life c.next (Running e) (epoch_of c.phase - 1) = subst (λ (p : Phase). PhaseFits s (state_of shards c n).life c.next p (epoch_of c.phase - 1)) at h.keeps.phase in
    fits.1

begin_is : (s : Store) (shards : List ShardModel) (c : CloserState) (n e : ℕ) (next : Option (List ℕ)) → IsStanding s shards c n → c.phase ≡ Running e → begin_answer c e next ≡ cond (eqb (e - 1) s.closings) (Err (refusal.ClosingsOver (e - 1) s.closings)) (Ok tt)
begin_is s shards c n e next h at = (begins_alike s (state_of shards c n).life c e next h.closer at (running_seals s shards c n e h at)).0

-- a refusal is the step's, and the closer stays
pub refused_begins : (s : Store) (shards : List ShardModel) (c : CloserState) (n e : ℕ) (next : Option (List ℕ)) (c' : CloserState) (why : CloseRefusal) → IsStanding s shards c n → c.phase ≡ Running e → Err why ≡ begin_answer c e next → c' ≡ after_begin c next (Err why)
    → (c' ≡ c) × ((step s (state_of shards c n) (Begin next)).0 ≡ CloseRefused why)
refused_begins s shards c n e next c' why h at answer is = (
  is,
  elim (cases_eq (e - 1) s.closings) [
    | inl over ↦
        let told : Err why ≡ Err (refusal.ClosingsOver (e - 1) s.closings) = answer ∙ begin_is s shards c n e next h at ∙ ap (λ (b : Bool). cond b (Err (refusal.ClosingsOver (e - 1) s.closings)) (Ok tt)) (eq-eqb _ _ over) in
        let same : why ≡ refusal.ClosingsOver (e - 1) s.closings = cc in
        ap (λ (x : Answer × State). x.0) (begin_over s (state_of shards c n) e next at over) ∙ ap CloseRefused (sym same)
    | inr ne ↦ let told : Err why ≡ Ok tt = answer ∙ begin_is s shards c n e next h at ∙ ap (λ (b : Bool). cond b (Err (refusal.ClosingsOver (e - 1) s.closings)) (Ok tt)) (ne_eqb _ _ ne) in absurd cc
  ],
)

-- the closing has begun, and the closer's lists are the store's
pub record IsBegun (s : Store) (shards : List ShardModel) (c c' : CloserState) (n e : ℕ) (next : Option (List ℕ)) : Type 0 where
  pub begun : (step s (state_of shards c n) (Begin next)).0 ≡ Done
  pub frozen : IsFrozenTo s (step s (state_of shards c n) (Begin next)).1 shards c' n e 0
  pub list : families_at s (step s (state_of shards c n) (Begin next)).1.life e ≡ c.next
  pub kept : (step s (state_of shards c n) (Begin next)).1.kept ≡ next_or next c.next

pub begins : (s : Store) (shards : List ShardModel) (c : CloserState) (n e : ℕ) (next : Option (List ℕ)) (c' : CloserState) → StoreFits s → SpellsNext next → IsStanding s shards c n → c.phase ≡ Running e → Ok tt ≡ begin_answer c e next → c' ≡ after_begin c next (Ok tt) → IsBegun s shards c c' n e next
begins s shards c n e next c' fits spells h at answer is = elim (cases_eq (e - 1) s.closings) [
  | inl over ↦ let told : Ok tt ≡ Err (refusal.ClosingsOver (e - 1) s.closings) = answer ∙ begin_is s shards c n e next h at ∙ ap (λ (b : Bool). cond b (Err (refusal.ClosingsOver (e - 1) s.closings)) (Ok tt)) (eq-eqb _ _ over) in absurd cc
  | inr ne ↦
      let st : State = state_of shards c n in
      let half : step s st (Begin next) ≡ (Done, begun s st e next) = begin_half s st e next at ne in
      let now : c' ≡ begun_in c next (Running e) = is ∙ ap (begun_in c next) at in
      let phase : c'.phase ≡ Half e 0 = ap (λ (x : CloserState). x.phase) now in
      let alike = begins_alike s st.life c e next h.closer at (running_seals s shards c n e h at) in
      let list : families_at s st.life e ≡ c.next = list_now s st e (subst (λ (p : Phase). PhaseFits s st.life c.next p st.published) at h.keeps.phase) 0 (omega arith) in
      let state : state_of shards c' n ≡ (step s st (Begin next)).1 =
      state_is (state_of shards c' n) (begun s st e next)
      (ap (λ (xs : List SealItem). record { shards = items_in shards; seals = xs }) (ap (λ (x : CloserState). x.seals) now)) refl phase
      (ap (λ (p : Phase). epoch_of p - 1) phase ∙ sym (ap (λ (p : Phase). epoch_of p - 1) at)) (ap (λ (x : CloserState). x.next) is ∙ alike.2) refl
      ∙ sym (ap (λ (x : Answer × State). x.1) half) in
      record {
        begun = ap (λ (x : Answer × State). x.0) half;
        frozen = record {
          standing = record {
            made = h.made;
            keeps = subst (Keeps s) (sym state) (each_keeps s st (Begin next) fits h.keeps spells);
            closer = subst (λ (x : List SealItem). IsCloserOf s (record { shards = items_in shards; seals = x }) c') (ap (λ (x : CloserState). x.seals) (sym now)) (subst (IsCloserOf s st.life) (ap (after_begin c next) (sym answer) ∙ sym is) alike.1);
          };
          phase = phase;
          state = state;
        };
        list = ap (λ (x : Answer × State). families_at s x.1.life e) half ∙ list;
        kept = ap (λ (x : Answer × State). x.1.kept) half ∙ ap (next_or next) list;
      }
]

-- ---- the whole closing

full_of : (s : Store) (st : State) (shards : List ShardModel) (c : CloserState) (n e : ℕ) → StoreFits s → IsFrozenTo s st shards c n e 16 → IsFullStore s shards c n e
full_of s st shards c n e fits h = record { standing = h.standing; fits = fits; phase = h.phase }

pub is_full : (shards : List ShardModel) (c : CloserState) (e : ℕ) → AreFrozenTo shards c e 16 → c.phase ≡ Full (epoch_of c.phase)
is_full shards c e h = h.frozen.phase ∙ ap Full (sym (ap epoch_of h.frozen.phase))

last_push : (xs : List SealItem) (x : SealItem) → last_of (xs ++ x ∷ []) ≡ Some x
last_push [] x = refl
last_push (y ∷ []) x = refl
last_push (y ∷ (z ∷ xs)) x = last_push (z ∷ xs) x

-- before the first freeze
pub record IsAtFirst (s : Store) (st : State) (e : ℕ) : Type 0 where
  pub keeps : Keeps s st
  pub phase : st.phase ≡ Half e 0

pub at_start : (s : Store) (st : State) (shards : List ShardModel) (c : CloserState) (n e : ℕ) → IsFrozenTo s st shards c n e 0 → IsAtFirst s st e
at_start s st shards c n e h = record { keeps = subst (Keeps s) h.state h.standing.keeps; phase = ap (λ (x : State). x.phase) (sym h.state) ∙ h.phase }

-- the store by shards, sealed and published
pub finished : (s : Store) (st : State) (shards : List ShardModel) (c c₁ c₂ : CloserState) (n e : ℕ) (t : SealedText) → StoreFits s → IsAtFirst s st e → IsFrozenTo s st shards c n e 16 → c₁ ≡ after_seal c → c₁.sealed ≡ Some t → c₂ ≡ after_publish c₁ → IsFinished s st shards c₂ n e t
finished s st shards c c₁ c₂ n e t fits first h sealing text publishing =
    let full : IsFullStore s shards c n e = full_of s st shards c n e fits h in
    let stands : IsStanding s shards c₁ n = sealed_stands s shards c n e c₁ full sealing in
    let one : state_of shards c₁ n ≡ sealed s (state_of shards c n) e = state_sealed s shards c n e c₁ full sealing in
    let at : c₁.phase ≡ Sealed e = ap (λ (x : State). x.phase) one in
    let two : state_of shards c₂ n ≡ published (state_of shards c₁ n) e = state_published shards c₁ n e c₂ at publishing in
    let told : Some t ≡ Some (sealed_now c) = sym text ∙ ap (λ (x : CloserState). x.sealed) sealing in
    let is : t ≡ sealed_now c = cc in
    let epoch : epoch_of c.phase ≡ e = ap epoch_of h.phase in
    let right : IsFrozenRightly s st e 16 = freezes_right s st e 16 fits first.keeps first.phase (omega arith) in
    let list : c.list ≡ families_at s st.life e =
    h.standing.closer.list 0 (omega arith) ∙ ap (families_at s (state_of shards c n).life) epoch ∙ ap (λ (x : State). families_at s x.life e) h.state ∙ right.list in
    let seals : c₂.seals ≡ c.seals ++ seal_item e (families_at s st.life e) t ∷ [] =
    ap (λ (x : CloserState). x.seals) publishing ∙ ap (λ (x : CloserState). x.seals) sealing
    ∙ ap (λ (m : ℕ). c.seals ++ seal_item m c.list (sealed_now c) ∷ []) epoch ∙ ap (λ (x : SealedText). c.seals ++ seal_item e c.list x ∷ []) (sym is)
    ∙ ap (λ (x : List ℕ). c.seals ++ seal_item e x t ∷ []) list in
    record {
      standing = published_stands s shards c₁ n e c₂ fits stands at publishing;
      phase = ap (λ (x : State). x.phase) two;
      state =
          two ∙ ap (λ (x : State). published x e) one
          ∙ sym (ap (λ (x : Answer × State). x.1) (publish_now s (sealed s (state_of shards c n) e) e refl))
          ∙ sym (ap (λ (x : Answer × State). (step s x.1 Publish).1) (seal_now s (state_of shards c n) e h.phase))
          ∙ ap (λ (x : State). (step s (step s x Seal).1 Publish).1) h.state;
      kept = ap (λ (x : State). x.kept) (two ∙ ap (λ (x : State). published x e) one) ∙ ap (λ (x : State). x.kept) h.state ∙ right.kept;
      seal = ap last_of seals ∙ last_push c.seals (seal_item e (families_at s st.life e) t);
      log = ap (λ (x : SealedText). x.log) is ∙ (seals_life s shards c n e full).1;
    }

-- ---- from one epoch to the next

pub close_refused : (s : Store) (shards : List ShardModel) (c c' : CloserState) (n e : ℕ) (next : Option (List ℕ)) (why : CloseRefusal) → IsStanding s shards c n → c.phase ≡ Running e → Err why ≡ begin_answer c e next → c' ≡ after_begin c next (Err why)
    → Closes (record { store = s; state = state_of shards c n }) (record { store = s; state = state_of shards c' n }) next (Err why)
close_refused s shards c c' n e next why h at answer is =
    let both = refused_begins s shards c n e next c' why h at answer is in
    (ap (λ (x : CloserState). record { store = s; state = state_of shards x n }) both.0, both.1)

pub closed : (s : Store) (shards shards' : List ShardModel) (c c₁ c' : CloserState) (n e : ℕ) (next : Option (List ℕ)) (t : SealedText) → c.phase ≡ Running e → IsBegun s shards c c₁ n e next → IsFinished s (step s (state_of shards c n) (Begin next)).1 shards' c' n e t
    → Closes (record { store = s; state = state_of shards c n }) (record { store = s; state = state_of shards' c' n }) next (Ok t)
closed s shards shards' c c₁ c' n e next t at b f = record {
  store = refl;
  begun = b.begun;
  after = alike_eq (state_of shards' c' n) (run_from s (state_of shards c n) (closing_events next)) (f.state ∙ sym (closing_is s (state_of shards c n) next));
  epoch = e;
  was = at;
  now = f.phase;
  kept = f.kept ∙ b.kept;
  seal = f.seal ∙ ap (λ (x : List ℕ). Some (seal_item e x t)) b.list;
  log = f.log;
}

pub may_freeze : (s : Store) (shards : List ShardModel) (c c₁ : CloserState) (n e : ℕ) (next : Option (List ℕ)) → StoreFits s → HasFewLeaves s → IsBegun s shards c c₁ n e next → AreFrozenTo shards c₁ e 0
may_freeze s shards c c₁ n e next fits few b = record { store = s; state = (step s (state_of shards c n) (Begin next)).1; drawn = n; fits = fits; few = few; frozen = b.frozen }

-- ---- the loop over the shards

pub next_may : (shards : List ShardModel) (c : CloserState) (e k : ℕ) (d y : ShardModel) (c' : CloserState) → AreFrozenTo shards c e k → k < 16 → y ≡ frozen_shard (get_or shards k d) e c.next
    → c' ≡ after_take c (frozen_part (get_or shards k d).index ((get_or shards k d).items ++ Frozen e c.next ∷ []) e) → AreFrozenTo (set shards k y) c' e (k + 1)
next_may shards c e k d y c' h lt made taken = record {
  store = h.store;
  state = h.state;
  drawn = h.drawn;
  fits = h.fits;
  few = h.few;
  frozen = frozen_next h.store h.state shards c h.drawn e k d y c' h.fits h.few h.frozen lt made taken;
}

pub may_half : (shards : List ShardModel) (c : CloserState) (e k : ℕ) → (h : AreFrozenTo shards c e k) → k < 16 → IsHalf h.store shards c h.drawn e k
may_half shards c e k h lt = half_of h.store h.state shards c h.drawn e k h.fits h.few h.frozen lt

-- a shard that has just ended the epoch is in the next one
pub later_now : (x y : ShardModel) (e : ℕ) (next : List ℕ) → y ≡ record x { items = x.items ++ Frozen (epoch_now x.items) next ∷ [] } → epoch_now x.items ≡ e → e < epoch_now y.items
later_now x y e next is now = omega (arith, ap (λ (z : ShardModel). freezes z.items) is, freezes_more x.items (epoch_now x.items) next, now)

-- ---- a store by shards

pub inside_begins : (a : Inside) (c' : CloserState) (e : ℕ) (next : Option (List ℕ)) → IsSharded a → SpellsNext next → a.closer.phase ≡ Running e → Ok tt ≡ begin_answer a.closer e next → c' ≡ after_begin a.closer next (Ok tt) → IsBegun (store_of a) a.shards.items a.closer c' a.leaves e next
inside_begins a c' e next h spells at answer is = begins (store_of a) a.shards.items a.closer a.leaves e next c' h.between.fits spells h.standing at answer is

pub inside_running : (a : Inside) (self : Standing) (e : ℕ) → standing_of a ≡ self → self.state.phase ≡ Running e → a.closer.phase ≡ Running e
inside_running a self e is at = subst (λ (z : Standing). z.state.phase ≡ Running e) (sym is) at
