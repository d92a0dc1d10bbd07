-- Each call of a closer follows the store's step.
use Rattle.std.proofs.Common.{◌≡◌, ℕ, suc, ◌+◌, ◌-◌, ◌≤◌, List, [], ◌∷◌, ◌++◌, length, flat_map, get_or, Bool, cond, eqb, Option, Result, Ok, Err, refl, sym, ap, subst, ◌∙◌, inl, inr, arith}
use Rattle.std.proofs.lemmas.Bool.{cases_eq, eq-eqb, ne_eqb}
use Rattle.std.proofs.lemmas.List.{append-nil, append_assoc}
use Rattle.std.proofs.lemmas.Grind.{flat_map-append}
use Rattle.cp_tips.specs.declared.tip.Tip.{Tip}
use Rattle.cp_core.specs.Store.{Store}
use Rattle.cp_core.specs.Life.{list_text}
use Rattle.cp_core.specs.Machine.{after_freeze, next_or}
use Rattle.cp_core.specs.Sealing.{families_at, seal_at}
use Rattle.cp_core.specs.Honest.{Honest}
use Rattle.cp_core.specs.Frozen.{frozen_part}
use Rattle.cp_core.specs.declared.chronicle.Chronicle.{Chronicle}
use Rattle.cp_core.specs.declared.item.Item.{Item}
use Rattle.cp_core.specs.declared.close_refusal.CloseRefusal.{CloseRefusal}
use Rattle.cp_core.specs.declared.close_refusal.CloseRefusal.TheVariants.{WrongEpoch, ClosingsOver}
use Rattle.cp_core.specs.declared.phase.Phase.{Phase}
use Rattle.cp_core.specs.declared.phase.Phase.TheVariants.{Running, Half, Full, Sealed}
use Rattle.cp_core.specs.Frozen.{Part}
use Rattle.cp_core.specs.declared.seal_item.SealItem.{SealItem}
use Rattle.cp_closer.specs.Taken.{put_all, tips_of}
use Rattle.cp_closer.specs.Closer.{CloserState, epoch_of, begin_in, begun_in, begin_answer, after_begin, sealed_now, seal_item, after_seal}
use Rattle.cp_closer.specs.Kept.{taken_in}
use Rattle.cp_closer.specs.Laws.{parts_below, parts_up_to, sealed_in, IsCloserOf, OpensAlike, BeginsAlike, TakesAlike, SealsAlike, PublishesAlike}
use Rattle.cp_closer.proofs.Puts.{put_all-append}
use Rattle.cp_closer.proofs.LifeSeals.{full_tips, seals_any_life}
use Rattle.cp_closer.proofs.Lives.{rightly}

first_list : (first : List ℕ) (items : List Item) → first ≡ list_text first items 1
unfolding list_text
first_list first items = refl

pub opens_alike : OpensAlike
opens_alike s r none = record { store = refl; leaves = refl; closings = refl; seals = sym none; parts = refl; tips = refl; list = λ k lt. first_list s.families (get_or r.shards k []) }

has_begun : (s : Store) (r : Chronicle) (c : CloserState) (e : ℕ) (next : Option (List ℕ)) (answer : Result (Unit {0}) CloseRefusal) → IsCloserOf s r c → c.phase ≡ Running e → IsCloserOf s r (after_begin c next answer)
has_begun s r c e next (Err why) of running = of
has_begun s r c e next (Ok done) of running = go c.phase refl running
  where
    begun : ℕ → CloserState
    begun e = record c { phase = Half e 0; next = next_or next c.list }

    is : IsCloserOf s r (begun e)
    is =
        let none : c.parts ≡ [] = of.parts ∙ ap (λ (x : Phase). parts_below r.shards (epoch_of x) (taken_in x)) running in record {
          store = of.store;
          leaves = of.leaves;
          closings = of.closings;
          seals = of.seals;
          parts = none;
          tips = of.tips ∙ ap (λ (n : ℕ). put_all [] (flat_map tips_of (parts_up_to r.shards n ++ c.parts))) (ap sealed_in running);
          list = λ k lt. of.list k lt ∙ ap (λ (x : Phase). list_text s.families (get_or r.shards k []) (epoch_of x)) running;
        }

    go : (phase : Phase) → c.phase ≡ phase → phase ≡ Running e → IsCloserOf s r (begun_in c next phase)
    go (Running n) here same = let number : n ≡ e = cc in subst (λ (m : ℕ). IsCloserOf s r (begun m)) (sym number) is
    go (Half n k) here same = absurd cc
    go (Full n) here same = absurd cc
    go (Sealed n) here same = absurd cc

pub begins_alike : BeginsAlike
begins_alike s r c e next of running count =
    let sealed : length c.seals ≡ e - 1 = omega (arith, ap length of.seals, count) in
    let by_phase : begin_answer c e next ≡ cond (eqb e e) (cond (eqb (length c.seals) c.closings) (Err (ClosingsOver (length c.seals) c.closings)) (Ok tt)) (Err (WrongEpoch e)) =
    ap (λ (x : Phase). cond (eqb e (epoch_of x)) (begin_in c next x) (Err (WrongEpoch (epoch_of x)))) running in (
      by_phase
          ∙ ap (λ (b : Bool). cond b (cond (eqb (length c.seals) c.closings) (Err (ClosingsOver (length c.seals) c.closings)) (Ok tt)) (Err (WrongEpoch e))) (eq-eqb e e refl)
          ∙ ap (λ (n : ℕ). cond (eqb n c.closings) (Err (ClosingsOver n c.closings)) (Ok tt)) sealed
          ∙ ap (λ (n : ℕ). cond (eqb (e - 1) n) (Err (ClosingsOver (e - 1) n)) (Ok tt)) of.closings,
      has_begun s r c e next (begin_answer c e next) of running,
      ap (λ (x : Phase). (begun_in c next x).next) running ∙ ap (next_or next) (of.list 0 (omega arith) ∙ ap (λ (x : Phase). families_at s r (epoch_of x)) running),
    )

pub takes_alike : TakesAlike
takes_alike s r c e k of half = record {
  store = of.store;
  leaves = of.leaves;
  closings = of.closings;
  seals = of.seals;
  parts = ap (λ (ps : List Part). ps ++ p ∷ []) (of.parts ∙ ap (λ (x : Phase). parts_below r.shards (epoch_of x) (taken_in x)) half) ∙ next (after_freeze e k) (after e k);
  tips =
      ap (λ (ts : List (ℕ × Tip)). put_all ts (tips_of p)) of.tips
      ∙ sym (put_all-append [] (flat_map tips_of (parts_up_to r.shards (sealed_in c.phase) ++ c.parts)) (tips_of p))
      ∙ ap (put_all []) (ap (λ (ts : List (ℕ × Tip)). flat_map tips_of (parts_up_to r.shards (sealed_in c.phase) ++ c.parts) ++ ts) (sym (append-nil (tips_of p))) ∙ sym (flat_map-append tips_of (parts_up_to r.shards (sealed_in c.phase) ++ c.parts) (p ∷ [])))
      ∙ ap (λ (ps : List Part). put_all [] (flat_map tips_of ps)) (append_assoc (parts_up_to r.shards (sealed_in c.phase)) c.parts (p ∷ []))
      ∙ ap (λ (n : ℕ). put_all [] (flat_map tips_of (parts_up_to r.shards n ++ (c.parts ++ p ∷ [])))) (ap sealed_in half ∙ sym (after e k).2);
  list = λ j lt. of.list j lt ∙ ap (list_text s.families (get_or r.shards j [])) (ap epoch_of half ∙ sym (after e k).0);
}
  where
    p : Part
    p = frozen_part k (get_or r.shards k []) e

    after : (e k : ℕ) → (epoch_of (after_freeze e k) ≡ e) × (taken_in (after_freeze e k) ≡ suc k) × (sealed_in (after_freeze e k) ≡ e - 1)
    after e k = elim (cases_eq k 15) [
      | inl last ↦ rw (eq-eqb k 15 last) (refl, omega (arith, last), refl)
      | inr more ↦ rw (ne_eqb k 15 more) (refl, omega arith, refl)
    ]

    next : (phase : Phase) → (epoch_of phase ≡ e) × (taken_in phase ≡ suc k) × (sealed_in phase ≡ e - 1) → parts_below r.shards e (suc k) ≡ parts_below r.shards (epoch_of phase) (taken_in phase)
    next phase (epoch, taken, sealed) = ap (λ (n : ℕ). parts_below r.shards n (suc k)) (sym epoch) ∙ ap (parts_below r.shards (epoch_of phase)) (sym taken)

pub seals_any_alike : SealsAlike
seals_any_alike s r c e h of full pos =
    let epoch : epoch_of c.phase ≡ e = ap epoch_of full in
    let item : seal_item e c.list (sealed_now c) ≡ seal_at s r e = (seals_any_life s r c e h of full pos).0 in
    let tips = full_tips s r c e of full pos in record {
      store = of.store;
      leaves = of.leaves;
      closings = of.closings;
      seals = ap (λ (xs : List SealItem). xs ++ seal_item (epoch_of c.phase) c.list (sealed_now c) ∷ []) of.seals ∙ ap (λ (n : ℕ). r.seals ++ seal_item n c.list (sealed_now c) ∷ []) epoch ∙ ap (λ (x : SealItem). r.seals ++ x ∷ []) item;
      parts = refl;
      tips = tips ∙ ap (λ (n : ℕ). put_all [] (flat_map tips_of (parts_up_to r.shards n))) (sym epoch) ∙ ap (λ (ps : List Part). put_all [] (flat_map tips_of ps)) (sym (append-nil (parts_up_to r.shards (epoch_of c.phase))));
      list = of.list;
    }

-- of an honest life too
pub seals_alike : (s : Store) (r : Chronicle) (c : CloserState) (e : ℕ) → Honest s r → IsCloserOf s r c → c.phase ≡ Full e → 1 ≤ e
    → IsCloserOf s (record r { seals = r.seals ++ seal_at s r e ∷ [] }) (after_seal c)
seals_alike s r c e h = seals_any_alike s r c e (rightly s r h)

pub publishes_alike : PublishesAlike
publishes_alike s r c e of sealed next =
    let none : c.parts ≡ [] = of.parts ∙ ap (λ (x : Phase). parts_below r.shards (epoch_of x) (taken_in x)) sealed in
    let back : epoch_of c.phase + 1 - 1 ≡ epoch_of c.phase = omega arith in
    let count : sealed_in c.phase ≡ epoch_of c.phase + 1 - 1 = ap sealed_in sealed ∙ sym (ap epoch_of sealed) ∙ sym back in record {
      store = of.store;
      leaves = of.leaves;
      closings = of.closings;
      seals = of.seals;
      parts = none;
      tips = of.tips ∙ ap (λ (n : ℕ). put_all [] (flat_map tips_of (parts_up_to r.shards n ++ c.parts))) count;
      list = λ k lt. sym (next k lt) ∙ ap (λ (n : ℕ). list_text s.families (get_or r.shards k []) (n + 1)) (sym (ap epoch_of sealed));
    }
