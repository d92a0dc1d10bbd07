-- A closer of a life is one of each life that goes on from it.
use Rattle.std.proofs.Common.{◌≡◌, ℕ, zero, suc, ◌+◌, ◌<◌, ◌≤◌, List, [], ◌∷◌, ◌++◌, length, flat_map, get_or, set, refl, sym, ap, subst, ◌∙◌, inl, inr, arith}
use Rattle.std.proofs.lemmas.Bool.{cases_eq, cases_lt}
use Rattle.std.proofs.lemmas.List.{append-nil, get_or-set_same, get_or-set_other}
use Rattle.cp_chain.specs.Each.{Each}
use Rattle.cp_core.specs.Life.{freezes, list_text}
use Rattle.cp_core.specs.Frozen.{Part, frozen_part}
use Rattle.cp_core.specs.Honest.{IsItemOf, StandsRightly}
use Rattle.cp_core.specs.Kept.{PhaseFits}
use Rattle.cp_core.specs.Machine.{with_items}
use Rattle.cp_core.specs.Store.{Store}
use Rattle.cp_core.specs.declared.chronicle.Chronicle.{Chronicle}
use Rattle.cp_core.specs.declared.item.Item.{Item}
use Rattle.cp_core.specs.declared.phase.Phase.{Phase}
use Rattle.cp_core.specs.declared.phase.Phase.TheVariants.{Running, Half, Full, Sealed}
use Rattle.cp_core.proofs.FrozenLemmas.{part_stays}
use Rattle.cp_core.proofs.ListLemmas.{text_front}
use Rattle.cp_closer.specs.Taken.{put_all, tips_of}
use Rattle.cp_closer.specs.Closer.{CloserState, epoch_of}
use Rattle.cp_closer.specs.Kept.{taken_in}
use Rattle.cp_closer.specs.Laws.{parts_below, parts_up_to, sealed_in, IsCloserOf, IsContinuedBy, HaveFrozen, StaysAlike}

-- ---- all shards' parts

abbrev SamePart : List (List Item) → List (List Item) → ℕ → ℕ → Type 0
SamePart a b n k = frozen_part k (get_or a k []) n ≡ frozen_part k (get_or b k []) n

below_same : (a b : List (List Item)) (n k : ℕ) → ((j : ℕ) → j < k → SamePart a b n j) → parts_below a n k ≡ parts_below b n k
below_same a b n zero h = refl
below_same a b n (suc k) h =
    ap (λ (ps : List Part). ps ++ frozen_part k (get_or a k []) n ∷ []) (below_same a b n k (λ j lt. h j (omega (arith, lt))))
    ∙ ap (λ (p : Part). parts_below b n k ++ p ∷ []) (h k (omega arith))

up_to_same : (a b : List (List Item)) (n : ℕ) → ((m j : ℕ) → m ≤ n → j < 16 → SamePart a b m j) → parts_up_to a n ≡ parts_up_to b n
up_to_same a b zero h = refl
up_to_same a b (suc n) h =
    ap (λ (ps : List Part). ps ++ parts_below a (suc n) 16) (up_to_same a b n (λ m j le lt. h m j (omega (arith, le)) lt))
    ∙ ap (λ (ps : List Part). parts_up_to b n ++ ps) (below_same a b (suc n) 16 (λ j lt. h (suc n) j (omega arith) lt))

-- ---- the closer

-- each shard is in the epoch or behind it
late : (r : Chronicle) (phase : Phase) → HaveFrozen r phase → (k : ℕ) → k < 16 → epoch_of phase ≤ freezes (get_or r.shards k []) + 1
late r (Running e) h k lt = omega (arith, h.sealed k lt)
late r (Half e j) h k lt = omega (arith, h.sealed k lt)
late r (Full e) h k lt = omega (arith, h.sealed k lt)
late r (Sealed e) h k lt = omega (arith, h.sealed k lt)

same_part : (r more : Chronicle) → IsContinuedBy r more → StandsRightly more → (m j : ℕ) → j < 16 → m ≤ freezes (get_or r.shards j []) → SamePart more.shards r.shards m j
same_part r more on rightly m j lt le =
    let rest : List Item = (on.items j lt).0 in
    let is : get_or more.shards j [] ≡ get_or r.shards j [] ++ rest = (on.items j lt).1 in
    ap (λ (xs : List Item). frozen_part j xs m) is ∙ part_stays j m (get_or r.shards j []) rest (subst (Each (IsItemOf j)) is (rightly.each j lt)) le

pub stays_alike : StaysAlike
stays_alike s r more c of frozen on rightly =
    let same : (m j : ℕ) → j < 16 → m ≤ freezes (get_or r.shards j []) → SamePart more.shards r.shards m j = same_part r more on rightly in
    let before : parts_up_to more.shards (sealed_in c.phase) ≡ parts_up_to r.shards (sealed_in c.phase) = up_to_same more.shards r.shards (sealed_in c.phase) (λ m j le lt. same m j lt (omega (arith, le, frozen.sealed j lt))) in
    let now : parts_below more.shards (epoch_of c.phase) (taken_in c.phase) ≡ parts_below r.shards (epoch_of c.phase) (taken_in c.phase) =
    below_same more.shards r.shards (epoch_of c.phase) (taken_in c.phase) (λ j lt. same (epoch_of c.phase) j (frozen.taken j lt).0 (frozen.taken j lt).1) in record {
      store = of.store;
      leaves = of.leaves;
      closings = of.closings;
      seals = of.seals ∙ sym on.seals;
      parts = of.parts ∙ sym now;
      tips = of.tips ∙ ap (λ (ps : List Part). put_all [] (flat_map tips_of (ps ++ c.parts))) (sym before);
      list = λ k lt. of.list k lt ∙ sym (ap (λ (xs : List Item). list_text s.families xs (epoch_of c.phase)) (on.items k lt).1 ∙ text_front s.families (get_or r.shards k []) (on.items k lt).0 (epoch_of c.phase) (late r c.phase frozen k lt));
    }

-- ---- a store's life

-- what the store's phase says of the freezes
pub frozen_fits : (s : Store) (r : Chronicle) (kept : List ℕ) (phase : Phase) (published : ℕ) → PhaseFits s r kept phase published → HaveFrozen r phase
frozen_fits s r kept (Running e) published fits = record { sealed = λ k lt. omega (arith, fits.0 k lt); taken = λ k lt. absurd (omega (arith, lt)) }
frozen_fits s r kept (Half e j) published fits = record { sealed = λ k lt. elim (cases_lt k j) [ inl below ↦ omega (arith, fits.0 k below) | inr le ↦ omega (arith, fits.1 k le lt) ]; taken = λ k lt. (omega (arith, lt, fits.2), omega (arith, fits.0 k lt)) }
frozen_fits s r kept (Full e) published fits = record { sealed = λ k lt. omega (arith, fits.0 k lt); taken = λ k lt. (lt, omega (arith, fits.0 k lt)) }
frozen_fits s r kept (Sealed e) published fits = record { sealed = λ k lt. omega (arith, fits.0 k lt); taken = λ k lt. absurd (omega (arith, lt)) }

one_continued : (r : Chronicle) (k : ℕ) (rest : List Item) → length r.shards ≡ 16 → k < 16 → IsContinuedBy r (with_items r k (get_or r.shards k [] ++ rest))
one_continued r k rest sixteen lt = record { seals = refl; items = λ j in16. at j }
  where
    at : (j : ℕ) → (more : List Item) × (get_or (set r.shards k (get_or r.shards k [] ++ rest)) j [] ≡ get_or r.shards j [] ++ more)
    at j = elim (cases_eq j k) [
      | inl is ↦ (rest, ap (λ (i : ℕ). get_or (set r.shards k (get_or r.shards k [] ++ rest)) i []) is ∙ get_or-set_same r.shards k (get_or r.shards k [] ++ rest) [] (omega (arith, sixteen, lt)) ∙ ap (λ (i : ℕ). get_or r.shards i [] ++ rest) (sym is))
      | inr ne ↦ ([], get_or-set_other r.shards k j (get_or r.shards k [] ++ rest) [] ne ∙ sym (append-nil (get_or r.shards j [])))
    ]

-- a closer is still one of the life where one shard takes on more items
pub closer_stays : (s : Store) (r : Chronicle) (c : CloserState) (k : ℕ) (rest : List Item) → IsCloserOf s r c → HaveFrozen r c.phase → length r.shards ≡ 16 → k < 16 → StandsRightly (with_items r k (get_or r.shards k [] ++ rest))
    → IsCloserOf s (with_items r k (get_or r.shards k [] ++ rest)) c
closer_stays s r c k rest of frozen sixteen lt rightly = stays_alike s r (with_items r k (get_or r.shards k [] ++ rest)) c of frozen (one_continued r k rest sixteen lt) rightly
