-- The parts of a life can be taken.
use Rattle.std.proofs.Common.{◌≡◌, ℕ, zero, suc, ◌-◌, ◌^◌, ◌<◌, ◌≤◌, Bool, true, false, cond, not, eqb, ltb, List, [], ◌∷◌, ◌++◌, length, map, flat_map, get_or, Option, Some, None, refl, sym, ap, subst, ◌∙◌, inl, inr, ◌⊎◌, ◌||◌, arith}
use Rattle.std.specs.Prelude.{filter}
use Rattle.std.specs.List.{AllByRecursion}
use Rattle.std.specs.List.Sorted.{IsStrictlySortedBy}
use Rattle.std.specs.Map.{keys_of}
use Rattle.std.specs.Ordering.{nat_cmp}
use Rattle.std.specs.declared.cmp.Ordering.TheVariants.{Less}
use Rattle.std.proofs.lemmas.Bool.{cases_eq, eq-eqb, ne_eqb, lt-ltb, le-ltb, false≢true, eqb-true, eqb-false}
use Rattle.std.proofs.lemmas.List.{append-nil, append_assoc, length-map}
use Rattle.std.proofs.lemmas.List.Sums.{sum_by-cons}
use Rattle.std.proofs.lemmas.Grind.{flat_map-append}
use Rattle.cp_tips.specs.Tip as spec
use Rattle.cp_tips.specs.declared.tip.Tip.{Tip}
use Rattle.cp_core.specs.Store.{Store}
use Rattle.cp_core.specs.Life.{RowItem, rows_in, rows_of, in_epoch, up_to, is_of_block, is_of_epoch, is_up_to_epoch, entries, cut, items_of, shard_of}
use Rattle.cp_core.specs.Honest.{Honest, StandsRightly}
use Rattle.cp_core.specs.Frozen.{tip_from, blocks_in, frozen_block, frozen_part}
use Rattle.cp_core.specs.declared.chronicle.Chronicle.{Chronicle}
use Rattle.cp_core.specs.declared.item.Item.{Item}
use Rattle.cp_core.specs.declared.phase.Phase.{Phase}
use Rattle.cp_core.specs.declared.phase.Phase.TheVariants.{Half}
use Rattle.cp_core.specs.Frozen.{Gained}
use Rattle.cp_core.specs.Frozen.{Part}
use Rattle.cp_core.proofs.EpochLemmas.{Ordered, ordered, count_after, count_law}
use Rattle.cp_core.proofs.SealLemmas.{fewer}
use Rattle.cp_core.proofs.TableLemmas.{Above, Rising, member, rising_blocks}
use Rattle.cp_closer.specs.Taken.{put_all, tips_of, count_or_none, count_of, entries_of_shard}
use Rattle.cp_closer.specs.Closer.{CloserState, epoch_of, blocks_ascend, IsNextBlock, IsNextPart}
use Rattle.cp_closer.specs.Kept.{taken_in}
use Rattle.cp_closer.specs.Laws.{parts_below, parts_up_to, sealed_in, IsCloserOf, PartsFit}
use Rattle.cp_closer.proofs.Puts.{put_all-append}
use Rattle.cp_closer.proofs.Inserts.{Sorted, at_block, less_cmp, put_all_sorted, put_all_at, or_else, found_each}
use Rattle.cp_closer.proofs.Lives.{rightly, member_now, member_nowhere}
use Rattle.cp_closer.proofs.LifeSeals.{below, tip_at, tip_of_epoch, gives_tips, tip_then, given, seen, tips_up_to}
use Rattle.cp_closer.proofs.Shares.{total, blocks_share}
use Rattle.cp_closer.proofs.Weights.{weight, is_of, own_gain, counted_blocks, put_weight}

-- ---- the tips of a closing that has begun

part_at : (r : Chronicle) → StandsRightly r → (n j : ℕ) → j ≤ 16 → (b : ℕ) → at_block b (put_all [] (flat_map tips_of (parts_up_to r.shards n ++ parts_below r.shards (suc n) j))) ≡ or_else (cond (ltb (shard_of b) j) (given (tip_then (suc n)) r (suc n) b) None) (seen (cut (items_of r b) b n))
part_at r h n j le b =
    ap (λ (xs : List (ℕ × Tip)). at_block b (put_all [] xs)) (flat_map-append tips_of (parts_up_to r.shards n) (parts_below r.shards (suc n) j))
    ∙ ap (at_block b) (put_all-append [] (flat_map tips_of (parts_up_to r.shards n)) (flat_map tips_of (parts_below r.shards (suc n) j)))
    ∙ put_all_at (tips_up_to r n) (flat_map tips_of (parts_below r.shards (suc n) j)) b
    ∙ ap (λ (x : Option Tip). or_else x (at_block b (tips_up_to r n))) (below tips_of (tip_then (suc n)) (suc n) (gives_tips (suc n)) r h b j le)
    ∙ ap (or_else (cond (ltb (shard_of b) j) (given (tip_then (suc n)) r (suc n) b) None)) (tip_at r h b n)

-- before the shard's part and after it
before_part : (r : Chronicle) → StandsRightly r → (n k : ℕ) → k < 16 → (b : ℕ) → shard_of b ≡ k → at_block b (put_all [] (flat_map tips_of (parts_up_to r.shards n ++ parts_below r.shards (suc n) k))) ≡ seen (cut (items_of r b) b n)
unfolding or_else
before_part r h n k lt b of = part_at r h n k (omega (arith, lt)) b ∙ rw (le-ltb (shard_of b) k (omega (arith, of))) refl

after_part : (r : Chronicle) → StandsRightly r → (n k : ℕ) → k < 16 → (b : ℕ) → shard_of b ≡ k → at_block b (put_all [] (flat_map tips_of (parts_up_to r.shards n ++ parts_below r.shards (suc n) (suc k)))) ≡ seen (cut (items_of r b) b (suc n))
after_part r h n k lt b of =
    part_at r h n (suc k) (omega (arith, lt)) b
    ∙ ap (λ (t : Bool). or_else (cond t (given (tip_then (suc n)) r (suc n) b) None) (seen (cut (items_of r b) b n))) (lt-ltb (shard_of b) (suc k) (omega (arith, of)))
    ∙ tip_of_epoch r b n (ordered (shard_of b) (items_of r b) b (h.each (shard_of b) (omega arith)))

count_seen : (t : spec.Tip) → count_or_none (seen t) ≡ t.count
count_seen t = pick (eqb t.count 0) refl
  where
    pick : (q : Bool) → eqb t.count 0 ≡ q → count_or_none (cond q None (Some (tip_from t))) ≡ t.count
    pick true e = sym (eqb-true t.count 0 e)
    pick false e = refl

-- ---- few entries

seen_count : (t : spec.Tip) (x : Tip) → seen t ≡ Some x → x.count ≡ t.count
seen_count t x e = ap count_or_none (sym e) ∙ count_seen t

rising_keys : (tips : List (ℕ × Tip)) → Sorted tips → Rising (keys_of tips)
unfolding IsStrictlySortedBy
rising_keys [] up = tt
rising_keys (e ∷ es) up = (above (keys_of es) up.0, rising_keys es up.1)
  where
    above : (ks : List ℕ) → AllByRecursion (λ y. nat_cmp e.0 y ≡ Less) ks → Above e.0 ks
    above [] all = tt
    above (y ∷ ys) all = (less_cmp e.0 y all.0, above ys all.1)

-- each tip of the shard counts no more than the block's rows
few_by_block : (k : ℕ) (rows : List RowItem) (tips : List (ℕ × Tip)) → AllByRecursion (λ (e : ℕ × Tip). shard_of e.0 ≡ k → e.1.count ≤ length (filter (is_of_block e.0) rows)) tips → entries_of_shard tips k ≤ total (λ b. length (filter (is_of_block b) rows)) (keys_of tips)
few_by_block k rows [] all = omega arith
few_by_block k rows (e ∷ es) all =
    omega (arith, sum_by-cons (weight (is_of k)) e es, few_by_block k rows es all.1, one (cases_eq (shard_of e.0) k))
  where
    one : ((shard_of e.0 ≡ k) ⊎ (shard_of e.0 ≡ k → ⊥)) → cond (eqb (shard_of e.0) k) e.1.count 0 ≤ length (filter (is_of_block e.0) rows)
    one (inl same) = rw (eq-eqb (shard_of e.0) k same) (all.0 same)
    one (inr other) = rw (ne_eqb (shard_of e.0) k other) (omega arith)

few_of_shard : (r : Chronicle) (n k : ℕ) (tips : List (ℕ × Tip)) → Sorted tips → ((b : ℕ) → shard_of b ≡ k → at_block b tips ≡ seen (cut (items_of r b) b n)) → entries_of_shard tips k ≤ length (rows_in (get_or r.shards k []))
unfolding up_to rows_of
few_of_shard r n k tips up at =
    let rows : List RowItem = rows_in (get_or r.shards k []) in
    omega (arith, few_by_block k rows tips (each tips (found_each tips up)), blocks_share (keys_of tips) rows (rising_keys tips up))
  where
    counts : (b : ℕ) (t : Tip) → at_block b tips ≡ Some t → shard_of b ≡ k → t.count ≤ length (filter (is_of_block b) (rows_in (get_or r.shards k [])))
    counts b t found of =
        let tip : t.count ≡ (cut (items_of r b) b n).count = seen_count (cut (items_of r b) b n) t (sym (at b of) ∙ found) in
        let here : items_of r b ≡ get_or r.shards k [] = ap (λ (j : ℕ). get_or r.shards j []) of in
        let rows : RowItem → List ℕ = λ x. x.entry in
        omega (arith, tip, count_after b (entries (up_to (items_of r b) b n)), length-map (up_to (items_of r b) b n) rows, fewer (is_up_to_epoch n) (rows_of (items_of r b) b), ap (λ (items : List Item). length (filter (is_of_block b) (rows_in items))) here)

    each : (es : List (ℕ × Tip)) → AllByRecursion (λ (e : ℕ × Tip). at_block e.0 tips ≡ Some e.1) es → AllByRecursion (λ (e : ℕ × Tip). shard_of e.0 ≡ k → e.1.count ≤ length (filter (is_of_block e.0) (rows_in (get_or r.shards k [])))) es
    each [] all = tt
    each (e ∷ es) all = (counts e.0 e.1 all.0, each es all.1)

-- ---- the part's blocks

ascend_of : (items : List Item) (n : ℕ) (bs : List ℕ) → Rising bs → blocks_ascend (map (frozen_block items n) bs)
ascend_of items n [] up = tt
ascend_of items n (b ∷ bs) up = (above bs up.0, ascend_of items n bs up.1)
  where
    above : (cs : List ℕ) → Above b cs → AllByRecursion (λ (y : Gained). b < y.block) (map (frozen_block items n) cs)
    above [] a = tt
    above (c ∷ cs) a = (a.0, above cs a.1)

short_filter : (p : RowItem → Bool) (rows : List RowItem) → AllByRecursion (λ (x : RowItem). length x.entry < 2 ^ 32) rows → AllByRecursion (λ (x : RowItem). length x.entry < 2 ^ 32) (filter p rows)
short_filter p [] all = tt
short_filter p (x ∷ xs) all = pick (p x) (short_filter p xs all.1)
  where
    pick : (t : Bool) → AllByRecursion (λ (x : RowItem). length x.entry < 2 ^ 32) (filter p xs) → AllByRecursion (λ (x : RowItem). length x.entry < 2 ^ 32) (cond t (x ∷ filter p xs) (filter p xs))
    pick true h = (all.0, h)
    pick false h = h

short_entries : (rows : List RowItem) → AllByRecursion (λ (x : RowItem). length x.entry < 2 ^ 32) rows → AllByRecursion (λ (text : List ℕ). length text < 2 ^ 32) (entries rows)
short_entries [] all = tt
short_entries (x ∷ xs) all = (all.0, short_entries xs all.1)

short_texts : (items : List Item) (b n : ℕ) → AllByRecursion (λ (x : RowItem). length x.entry < 2 ^ 32) (rows_in items) → AllByRecursion (λ (text : List ℕ). length text < 2 ^ 32) (entries (in_epoch items b n))
unfolding in_epoch rows_of
short_texts items b n all = short_entries (filter (is_of_epoch n) (filter (is_of_block b) (rows_in items))) (short_filter (is_of_epoch n) (filter (is_of_block b) (rows_in items)) (short_filter (is_of_block b) (rows_in items) all))

each_member : (P : Gained → Type 0) (items : List Item) (n : ℕ) (bs cs : List ℕ) → ((b : ℕ) → member b bs ≡ true → member b cs ≡ true) → ((b : ℕ) → member b cs ≡ true → P (frozen_block items n b)) → AllByRecursion P (map (frozen_block items n) bs)
each_member P items n [] cs within each = tt
each_member P items n (b ∷ bs) cs within each = (each b (within b (rw (eq-eqb b b refl) refl)), each_member P items n bs cs (λ c in_tail. within c (behind (eqb b c) (member c bs) in_tail)) each)
  where
    behind : (t u : Bool) → u ≡ true → (t || u) ≡ true
    behind true u e = refl
    behind false u e = e

next_block : (r : Chronicle) (c : CloserState) (n k : ℕ) → StandsRightly r → c.tips ≡ put_all [] (flat_map tips_of (parts_up_to r.shards n ++ parts_below r.shards (suc n) k)) → k < 16 → AllByRecursion (λ (x : RowItem). length x.entry < 2 ^ 32) (rows_in (get_or r.shards k []))
    → (b : ℕ) → member b (blocks_in (rows_in (get_or r.shards k [])) (suc n)) ≡ true → IsNextBlock c.tips k (frozen_block (get_or r.shards k []) (suc n) b)
next_block r c n k h tips lt short b is_in = record {
  of_shard = of;
  filled = some (eqb (length (in_epoch items b (suc n))) 0) refl;
  short = short_texts items b (suc n) short;
  counted =
      let o : Ordered items b = ordered k items b (h.each k lt) in
      let before : suc n - 1 ≡ n = omega arith in
      let was : count_of c.tips b ≡ (cut items b n).count = ap (count_of_at b) tips ∙ ap count_or_none (before_part r h n k lt b of) ∙ count_seen (cut (items_of r b) b n) ∙ ap (λ (j : ℕ). (cut (get_or r.shards j []) b n).count) of in
      omega (arith, was, count_law items b (suc n) o, ap (λ (m : ℕ). (cut items b m).count) before);
}
  where
    items : List Item
    items = get_or r.shards k []

    count_of_at : ℕ → List (ℕ × Tip) → ℕ
    count_of_at b tips = count_of tips b

    of : shard_of b ≡ k
    of = elim (cases_eq (shard_of b) k) [
      | inl same ↦ same
      | inr away ↦ absurd (false≢true (sym (member_nowhere k items b (suc n) (h.each k lt) away) ∙ is_in))
    ]

    some : (q : Bool) → eqb (length (in_epoch items b (suc n))) 0 ≡ q → 1 ≤ length (entries (in_epoch items b (suc n)))
    some true e = absurd (false≢true (sym (ap not e) ∙ sym (member_now items b (suc n)) ∙ is_in))
    some false e =
        let f : RowItem → List ℕ = λ x. x.entry in
        omega (arith, eqb-false _ _ e, length-map (in_epoch items b (suc n)) f)

empty_sorted : Sorted {X = Tip} []
unfolding IsStrictlySortedBy
empty_sorted = tt

fits : (s : Store) (r : Chronicle) (c : CloserState) (n k : ℕ) → StandsRightly r → IsCloserOf s r c → c.phase ≡ Half (suc n) k → k < 16 → AllByRecursion (λ (x : RowItem). length x.entry < 2 ^ 32) (rows_in (get_or r.shards k [])) → length (rows_in (get_or r.shards k [])) ≤ 2 ^ 27
    → IsNextPart c (frozen_part k (get_or r.shards k []) (suc n))
fits s r c n k h of half lt short few =
    let items : List Item = get_or r.shards k [] in
    let part : Part = frozen_part k items (suc n) in
    let bs : List ℕ = blocks_in (rows_in items) (suc n) in
    let before : suc n - 1 ≡ n = omega arith in
    let parts : c.parts ≡ parts_below r.shards (suc n) k = of.parts ∙ ap (λ (x : Phase). parts_below r.shards (epoch_of x) (taken_in x)) half in
    let tips : c.tips ≡ put_all [] (flat_map tips_of (parts_up_to r.shards n ++ parts_below r.shards (suc n) k)) = of.tips ∙ ap (λ (m : ℕ). put_all [] (flat_map tips_of (parts_up_to r.shards m ++ c.parts))) (ap sealed_in half ∙ before) ∙ ap (λ (ps : List Part). put_all [] (flat_map tips_of (parts_up_to r.shards n ++ ps))) parts in
    let up : Sorted c.tips = subst Sorted (sym tips) (put_all_sorted [] (flat_map tips_of (parts_up_to r.shards n ++ parts_below r.shards (suc n) k)) empty_sorted) in
    let ascending : blocks_ascend part.blocks = ascend_of items (suc n) bs (rising_blocks (filter (is_of_epoch (suc n)) (rows_in items))) in
    let blocks : AllByRecursion (IsNextBlock c.tips k) part.blocks = each_member (IsNextBlock c.tips k) items (suc n) bs bs (λ b m. m) (next_block r c n k h tips lt short) in
    let counted = counted_blocks c.tips k part.blocks blocks in
    let sum = put_weight (is_of k) c.tips part.blocks up ascending counted.0 in
    let own = own_gain k part.blocks counted.1 in
    let next : put_all c.tips (tips_of part) ≡ put_all [] (flat_map tips_of (parts_up_to r.shards n ++ parts_below r.shards (suc n) (suc k))) =
    ap (λ (ts : List (ℕ × Tip)). put_all ts (tips_of part)) tips
    ∙ sym (put_all-append [] (flat_map tips_of (parts_up_to r.shards n ++ parts_below r.shards (suc n) k)) (tips_of part))
    ∙ ap (put_all []) (ap (λ (ts : List (ℕ × Tip)). flat_map tips_of (parts_up_to r.shards n ++ parts_below r.shards (suc n) k) ++ ts) (sym (append-nil (tips_of part))) ∙ sym (flat_map-append tips_of (parts_up_to r.shards n ++ parts_below r.shards (suc n) k) (part ∷ [])))
    ∙ ap (λ (ps : List Part). put_all [] (flat_map tips_of ps)) (append_assoc (parts_up_to r.shards n) (parts_below r.shards (suc n) k) (part ∷ [])) in
    let bound : entries_of_shard (put_all c.tips (tips_of part)) k ≤ length (rows_in items) = few_of_shard r (suc n) k (put_all c.tips (tips_of part)) (put_all_sorted c.tips (tips_of part) up) (λ b here. ap (at_block b) next ∙ after_part r h n k lt b here) in record {
      turn = half;
      ascending = ascending;
      blocks = blocks;
      few = omega (arith, sum, own, bound, few);
    }

pub any_parts_fit : PartsFit
any_parts_fit s r c zero k h of half lt pos short few = absurd (omega arith)
any_parts_fit s r c (suc n) k h of half lt pos short few = fits s r c n k h of half lt short few

-- those of an honest life too
pub parts_fit : (s : Store) (r : Chronicle) (c : CloserState) (e k : ℕ) → Honest s r → IsCloserOf s r c → c.phase ≡ Half e k → k < 16 → 1 ≤ e
    → AllByRecursion (λ (x : RowItem). length x.entry < 2 ^ 32) (rows_in (get_or r.shards k [])) → length (rows_in (get_or r.shards k [])) ≤ 2 ^ 27
    → IsNextPart c (frozen_part k (get_or r.shards k []) e)
parts_fit s r c e k h = any_parts_fit s r c e k (rightly s r h)
