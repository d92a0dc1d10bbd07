-- The numbers of entries: each part adds its own, and all of them together fit.
use Rattle.std.proofs.Common.{◌≡◌, ℕ, zero, suc, ◌+◌, ◌*◌, ◌^◌, ◌<◌, ◌≤◌, Bool, true, false, cond, eqb, List, [], ◌∷◌, length, map, Option, refl, sym, ap, ◌∙◌, inl, inr, zero-add, arith}
use Rattle.std.specs.List.{AllByRecursion, sum_by}
use Rattle.std.specs.List.Sorted.{IsStrictlySortedBy}
use Rattle.std.specs.Map.{values_of}
use Rattle.std.specs.Ordering.{nat_cmp, match_ordering, is_eq}
use Rattle.std.specs.declared.cmp.Ordering.{Ordering}
use Rattle.std.specs.declared.cmp.Ordering.TheVariants.{Less, Equal, Greater}
use Rattle.std.specs.BTreeMap.{insert_entry}
use Rattle.std.proofs.lemmas.Cmp.{ranked}
use Rattle.std.proofs.lemmas.Bool.{cases_eq, eq-eqb, ne_eqb}
use Rattle.std.proofs.lemmas.List.Sums.{sum_by-cons}
use Rattle.cp_tips.specs.declared.tip.Tip.{Tip}
use Rattle.cp_core.specs.Life.{shard_of}
use Rattle.cp_core.specs.Frozen.{Gained}
use Rattle.cp_core.specs.Frozen.{Part}
use Rattle.cp_closer.specs.Taken.{put_all, tips_of, entries_in, count_or_none, count_of, entries_of_shard}
use Rattle.cp_closer.specs.Closer.{blocks_ascend, IsNextBlock}
use Rattle.cp_closer.proofs.Inserts.{Sorted, insert_sorted, none_below, insert_elsewhere, above_each}

-- a tip's count where its block passes
abbrev pub weight : (ℕ → Bool) → ℕ × Tip → ℕ
weight p e = cond (p e.0) e.1.count 0

insert_weight : (p : ℕ → Bool) (tips : List (ℕ × Tip)) (block : ℕ) (t : Tip) → Sorted tips → sum_by (weight p) (insert_entry nat_cmp tips block t) + cond (p block) (count_of tips block) 0 ≡ sum_by (weight p) tips + cond (p block) t.count 0
unfolding IsStrictlySortedBy
insert_weight p [] block t up = pick (p block)
  where
    pick : (b : Bool) → 0 + cond b t.count 0 + cond b 0 0 ≡ 0 + cond b t.count 0
    pick true = omega arith
    pick false = omega arith
insert_weight p (e ∷ es) block t up = pick (nat_cmp block e.0) refl (insert_weight p es block t up.1)
  where
    first : (o : Ordering) → o ≡ nat_cmp block e.0 → o ≡ Less → count_of (e ∷ es) block ≡ 0
    first o is less = ap count_or_none (none_below (e ∷ es) block (sym is ∙ less, above_each e.0 _ block (ranked block e.0 Less (sym (sym is ∙ less))) up.0))

    pick : (o : Ordering) → o ≡ nat_cmp block e.0 → sum_by (weight p) (insert_entry nat_cmp es block t) + cond (p block) (count_of es block) 0 ≡ sum_by (weight p) es + cond (p block) t.count 0
        → sum_by (weight p) (match_ordering o ((block, t) ∷ (e ∷ es)) ((e.0, t) ∷ es) (e ∷ insert_entry nat_cmp es block t)) + cond (p block) (count_of (e ∷ es) block) 0 ≡ sum_by (weight p) (e ∷ es) + cond (p block) t.count 0
    pick Less is h =
        omega (arith, sum_by-cons (weight p) (block, t) (e ∷ es), first Less is refl, none (p block) (count_of (e ∷ es) block) (first Less is refl))
      where
        none : (b : Bool) (n : ℕ) → n ≡ 0 → cond b n 0 ≡ n
        none true n z = refl
        none false n z = sym z
    pick Equal is h =
        let same : block ≡ e.0 = ranked block e.0 Equal is in
        let found : count_of (e ∷ es) block ≡ e.1.count = rw (ap is_eq (sym is)) refl in
        rw (found, same) (omega (arith, sum_by-cons (weight p) (e.0, t) es, sum_by-cons (weight p) e es))
    pick Greater is h =
        let past : count_of (e ∷ es) block ≡ count_of es block = rw (ap is_eq (sym is)) refl in
        rw past (omega (arith, h, sum_by-cons (weight p) e (insert_entry nat_cmp es block t), sum_by-cons (weight p) e es))

-- a block's new entries where it passes
abbrev pub gain : (ℕ → Bool) → Gained → ℕ
gain p x = cond (p x.block) (length x.entries) 0

abbrev pub Counted : List (ℕ × Tip) → Gained → Type 0
Counted tips x = x.after.count ≡ count_of tips x.block + length x.entries

still_counted : (tips : List (ℕ × Tip)) (block : ℕ) (t : Tip) (xs : List Gained) → AllByRecursion (λ y. block < y.block) xs → AllByRecursion (Counted tips) xs → AllByRecursion (Counted (insert_entry nat_cmp tips block t)) xs
still_counted tips block t [] above all = tt
still_counted tips block t (y ∷ ys) above all =
    let later : block < y.block = above.0 in
    (all.0 ∙ ap (λ (o : Option Tip). count_or_none o + length y.entries) (sym (insert_elsewhere tips block t y.block (λ e. omega (arith, later, e)))), still_counted tips block t ys above.1 all.1)

pub put_weight : (p : ℕ → Bool) (tips : List (ℕ × Tip)) (xs : List Gained) → Sorted tips → blocks_ascend xs → AllByRecursion (Counted tips) xs
    → sum_by (weight p) (put_all tips (map (λ x. (x.block, x.after)) xs)) ≡ sum_by (weight p) tips + sum_by (gain p) xs
put_weight p tips [] up above all = omega arith
put_weight p tips (x ∷ xs) up above all =
    let next : List (ℕ × Tip) = insert_entry nat_cmp tips x.block x.after in
    let rest = put_weight p next xs (insert_sorted tips x.block x.after up) above.1 (still_counted tips x.block x.after xs above.0 all.1) in
    let one = insert_weight p tips x.block x.after up in
    let count : x.after.count ≡ count_of tips x.block + length x.entries = all.0 in
    omega (arith, rest, sum_by-cons (gain p) x xs, added (p x.block) (sum_by (weight p) next) (sum_by (weight p) tips) (count_of tips x.block) x.after.count (length x.entries) count one)
  where
    added : (b : Bool) (new old before after n : ℕ) → after ≡ before + n → new + cond b before 0 ≡ old + cond b after 0 → new ≡ old + cond b n 0
    added true new old before after n e h = omega (arith, e, h)
    added false new old before after n e h = omega (arith, h)

-- ---- the shards

abbrev pub is_of : ℕ → ℕ → Bool
is_of shard block = eqb (shard_of block) shard

-- all blocks are of the shard
pub own_gain : (shard : ℕ) (xs : List Gained) → AllByRecursion (λ (x : Gained). shard_of x.block ≡ shard) xs → sum_by (gain (is_of shard)) xs ≡ sum_by (λ x. length x.entries) xs
own_gain shard [] all = refl
own_gain shard (x ∷ xs) all =
    sum_by-cons (gain (is_of shard)) x xs
    ∙ ap (λ (b : Bool). cond b (length x.entries) 0 + sum_by (gain (is_of shard)) xs) (eq-eqb (shard_of x.block) shard all.0)
    ∙ ap (λ (n : ℕ). length x.entries + n) (own_gain shard xs all.1)
    ∙ sym (sum_by-cons (λ (x : Gained). length x.entries) x xs)

other_gain : (shard other : ℕ) (xs : List Gained) → (shard ≡ other → ⊥) → AllByRecursion (λ (x : Gained). shard_of x.block ≡ shard) xs → sum_by (gain (is_of other)) xs ≡ 0
other_gain shard other [] ne all = refl
other_gain shard other (x ∷ xs) ne all =
    sum_by-cons (gain (is_of other)) x xs
    ∙ ap (λ (b : Bool). cond b (length x.entries) 0 + sum_by (gain (is_of other)) xs) (ne_eqb (shard_of x.block) other (λ e. ne (sym all.0 ∙ e)))
    ∙ zero-add (sum_by (gain (is_of other)) xs)
    ∙ other_gain shard other xs ne all.1

pub counted_blocks : (tips : List (ℕ × Tip)) (shard : ℕ) (xs : List Gained) → AllByRecursion (IsNextBlock tips shard) xs → AllByRecursion (Counted tips) xs × AllByRecursion (λ (x : Gained). shard_of x.block ≡ shard) xs
counted_blocks tips shard [] all = (tt, tt)
counted_blocks tips shard (x ∷ xs) all =
    let one : IsNextBlock tips shard x = all.0 in
    let rest = counted_blocks tips shard xs all.1 in
    ((one.counted, rest.0), (one.of_shard, rest.1))

-- each shard has few entries after a part, too
pub still_few : (tips : List (ℕ × Tip)) (part : Part) → Sorted tips → blocks_ascend part.blocks → AllByRecursion (IsNextBlock tips part.shard) part.blocks → entries_of_shard tips part.shard + entries_in part ≤ 2 ^ 27
    → ((shard : ℕ) → entries_of_shard tips shard ≤ 2 ^ 27) → (shard : ℕ) → entries_of_shard (put_all tips (tips_of part)) shard ≤ 2 ^ 27
still_few tips part up above all few before shard =
    let c = counted_blocks tips part.shard part.blocks all in
    let sum = put_weight (is_of shard) tips part.blocks up above c.0 in
    elim (cases_eq part.shard shard) [
      | inl same ↦ omega (arith, sum, own_gain part.shard part.blocks c.1, few, ap (λ (s : ℕ). sum_by (gain (is_of s)) part.blocks) same, ap (entries_of_shard tips) same)
      | inr ne ↦ omega (arith, sum, other_gain part.shard shard part.blocks ne c.1, before shard)
    ]

-- ---- all shards together

upto : ℕ → (ℕ → ℕ) → ℕ
upto zero f = 0
upto (suc n) f = upto n f + f n

upto_add : (n : ℕ) (f g : ℕ → ℕ) → upto n (λ s. f s + g s) ≡ upto n f + upto n g
unfolding upto
upto_add zero f g = refl
upto_add (suc n) f g = omega (arith, upto_add n f g)

upto_same : (n : ℕ) (f g : ℕ → ℕ) → ((s : ℕ) → f s ≡ g s) → upto n f ≡ upto n g
unfolding upto
upto_same zero f g h = refl
upto_same (suc n) f g h = omega (arith, upto_same n f g h, h n)

upto_none : (n s c : ℕ) → n ≤ s → upto n (λ t. cond (eqb s t) c 0) ≡ 0
unfolding upto
upto_none zero s c le = refl
upto_none (suc n) s c le = rw (ne_eqb s n (omega arith)) (omega (arith, upto_none n s c (omega arith)))

upto_one : (n s c : ℕ) → s < n → upto n (λ t. cond (eqb s t) c 0) ≡ c
unfolding upto
upto_one zero s c lt = absurd (omega arith)
upto_one (suc n) s c lt = elim (cases_eq s n) [
  | inl same ↦ rw (eq-eqb s n same) (omega (arith, upto_none n s c (omega arith)))
  | inr ne ↦ rw (ne_eqb s n ne) (omega (arith, upto_one n s c (omega arith)))
]

upto_le : (n : ℕ) (f : ℕ → ℕ) (m : ℕ) → ((s : ℕ) → f s ≤ m) → upto n f ≤ n * m
unfolding upto
upto_le zero f m h = omega arith
upto_le (suc n) f m h = omega (arith, upto_le n f m h, h n)

upto_zero : (n : ℕ) → upto n (λ s. 0) ≡ 0
unfolding upto
upto_zero zero = refl
upto_zero (suc n) = omega (arith, upto_zero n)

by_shard : (tips : List (ℕ × Tip)) → sum_by (λ e. e.1.count) tips ≡ upto 16 (λ s. entries_of_shard tips s)
by_shard [] = sym (upto_zero 16)
by_shard (e ∷ es) =
    sum_by-cons (λ (e : ℕ × Tip). e.1.count) e es
    ∙ ap (λ (n : ℕ). e.1.count + n) (by_shard es)
    ∙ ap (λ (n : ℕ). n + upto 16 (λ s. entries_of_shard es s)) (sym (upto_one 16 (shard_of e.0) e.1.count (omega arith)))
    ∙ sym (upto_add 16 (λ s. cond (eqb (shard_of e.0) s) e.1.count 0) (λ s. entries_of_shard es s))
    ∙ upto_same 16 (λ s. cond (eqb (shard_of e.0) s) e.1.count 0 + entries_of_shard es s) (λ s. entries_of_shard (e ∷ es) s) (λ s. sym (sum_by-cons (weight (is_of s)) e es))

pub few_entries : (tips : List (ℕ × Tip)) → ((shard : ℕ) → entries_of_shard tips shard ≤ 2 ^ 27) → sum_by (λ e. e.1.count) tips ≤ 2 ^ 31
few_entries tips few = omega (arith, by_shard tips, upto_le 16 (entries_of_shard tips) (2 ^ 27) few)

pub sum_values : (tips : List (ℕ × Tip)) → sum_by (λ t. t.count) (values_of tips) ≡ sum_by (λ e. e.1.count) tips
sum_values [] = refl
sum_values (e ∷ es) = sum_by-cons (λ (t : Tip). t.count) e.1 (values_of es) ∙ ap (λ (n : ℕ). e.1.count + n) (sum_values es) ∙ sym (sum_by-cons (λ (e : ℕ × Tip). e.1.count) e es)
