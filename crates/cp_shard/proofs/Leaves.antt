-- Rows whose leaves are counted at most once over all shards have different leaves.
use Rattle.std.proofs.Common.{◌≡◌, ℕ, ◌+◌, ◌<◌, ◌≤◌, inl, inr, Bool, true, false, cond, eqb, List, [], ◌∷◌, ◌++◌, length, get_or, take, refl, sym, ap, subst, ◌∙◌, arith}
use Rattle.std.specs.Prelude.{filter, sum_by, count_by}
use Rattle.std.proofs.lemmas.Bool.{cases_eq, cases_lt, eq-eqb}
use Rattle.std.proofs.lemmas.List.{get_or-take, length-take-le}
use Rattle.std.proofs.lemmas.List.Sums.{length-filter, get_or-le-sum_by, sum_by_more_le}
use Rattle.cp_core.specs.Life.{RowItem, row_item}
use Rattle.cp_core.specs.Honest.{RowAt}
use Rattle.cp_core.specs.declared.chronicle.Chronicle.{Chronicle}
use Rattle.cp_core.specs.declared.item.Item.{Item}
use Rattle.cp_core.specs.declared.item.Item.TheVariants.{Row, Frozen}
use Rattle.cp_shard.specs.Laws.{LeavesDiffer, leaves_in}

-- how many rows have the leaf
abbrev count : ℕ → List Item → ℕ
count x items = count_by (λ y. eqb y x) (leaves_in items)

counted : (x : ℕ) (leaves : List ℕ) → length (filter (λ y. eqb y x) leaves) ≡ count_by (λ y. eqb y x) leaves
counted x leaves = length-filter (λ y. eqb y x) leaves

-- a row with the leaf in front is one more
here : (x : ℕ) (row : RowItem) (items : List Item) → row.leaf ≡ x → count x (row_item row ∷ items) ≡ 1 + count x items
here x row items e =
    omega (
      arith,
      sym (counted x (row.leaf ∷ leaves_in items)) ∙ ap (λ b. length (cond b (row.leaf ∷ filter (λ y. eqb y x) (leaves_in items)) (filter (λ y. eqb y x) (leaves_in items)))) (eq-eqb row.leaf x e),
      counted x (leaves_in items),
    )

-- an item in front takes no row away
more_leaves : (b : Bool) (x leaf : ℕ) (rest : List ℕ) → eqb leaf x ≡ b → count_by (λ y. eqb y x) rest ≤ count_by (λ y. eqb y x) (leaf ∷ rest)
more_leaves true x leaf rest is = omega (arith, sym (counted x (leaf ∷ rest)) ∙ ap (λ b. length (cond b (leaf ∷ filter (λ y. eqb y x) rest) (filter (λ y. eqb y x) rest))) is, counted x rest)
more_leaves false x leaf rest is = omega (arith, sym (counted x (leaf ∷ rest)) ∙ ap (λ b. length (cond b (leaf ∷ filter (λ y. eqb y x) rest) (filter (λ y. eqb y x) rest))) is, counted x rest)

more : (x : ℕ) (item : Item) (items : List Item) → count x items ≤ count x (item ∷ items)
more x (Row pass leaf pages entry) items = more_leaves (eqb leaf x) x leaf (leaves_in items) refl
more x (Frozen e next) items = omega arith

-- a row with the leaf anywhere is counted
within : (x : ℕ) (front : List Item) (row : RowItem) (back : List Item) → row.leaf ≡ x → 1 ≤ count x (front ++ row_item row ∷ back)
within x [] row back e = omega (arith, here x row back e)
within x (item ∷ front) row back e = omega (arith, within x front row back e, more x item (front ++ row_item row ∷ back))

abbrev tail : List Item → List Item
tail [] = []
tail (x ∷ xs) = xs

-- two rows of one shard with the leaf are one
same_place : (x : ℕ) (front₁ : List Item) (row₁ : RowItem) (back₁ : List Item) (front₂ : List Item) (row₂ : RowItem) (back₂ : List Item)
    → row₁.leaf ≡ x → row₂.leaf ≡ x → count x (front₁ ++ row_item row₁ ∷ back₁) ≤ 1 → front₁ ++ row_item row₁ ∷ back₁ ≡ front₂ ++ row_item row₂ ∷ back₂ → front₁ ≡ front₂
same_place x [] row₁ back₁ [] row₂ back₂ e₁ e₂ few same = refl
same_place x [] row₁ back₁ (item ∷ front) row₂ back₂ e₁ e₂ few same =
    let rest : back₁ ≡ front ++ row_item row₂ ∷ back₂ = ap tail same in
    absurd (omega (arith, few, here x row₁ back₁ e₁, subst (λ l. 1 ≤ count x l) (sym rest) (within x front row₂ back₂ e₂)))
same_place x (item ∷ front) row₁ back₁ [] row₂ back₂ e₁ e₂ few same =
    let rest : front ++ row_item row₁ ∷ back₁ ≡ back₂ = ap tail same in
    let all : count x (item ∷ front ++ row_item row₁ ∷ back₁) ≡ 1 + count x back₂ = ap (count x) same ∙ here x row₂ back₂ e₂ in
    absurd (omega (arith, few, all, subst (λ l. 1 ≤ count x l) rest (within x front row₁ back₁ e₁)))
same_place x (item ∷ front₁) row₁ back₁ (other ∷ front₂) row₂ back₂ e₁ e₂ few same =
    let rest : front₁ ≡ front₂ = same_place x front₁ row₁ back₁ front₂ row₂ back₂ e₁ e₂ (omega (arith, few, more x item (front₁ ++ row_item row₁ ∷ back₁))) (ap tail same) in
    let first : item ≡ other = ap (λ l. get_or l 0 item) same in
    subst (λ z. item ∷ front₁ ≡ z ∷ front₂) first (ap (λ l. item ∷ l) rest)

-- two shards' numbers are within the sum
two : (f : List Item → ℕ) (shards : List (List Item)) (i j : ℕ) → i < j → j < length shards → f (get_or shards i []) + f (get_or shards j []) ≤ sum_by f shards
two f shards i j less long =
    let taken : length (take j shards) ≡ j = length-take-le j shards (omega (arith, long)) in
    let low : f (get_or (take j shards) i []) ≤ sum_by f (take j shards) = get_or-le-sum_by f (take j shards) i [] (omega (arith, taken, less)) in
    let is : f (get_or (take j shards) i []) ≡ f (get_or shards i []) = ap f (get_or-take j shards i [] less) in
    omega (arith, low, is, sum_by_more_le f shards j [] long)

-- rows of two shards can't both have the leaf
apart : (r : Chronicle) (x i j : ℕ) → length r.shards ≡ 16 → sum_by (count x) r.shards ≤ 1 → i < j → j < 16 → 1 ≤ count x (get_or r.shards i []) → 1 ≤ count x (get_or r.shards j []) → ⊥
apart r x i j sixteen once less high a b = omega (arith, once, two (count x) r.shards i j less (omega (arith, sixteen, high)), a, b)

at_leaf : (r : Chronicle) (x k : ℕ) (front : List Item) (row : RowItem) → RowAt r k front row → row.leaf ≡ x → 1 ≤ count x (get_or r.shards k [])
at_leaf r x k front row at e = subst (λ l. 1 ≤ count x l) (sym at.2) (within x front row at.1 e)

pub leaves_differ : LeavesDiffer
leaves_differ r sixteen once k₁ front₁ row₁ k₂ front₂ row₂ a b same =
    let x : ℕ = row₂.leaf in
    let one : 1 ≤ count x (get_or r.shards k₁ []) = at_leaf r x k₁ front₁ row₁ a same in
    let other : 1 ≤ count x (get_or r.shards k₂ []) = at_leaf r x k₂ front₂ row₂ b refl in
    elim (cases_lt k₁ k₂) [
      | inl lt ↦ absurd (apart r x k₁ k₂ sixteen (once x) lt b.0 one other)
      | inr ge ↦ elim (cases_lt k₂ k₁) [
        | inl lt ↦ absurd (apart r x k₂ k₁ sixteen (once x) lt a.0 other one)
        | inr le ↦
            let shard : k₁ ≡ k₂ = omega (arith, ge, le) in
            let here₂ : get_or r.shards k₁ [] ≡ front₂ ++ row_item row₂ ∷ b.1 = ap (λ k. get_or r.shards k []) shard ∙ b.2 in
            let few : count x (get_or r.shards k₁ []) ≤ 1 = omega (arith, once x, get_or-le-sum_by (count x) r.shards k₁ [] (omega (arith, sixteen, a.0))) in
            (shard, same_place x front₁ row₁ a.1 front₂ row₂ b.1 same refl (subst (λ l. count x l ≤ 1) a.2 few) (sym a.2 ∙ here₂))
      ]
    ]
