-- The list of an epoch stays as a shard's items grow.
use Rattle.std.proofs.Common.{◌≡◌, ℕ, zero, suc, ◌+◌, ◌-◌, ◌<◌, ◌≤◌, List, [], ◌∷◌, ◌++◌, length, map, get_or, take, Option, Ok, inl, inr, refl, sym, ap, subst, ◌∙◌, arith}
use Rattle.std.specs.Prelude.{filter_map}
use Rattle.std.specs.List.{AllByRecursion}
use Rattle.std.proofs.lemmas.List.{append-nil, map-append, length-map, get_or_append_left, get_or_at, get_or_past, take_more}
use Rattle.std.proofs.lemmas.List.Elements.{filter_map-append}
use Rattle.std.proofs.lemmas.Bool.{cases_lt}
use Rattle.cp_chain.specs.Each.{Each}
use Rattle.cp_chain.proofs.Each.{each_front, each_last, snoc}
use Rattle.cp_core.specs.Honest.{IsItemOf}
use Rattle.cp_core.proofs.RowLemmas.{freezes-append}
use Rattle.cp_core.specs.Life.{FreezeItem, RowItem, as_freeze, freezes, list_text, nexts, row_item}
use Rattle.cp_core.specs.Store.{SpellsFamilies, list_at, or_nil}
use Rattle.cp_core.specs.declared.item.Item.{Item}
use Rattle.cp_core.specs.declared.item.Item.TheVariants.{Frozen, Row}
use Rattle.cp_families.specs.Families.{FamilyRow, families_of, key_of}
use Rattle.cp_families.specs.Writers.{family_of}

pub nexts-append : (xs ys : List Item) → nexts (xs ++ ys) ≡ nexts xs ++ nexts ys
nexts-append xs ys = ap (map (λ (f : FreezeItem). f.next)) (filter_map-append as_freeze xs ys) ∙ map-append (λ (f : FreezeItem). f.next) (filter_map as_freeze xs) (filter_map as_freeze ys)

pub nexts_length : (xs : List Item) → length (nexts xs) ≡ freezes xs
nexts_length xs = length-map (filter_map as_freeze xs) (λ (f : FreezeItem). f.next)

-- what comes behind leaves the lists alone up to the epoch that the items in front are in
pub text_front : (first : List ℕ) (front back : List Item) (n : ℕ) → n ≤ freezes front + 1 → list_text first (front ++ back) n ≡ list_text first front n
unfolding list_text
text_front first front back n le =
    ap (λ (l : List (List ℕ)). get_or (first ∷ l) (n - 1) first) (nexts-append front back)
    ∙ get_or_append_left (first ∷ nexts front) (nexts back) first (n - 1) (omega (arith, le, nexts_length front))

pub text_row : (first : List ℕ) (items : List Item) (r : RowItem) (n : ℕ) → list_text first (items ++ row_item r ∷ []) n ≡ list_text first items n
unfolding list_text
text_row first items r n = ap (λ (l : List (List ℕ)). get_or (first ∷ l) (n - 1) first) (nexts-append items (row_item r ∷ []) ∙ append-nil (nexts items))

-- the list that a freeze brings is that of the next epoch
pub text_next : (first : List ℕ) (items : List Item) (m : ℕ) (next : List ℕ) (n : ℕ) → n ≡ freezes items + 1 → list_text first (items ++ Frozen m next ∷ []) (n + 1) ≡ next
unfolding list_text
text_next first items m next n at =
    ap (λ (l : List (List ℕ)). get_or (first ∷ l) (n + 1 - 1) first) (nexts-append items (Frozen m next ∷ []))
    ∙ get_or_at (first ∷ nexts items) next [] first (n + 1 - 1) (omega (arith, at, nexts_length items))

pub list_row : (first : List ℕ) (items : List Item) (r : RowItem) (n : ℕ) → list_at first (items ++ row_item r ∷ []) n ≡ list_at first items n
unfolding list_at
list_row first items r n = ap (λ (t : List ℕ). or_nil (families_of t)) (text_row first items r n)

pub list_front : (first : List ℕ) (front back : List Item) (n : ℕ) → n ≤ freezes front + 1 → list_at first (front ++ back) n ≡ list_at first front n
unfolding list_at
list_front first front back n le = ap (λ (t : List ℕ). or_nil (families_of t)) (text_front first front back n le)

-- ---- one item after another

only_one : (x : List ℕ) (i : ℕ) → get_or (x ∷ []) i x ≡ x
only_one x zero = refl
only_one x (suc i) = refl

pub text_nil : (first : List ℕ) (n : ℕ) → list_text first [] n ≡ first
unfolding list_text
text_nil first n = only_one first (n - 1)

text_past : (first : List ℕ) (items : List Item) (n : ℕ) → freezes items + 1 < n → list_text first items n ≡ first
unfolding list_text
text_past first items n lt = get_or_past (first ∷ nexts items) (n - 1) first (omega (arith, lt, nexts_length items))

freezes_next : (items : List Item) (m : ℕ) (next : List ℕ) → freezes (items ++ Frozen m next ∷ []) ≡ freezes items + 1
freezes_next items m next = freezes-append items (Frozen m next ∷ [])

-- a freeze leaves all lists alone but that of the next epoch
text_other : (first : List ℕ) (items : List Item) (m : ℕ) (next : List ℕ) (n : ℕ) → (n ≡ freezes items + 1 + 1 → ⊥) → list_text first (items ++ Frozen m next ∷ []) n ≡ list_text first items n
text_other first items m next n other =
    elim (cases_lt (freezes items + 1) n) [
      | inl later ↦ text_past first (items ++ Frozen m next ∷ []) n (omega (arith, later, other, freezes_next items m next)) ∙ sym (text_past first items n later)
      | inr le ↦ text_front first items (Frozen m next ∷ []) n le
    ]

item_more : (first : List ℕ) (items : List Item) (i : ℕ) (x : Item) (n : ℕ) → x ≡ get_or items i x → i < length items → list_text first (take (i + 1) items) n ≡ list_text first (take i items ++ x ∷ []) n
item_more first items i x n is lt = ap (λ (xs : List Item). list_text first xs n) (take_more items i x lt ∙ ap (λ (y : Item). take i items ++ y ∷ []) (sym is))

pub more_freeze : (first : List ℕ) (items : List Item) (i : ℕ) (x : Item) (m : ℕ) (next : List ℕ) (n : ℕ) → x ≡ get_or items i x → i < length items → x ≡ Frozen m next → n ≡ freezes (take i items) + 1 + 1 → next ≡ list_text first (take (i + 1) items) n
more_freeze first items i x m next n is lt at now =
    sym (item_more first items i x n is lt ∙ ap (λ (y : Item). list_text first (take i items ++ y ∷ []) n) at ∙ ap (λ (k : ℕ). list_text first (take i items ++ Frozen m next ∷ []) k) now ∙ text_next first (take i items) m next (freezes (take i items) + 1) refl)

pub more_other : (first : List ℕ) (items : List Item) (i : ℕ) (x : Item) (m : ℕ) (next : List ℕ) (n : ℕ) → x ≡ get_or items i x → i < length items → x ≡ Frozen m next → (n ≡ freezes (take i items) + 1 + 1 → ⊥) → list_text first (take i items) n ≡ list_text first (take (i + 1) items) n
more_other first items i x m next n is lt at other =
    sym (item_more first items i x n is lt ∙ ap (λ (y : Item). list_text first (take i items ++ y ∷ []) n) at ∙ text_other first (take i items) m next n other)

pub more_row : (first : List ℕ) (items : List Item) (i : ℕ) (x : Item) (n : ℕ) → x ≡ get_or items i x → i < length items → ((m : ℕ) (next : List ℕ) → x ≡ Frozen m next → ⊥) → list_text first (take i items) n ≡ list_text first (take (i + 1) items) n
more_row first items i x n is lt row = sym (item_more first items i x n is lt ∙ go x row)
  where
    go : (x : Item) → ((m : ℕ) (next : List ℕ) → x ≡ Frozen m next → ⊥) → list_text first (take i items ++ x ∷ []) n ≡ list_text first (take i items) n
    go (Row pass leaf pages entry) row = text_row first (take i items) (record { pass = pass; leaf = leaf; pages = pages; entry = entry }) n
    go (Frozen m next) row = absurd (row m next refl)

-- ---- the rows that a list's text spells

pub key_listed : (first : List ℕ) (items : List Item) (text : List ℕ) (rows : List FamilyRow) (n epoch family block client : ℕ) (key : Option (List ℕ)) → families_of text ≡ Ok rows → text ≡ list_text first items n → n ≡ epoch → family ≡ family_of block → key ≡ key_of rows family client → key ≡ key_of (list_at first items epoch) (family_of block) client
unfolding list_at
key_listed first items text rows n epoch family block client key reads is at of found =
    let listed : rows ≡ or_nil (families_of (list_text first items epoch)) = ap or_nil (sym reads) ∙ ap (λ (t : List ℕ). or_nil (families_of t)) (is ∙ ap (list_text first items) at) in
    found ∙ ap (λ (l : List FamilyRow). key_of l family client) listed ∙ ap (λ (f : ℕ). key_of (or_nil (families_of (list_text first items epoch))) f client) of

-- ---- the lists of items that stand rightly spell families

pub all_append : {A : Type 0} (P : A → Type 0) (xs ys : List A) → AllByRecursion P xs → AllByRecursion P ys → AllByRecursion P (xs ++ ys)
all_append P [] ys a b = b
all_append P (x ∷ xs) ys a b = (a.0, all_append P xs ys a.1 b)

nexts_spell : (k : ℕ) (items : List Item) → Each (IsItemOf k) items → AllByRecursion SpellsFamilies (nexts items)
nexts_spell k items each = snoc (λ xs. Each (IsItemOf k) xs → AllByRecursion SpellsFamilies (nexts xs)) (λ each. tt) step items each
  where
    step : (xs : List Item) (x : Item) → (Each (IsItemOf k) xs → AllByRecursion SpellsFamilies (nexts xs)) → Each (IsItemOf k) (xs ++ x ∷ []) → AllByRecursion SpellsFamilies (nexts (xs ++ x ∷ []))
    step xs (Row pass leaf pages entry) so_far each =
        let x : Item = Row pass leaf pages entry in
        subst (AllByRecursion SpellsFamilies) (sym (nexts-append xs (x ∷ []) ∙ append-nil (nexts xs))) (so_far (each_front (IsItemOf k) xs (x ∷ []) each))
    step xs (Frozen m next) so_far each =
        let x : Item = Frozen m next in
        let f : IsItemOf k xs x = each_last (IsItemOf k) xs x each in
        subst (AllByRecursion SpellsFamilies) (sym (nexts-append xs (x ∷ []))) (all_append SpellsFamilies (nexts xs) (next ∷ []) (so_far (each_front (IsItemOf k) xs (x ∷ []) each)) (f.1, tt))

one_spells : (first : List ℕ) (texts : List (List ℕ)) (i : ℕ) → SpellsFamilies first → AllByRecursion SpellsFamilies texts → SpellsFamilies (get_or texts i first)
one_spells first [] i spells all = spells
one_spells first (t ∷ ts) zero spells all = all.0
one_spells first (t ∷ ts) (suc i) spells all = one_spells first ts i spells all.1

pub list_spells : (k : ℕ) (first : List ℕ) (items : List Item) → Each (IsItemOf k) items → SpellsFamilies first → (n : ℕ) → SpellsFamilies (list_text first items n)
unfolding list_text
list_spells k first items each spells n = one_spells first (first ∷ nexts items) (n - 1) spells (spells, nexts_spell k items each)
