-- A block's rows by epoch, as its shard's items grow.
use Rattle.std.proofs.Common.{◌≡◌, ℕ, ◌+◌, ◌-◌, ◌<◌, ◌≤◌, List, [], ◌∷◌, ◌++◌, length, Ok, inl, inr, refl, sym, ap, subst, ◌∙◌, append_assoc, arith}
use Rattle.std.specs.Prelude.{filter}
use Rattle.std.proofs.lemmas.List.{append-nil, length-append, map-append}
use Rattle.std.proofs.lemmas.List.Elements.{filter-append}
use Rattle.std.proofs.lemmas.Bool.{eq-eqb, ne_eqb, le-leb, lt-leb, cases_eq, cases_lt}
use Rattle.cp_bytes.specs.Hashes.{genesis, head_after}
use Rattle.cp_chain.proofs.Chain.{head_after-append, latest-append}
use Rattle.cp_chain.proofs.Each.{each_front, each_last, snoc}
use Rattle.cp_chain.specs.Each.{Each}
use Rattle.cp_chain.specs.Legal.{latest, put_at}
use Rattle.cp_core.proofs.RowLemmas.{freezes-append, rows_of-append, rows_of_freeze, rows_of_nil, rows_of_one, rows_of_other, spells_reads}
use Rattle.cp_core.specs.Honest.{IsItemOf, IsRowOf}
use Rattle.cp_core.specs.Life.{RowItem, cut, entries, freezes, in_epoch, is_of_epoch, is_up_to_epoch, row_item, rows_of, tip_after, up_to}
use Rattle.cp_core.specs.declared.item.Item.{Item}
use Rattle.cp_core.specs.declared.item.Item.TheVariants.{Frozen, Row}
use Rattle.cp_statements.specs.Entry.{Entry, entry_of}
use Rattle.cp_tips.specs.Tip.{fresh}

-- ---- one more item

pub row_same : (items : List Item) (r : RowItem) (e : Entry) (b : ℕ) → entry_of r.entry ≡ Ok e → e.block ≡ b → rows_of (items ++ row_item r ∷ []) b ≡ rows_of items b ++ r ∷ []
row_same items r e b h same = rows_of-append items (row_item r ∷ []) b ∙ ap (λ l. rows_of items b ++ l) (rows_of_one r e [] b h same ∙ ap (λ l. r ∷ l) (rows_of_nil b))

pub row_other : (items : List Item) (r : RowItem) (e : Entry) (b : ℕ) → entry_of r.entry ≡ Ok e → (e.block ≡ b → ⊥) → rows_of (items ++ row_item r ∷ []) b ≡ rows_of items b
row_other items r e b h other = rows_of-append items (row_item r ∷ []) b ∙ ap (λ l. rows_of items b ++ l) (rows_of_other r e [] b h other ∙ rows_of_nil b) ∙ append-nil _

pub freeze_rows : (items : List Item) (n : ℕ) (next : List ℕ) (b : ℕ) → rows_of (items ++ Frozen n next ∷ []) b ≡ rows_of items b
freeze_rows items n next b = rows_of-append items (Frozen n next ∷ []) b ∙ ap (λ l. rows_of items b ++ l) (rows_of_freeze n next [] b ∙ rows_of_nil b) ∙ append-nil _

pub freezes_row : (items : List Item) (r : RowItem) → freezes (items ++ row_item r ∷ []) ≡ freezes items
freezes_row items r = omega (arith, freezes-append items (row_item r ∷ []))

pub freezes_more : (items : List Item) (n : ℕ) (next : List ℕ) → freezes (items ++ Frozen n next ∷ []) ≡ freezes items + 1
freezes_more items n next = freezes-append items (Frozen n next ∷ [])

up_to_one : (r : RowItem) (e : Entry) (n : ℕ) → entry_of r.entry ≡ Ok e → e.epoch ≤ n → filter (is_up_to_epoch n) (r ∷ []) ≡ r ∷ []
up_to_one r e n h le = rw (h, le-leb e.epoch n le) refl

up_to_none : (r : RowItem) (e : Entry) (n : ℕ) → entry_of r.entry ≡ Ok e → n < e.epoch → filter (is_up_to_epoch n) (r ∷ []) ≡ []
up_to_none r e n h lt = rw (h, lt-leb e.epoch n lt) refl

in_one : (r : RowItem) (e : Entry) (n : ℕ) → entry_of r.entry ≡ Ok e → e.epoch ≡ n → filter (is_of_epoch n) (r ∷ []) ≡ r ∷ []
in_one r e n h same = rw (h, eq-eqb e.epoch n same) refl

in_none : (r : RowItem) (e : Entry) (n : ℕ) → entry_of r.entry ≡ Ok e → (e.epoch ≡ n → ⊥) → filter (is_of_epoch n) (r ∷ []) ≡ []
in_none r e n h other = rw (h, ne_eqb e.epoch n other) refl

pub up_to_push : (items : List Item) (r : RowItem) (e : Entry) (b n : ℕ) → entry_of r.entry ≡ Ok e → e.block ≡ b → e.epoch ≤ n → up_to (items ++ row_item r ∷ []) b n ≡ up_to items b n ++ r ∷ []
unfolding up_to
up_to_push items r e b n h same le = ap (filter (is_up_to_epoch n)) (row_same items r e b h same) ∙ filter-append (is_up_to_epoch n) (rows_of items b) (r ∷ []) ∙ ap (λ l. filter (is_up_to_epoch n) (rows_of items b) ++ l) (up_to_one r e n h le)

pub up_to_later : (items : List Item) (r : RowItem) (e : Entry) (b n : ℕ) → entry_of r.entry ≡ Ok e → e.block ≡ b → n < e.epoch → up_to (items ++ row_item r ∷ []) b n ≡ up_to items b n
unfolding up_to
up_to_later items r e b n h same lt = ap (filter (is_up_to_epoch n)) (row_same items r e b h same) ∙ filter-append (is_up_to_epoch n) (rows_of items b) (r ∷ []) ∙ ap (λ l. filter (is_up_to_epoch n) (rows_of items b) ++ l) (up_to_none r e n h lt) ∙ append-nil _

pub up_to_other : (items : List Item) (r : RowItem) (e : Entry) (b n : ℕ) → entry_of r.entry ≡ Ok e → (e.block ≡ b → ⊥) → up_to (items ++ row_item r ∷ []) b n ≡ up_to items b n
unfolding up_to
up_to_other items r e b n h other = ap (filter (is_up_to_epoch n)) (row_other items r e b h other)

pub up_to_freeze : (items : List Item) (m : ℕ) (next : List ℕ) (b n : ℕ) → up_to (items ++ Frozen m next ∷ []) b n ≡ up_to items b n
unfolding up_to
up_to_freeze items m next b n = ap (filter (is_up_to_epoch n)) (freeze_rows items m next b)

pub in_push : (items : List Item) (r : RowItem) (e : Entry) (b n : ℕ) → entry_of r.entry ≡ Ok e → e.block ≡ b → e.epoch ≡ n → in_epoch (items ++ row_item r ∷ []) b n ≡ in_epoch items b n ++ r ∷ []
unfolding in_epoch
in_push items r e b n h same at = ap (filter (is_of_epoch n)) (row_same items r e b h same) ∙ filter-append (is_of_epoch n) (rows_of items b) (r ∷ []) ∙ ap (λ l. filter (is_of_epoch n) (rows_of items b) ++ l) (in_one r e n h at)

pub in_later : (items : List Item) (r : RowItem) (e : Entry) (b n : ℕ) → entry_of r.entry ≡ Ok e → e.block ≡ b → (e.epoch ≡ n → ⊥) → in_epoch (items ++ row_item r ∷ []) b n ≡ in_epoch items b n
unfolding in_epoch
in_later items r e b n h same at = ap (filter (is_of_epoch n)) (row_same items r e b h same) ∙ filter-append (is_of_epoch n) (rows_of items b) (r ∷ []) ∙ ap (λ l. filter (is_of_epoch n) (rows_of items b) ++ l) (in_none r e n h at) ∙ append-nil _

pub in_other : (items : List Item) (r : RowItem) (e : Entry) (b n : ℕ) → entry_of r.entry ≡ Ok e → (e.block ≡ b → ⊥) → in_epoch (items ++ row_item r ∷ []) b n ≡ in_epoch items b n
unfolding in_epoch
in_other items r e b n h other = ap (filter (is_of_epoch n)) (row_other items r e b h other)

pub in_freeze : (items : List Item) (m : ℕ) (next : List ℕ) (b n : ℕ) → in_epoch (items ++ Frozen m next ∷ []) b n ≡ in_epoch items b n
unfolding in_epoch
in_freeze items m next b n = ap (filter (is_of_epoch n)) (freeze_rows items m next b)

-- ---- the rows are in the order of their epochs

-- what the order of epochs makes of the three filters
pub record Ordered (items : List Item) (b : ℕ) : Type 0 where
  pub all : (n : ℕ) → freezes items + 1 ≤ n → up_to items b n ≡ rows_of items b
  pub none : (n : ℕ) → freezes items + 1 < n → in_epoch items b n ≡ []
  pub parts : (n : ℕ) → up_to items b n ≡ up_to items b (n - 1) ++ in_epoch items b n
  pub prefix : (n : ℕ) → (rest : List RowItem) × (rows_of items b ≡ up_to items b n ++ rest)
  pub nothing : up_to items b 0 ≡ []

ordered_nil : (b : ℕ) → Ordered [] b
unfolding up_to in_epoch rows_of
ordered_nil b = record { all = λ n le. refl; none = λ n lt. refl; parts = λ n. refl; prefix = λ n. ([], refl); nothing = refl }

ordered_freeze : (items : List Item) (m : ℕ) (next : List ℕ) (b : ℕ) → Ordered items b → Ordered (items ++ Frozen m next ∷ []) b
ordered_freeze items m next b o = record {
  all = λ n le. up_to_freeze items m next b n ∙ o.all n (omega (arith, le, freezes_more items m next)) ∙ sym (freeze_rows items m next b);
  none = λ n lt. in_freeze items m next b n ∙ o.none n (omega (arith, lt, freezes_more items m next));
  parts = λ n. up_to_freeze items m next b n ∙ o.parts n ∙ rw (up_to_freeze items m next b (n - 1), in_freeze items m next b n) refl;
  prefix = λ n. ((o.prefix n).0, freeze_rows items m next b ∙ (o.prefix n).1 ∙ ap (λ l. l ++ (o.prefix n).0) (sym (up_to_freeze items m next b n)));
  nothing = up_to_freeze items m next b 0 ∙ o.nothing;
}

ordered_other : (items : List Item) (r : RowItem) (e : Entry) (b : ℕ) → entry_of r.entry ≡ Ok e → (e.block ≡ b → ⊥) → Ordered items b → Ordered (items ++ row_item r ∷ []) b
ordered_other items r e b h other o = record {
  all = λ n le. up_to_other items r e b n h other ∙ o.all n (omega (arith, le, freezes_row items r)) ∙ sym (row_other items r e b h other);
  none = λ n lt. in_other items r e b n h other ∙ o.none n (omega (arith, lt, freezes_row items r));
  parts = λ n. up_to_other items r e b n h other ∙ o.parts n ∙ rw (up_to_other items r e b (n - 1) h other, in_other items r e b n h other) refl;
  prefix = λ n. ((o.prefix n).0, row_other items r e b h other ∙ (o.prefix n).1 ∙ ap (λ l. l ++ (o.prefix n).0) (sym (up_to_other items r e b n h other)));
  nothing = up_to_other items r e b 0 h other ∙ o.nothing;
}

ordered_row : (items : List Item) (r : RowItem) (e : Entry) (b : ℕ) → entry_of r.entry ≡ Ok e → e.block ≡ b → e.epoch ≡ freezes items + 1 → Ordered items b → Ordered (items ++ row_item r ∷ []) b
ordered_row items r e b h same at o = record {
  all = λ n le. up_to_push items r e b n h same (omega (arith, le, at, freezes_row items r)) ∙ ap (λ l. l ++ r ∷ []) (o.all n (omega (arith, le, freezes_row items r))) ∙ sym (row_same items r e b h same);
  none = λ n lt. in_later items r e b n h same (omega (arith, lt, at, freezes_row items r)) ∙ o.none n (omega (arith, lt, freezes_row items r));
  parts = λ n. parts n;
  prefix = λ n. prefix n;
  nothing = up_to_later items r e b 0 h same (omega (arith, at)) ∙ o.nothing;
}
  where
    prefix : (n : ℕ) → (rest : List RowItem) × (rows_of (items ++ row_item r ∷ []) b ≡ up_to (items ++ row_item r ∷ []) b n ++ rest)
    prefix n =
        elim (cases_lt n e.epoch) [
          | inl lt ↦ ((o.prefix n).0 ++ r ∷ [], row_same items r e b h same ∙ ap (λ l. l ++ r ∷ []) ((o.prefix n).1 ∙ ap (λ l. l ++ (o.prefix n).0) (sym (up_to_later items r e b n h same lt))) ∙ append_assoc (up_to (items ++ row_item r ∷ []) b n) (o.prefix n).0 (r ∷ []))
          | inr le ↦ ([], row_same items r e b h same ∙ ap (λ l. l ++ r ∷ []) (sym (o.all n (omega (arith, le, at)))) ∙ sym (up_to_push items r e b n h same le) ∙ sym (append-nil (up_to (items ++ row_item r ∷ []) b n)))
        ]

    parts : (n : ℕ) → up_to (items ++ row_item r ∷ []) b n ≡ up_to (items ++ row_item r ∷ []) b (n - 1) ++ in_epoch (items ++ row_item r ∷ []) b n
    parts n =
        elim (cases_lt n e.epoch) [
          | inl lt ↦ rw (up_to_later items r e b n h same lt, up_to_later items r e b (n - 1) h same (omega (arith, lt)), in_later items r e b n h same (omega (arith, lt))) (o.parts n)
          | inr le ↦ elim (cases_eq e.epoch n) [
            | inl eq ↦ rw (up_to_push items r e b n h same le, up_to_later items r e b (n - 1) h same (omega (arith, eq, at)), in_push items r e b n h same eq) (ap (λ l. l ++ r ∷ []) (o.parts n) ∙ append_assoc (up_to items b (n - 1)) (in_epoch items b n) (r ∷ []))
            | inr ne ↦
                let before : e.epoch ≤ n - 1 = omega (arith, le, ne) in
                let empty : in_epoch items b n ≡ [] = o.none n (omega (arith, before, at, le, ne)) in
                let same_rows : up_to items b n ≡ up_to items b (n - 1) = o.parts n ∙ ap (λ l. up_to items b (n - 1) ++ l) empty ∙ append-nil (up_to items b (n - 1)) in
                rw (up_to_push items r e b n h same le, up_to_push items r e b (n - 1) h same before, in_later items r e b n h same ne, empty, same_rows) (sym (append-nil (up_to items b (n - 1) ++ r ∷ [])))
          ]
        ]

pub ordered : (k : ℕ) (items : List Item) (b : ℕ) → Each (IsItemOf k) items → Ordered items b
ordered k items b each = snoc (λ xs. Each (IsItemOf k) xs → Ordered xs b) (λ each. ordered_nil b) step items each
  where
    step : (xs : List Item) (x : Item) → (Each (IsItemOf k) xs → Ordered xs b) → Each (IsItemOf k) (xs ++ x ∷ []) → Ordered (xs ++ x ∷ []) b
    step xs (Row pass leaf pages entry) so_far each =
        let r : RowItem = record { pass = pass; leaf = leaf; pages = pages; entry = entry } in
        let f : IsRowOf k xs r = each_last (IsItemOf k) xs (row_item r) each in
        let o = so_far (each_front (IsItemOf k) xs (row_item r ∷ []) each) in
        let h = spells_reads r.entry f.entry f.spells in
        elim (cases_eq f.entry.block b) [
          | inl same ↦ ordered_row xs r f.entry b h same f.epoch o
          | inr other ↦ ordered_other xs r f.entry b h other o
        ]
    step xs (Frozen m next) so_far each = ordered_freeze xs m next b (so_far (each_front (IsItemOf k) xs (Frozen m next ∷ []) each))

-- ---- the tips at the ends of epochs

pub put_after : (b : ℕ) (ts : List (List ℕ)) → put_at (tip_after b ts) ≡ latest (put_at (fresh b)) ts
unfolding tip_after
put_after b ts = refl

pub count_after : (b : ℕ) (ts : List (List ℕ)) → (tip_after b ts).count ≡ length ts
unfolding tip_after
count_after b ts = refl

pub head_after_tip : (b : ℕ) (ts : List (List ℕ)) → (tip_after b ts).head ≡ head_after (genesis b) ts
unfolding tip_after
head_after_tip b ts = refl

parts_of_entries : (items : List Item) (b n : ℕ) → Ordered items b → entries (up_to items b n) ≡ entries (up_to items b (n - 1)) ++ entries (in_epoch items b n)
parts_of_entries items b n o = ap entries (o.parts n) ∙ map-append (λ (r : RowItem). r.entry) (up_to items b (n - 1)) (in_epoch items b n)

pub put_law : (items : List Item) (b n : ℕ) → Ordered items b → latest (put_at (cut items b (n - 1))) (entries (in_epoch items b n)) ≡ put_at (cut items b n)
put_law items b n o =
    ap (λ p. latest p (entries (in_epoch items b n))) (put_after b _) ∙ sym (latest-append (put_at (fresh b)) (entries (up_to items b (n - 1))) (entries (in_epoch items b n)))
    ∙ ap (latest (put_at (fresh b))) (sym (parts_of_entries items b n o)) ∙ sym (put_after b _)

pub count_law : (items : List Item) (b n : ℕ) → Ordered items b → (cut items b n).count ≡ (cut items b (n - 1)).count + length (entries (in_epoch items b n))
count_law items b n o =
    count_after b _ ∙ ap length (parts_of_entries items b n o) ∙ length-append (entries (up_to items b (n - 1))) (entries (in_epoch items b n)) ∙ ap (λ (m : ℕ). m + length (entries (in_epoch items b n))) (sym (count_after b _))

pub head_law : (items : List Item) (b n : ℕ) → Ordered items b → (cut items b n).head ≡ head_after (cut items b (n - 1)).head (entries (in_epoch items b n))
head_law items b n o =
    head_after_tip b _ ∙ ap (head_after (genesis b)) (parts_of_entries items b n o) ∙ head_after-append (genesis b) (entries (up_to items b (n - 1))) (entries (in_epoch items b n))
    ∙ ap (λ (h : List ℕ). head_after h (entries (in_epoch items b n))) (sym (head_after_tip b _))

-- ---- what lies behind a place

-- rows of later epochs leave earlier ones alone
pub up_to_stays : (k : ℕ) (front back : List Item) (b m : ℕ) → Each (IsItemOf k) (front ++ back) → m ≤ freezes front → up_to (front ++ back) b m ≡ up_to front b m
up_to_stays k front back b m each le = snoc (λ xs. Each (IsItemOf k) (front ++ xs) → up_to (front ++ xs) b m ≡ up_to front b m) (λ each. ap (λ xs. up_to xs b m) (append-nil front)) step back each
  where
    step : (xs : List Item) (x : Item) → (Each (IsItemOf k) (front ++ xs) → up_to (front ++ xs) b m ≡ up_to front b m) → Each (IsItemOf k) (front ++ (xs ++ x ∷ [])) → up_to (front ++ (xs ++ x ∷ [])) b m ≡ up_to front b m
    step xs x so_far each =
        let regroup : (front ++ xs) ++ x ∷ [] ≡ front ++ (xs ++ x ∷ []) = append_assoc front xs (x ∷ []) in
        let here : Each (IsItemOf k) ((front ++ xs) ++ x ∷ []) = subst (λ l. Each (IsItemOf k) l) (sym regroup) each in
        let before = so_far (each_front (IsItemOf k) (front ++ xs) (x ∷ []) here) in
        ap (λ l. up_to l b m) (sym regroup) ∙ one (front ++ xs) x (omega (arith, le, freezes-append front xs)) (each_last (IsItemOf k) (front ++ xs) x here) ∙ before
      where
        one : (xs : List Item) (x : Item) → m ≤ freezes xs → IsItemOf k xs x → up_to (xs ++ x ∷ []) b m ≡ up_to xs b m
        one xs (Row pass leaf pages entry) le f =
            let r : RowItem = record { pass = pass; leaf = leaf; pages = pages; entry = entry } in
            let h = spells_reads r.entry f.entry f.spells in
            elim (cases_eq f.entry.block b) [
              | inl same ↦ up_to_later xs r f.entry b m h same (omega (arith, f.epoch, le))
              | inr other ↦ up_to_other xs r f.entry b m h other
            ]
        one xs (Frozen n next) le f = up_to_freeze xs n next b m

pub in_epoch-append : (xs ys : List Item) (b n : ℕ) → in_epoch (xs ++ ys) b n ≡ in_epoch xs b n ++ in_epoch ys b n
unfolding in_epoch
in_epoch-append xs ys b n = ap (filter (is_of_epoch n)) (rows_of-append xs ys b) ∙ filter-append (is_of_epoch n) (rows_of xs b) (rows_of ys b)
