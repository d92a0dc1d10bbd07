-- The texts of a block's entries of an epoch, item by item.
use Rattle.std.proofs.Common.{◌≡◌, ℕ, zero, suc, ◌+◌, ◌*◌, ◌^◌, ◌<◌, ◌≤◌, List, [], ◌∷◌, ◌++◌, length, flat_map, get_or, take, Option, Some, None, refl, sym, ap, subst, ◌∙◌, arith}
use Rattle.std.specs.Prelude.{filter}
use Rattle.std.specs.List.{AllByRecursion, cons_option}
use Rattle.std.proofs.lemmas.Grind.{flat_map-append}
use Rattle.std.proofs.lemmas.List.{append-nil, append_assoc, length-append, length-map, map-append, take_more}
use Rattle.std.proofs.lemmas.List.Elements.{filter-append, filter_map-append}
use Rattle.cp_bytes.specs.Fields.{part}
use Rattle.cp_core.proofs.SealLemmas.{fewer}
use Rattle.cp_core.specs.Life.{RowItem, as_row, rows_in, is_of_block, is_of_epoch, rows_of, in_epoch, entries}
use Rattle.cp_core.specs.declared.item.Item.{Item}
use Rattle.cp_shard.specs.Laws.{HasShortRows}
use Rattle.cp_store.specs.Logs.{texts_at}

-- ---- one list behind another

pub in_epoch-append : (xs ys : List Item) (b n : ℕ) → in_epoch (xs ++ ys) b n ≡ in_epoch xs b n ++ in_epoch ys b n
unfolding in_epoch rows_of
in_epoch-append xs ys b n =
    ap (λ (rs : List RowItem). filter (is_of_epoch n) (filter (is_of_block b) rs)) (filter_map-append as_row xs ys)
    ∙ ap (filter (is_of_epoch n)) (filter-append (is_of_block b) (rows_in xs) (rows_in ys))
    ∙ filter-append (is_of_epoch n) (filter (is_of_block b) (rows_in xs)) (filter (is_of_block b) (rows_in ys))

texts_at-append : (xs ys : List Item) (b n : ℕ) → texts_at (xs ++ ys) b n ≡ texts_at xs b n ++ texts_at ys b n
texts_at-append xs ys b n = ap entries (in_epoch-append xs ys b n) ∙ map-append (λ (r : RowItem). r.entry) (in_epoch xs b n) (in_epoch ys b n)

pub texts_more : (items : List Item) (i : ℕ) (x : Item) (b n : ℕ) → i < length items → x ≡ get_or items i x → texts_at (take (i + 1) items) b n ≡ texts_at (take i items) b n ++ texts_at (x ∷ []) b n
texts_more items i x b n lt is =
    ap (λ (xs : List Item). texts_at xs b n) (take_more items i x lt) ∙ texts_at-append (take i items) (get_or items i x ∷ []) b n
    ∙ ap (λ (y : Item). texts_at (take i items) b n ++ texts_at (y ∷ []) b n) (sym is)

pub texts_none : (b n : ℕ) → texts_at [] b n ≡ []
unfolding in_epoch rows_of
texts_none b n = refl

-- ---- how many there are

pub few_texts : (items : List Item) (b n : ℕ) → length (texts_at items b n) ≤ length (rows_in items)
unfolding in_epoch rows_of
few_texts items b n = omega (arith, length-map (filter (is_of_epoch n) (filter (is_of_block b) (rows_in items))) (λ (r : RowItem). r.entry), fewer (is_of_epoch n) (filter (is_of_block b) (rows_in items)), fewer (is_of_block b) (rows_in items))

pub few_rows : (m : ℕ) (shards : List (List Item)) → ((k : ℕ) → k < length shards → length (rows_in (get_or shards k [])) ≤ m) → length (flat_map rows_in shards) ≤ length shards * m
few_rows m [] h = omega arith
few_rows m (xs ∷ shards) h = omega (arith, h 0 (omega arith), few_rows m shards (λ k lt. h (suc k) (omega (arith, lt))), length-append (rows_in xs) (flat_map rows_in shards))

-- ---- a fact on each row

all_cons : (P : RowItem → Type 0) (o : Option RowItem) (rs : List RowItem) → AllByRecursion P (cons_option o rs) → AllByRecursion P (cons_option o []) × AllByRecursion P rs
all_cons P None rs h = (tt, h)
all_cons P (Some r) rs h = ((h.0, tt), h.1)

short_at : (items : List Item) (i : ℕ) (d : Item) → HasShortRows items → i < length items → HasShortRows (get_or items i d ∷ [])
short_at [] i d h lt = absurd (omega (arith, lt))
short_at (y ∷ ys) zero d h lt = (all_cons (λ (r : RowItem). length r.entry < 2 ^ 32) (as_row y) (rows_in ys) h).0
short_at (y ∷ ys) (suc i) d h lt = short_at ys i d (all_cons (λ (r : RowItem). length r.entry < 2 ^ 32) (as_row y) (rows_in ys) h).1 (omega (arith, lt))

pub short_item : (items : List Item) (i : ℕ) (x : Item) → HasShortRows items → i < length items → x ≡ get_or items i x → HasShortRows (x ∷ [])
short_item items i x h lt is = subst (λ (y : Item). HasShortRows (y ∷ [])) (sym is) (short_at items i x h lt)

-- ---- what a loop over the items has come to

pub count_more : (items : List Item) (i : ℕ) (x : Item) (b n : ℕ) → i < length items → x ≡ get_or items i x → length (texts_at (take (i + 1) items) b n) ≡ length (texts_at (take i items) b n) + length (texts_at (x ∷ []) b n)
count_more items i x b n lt is = ap length (texts_more items i x b n lt is) ∙ length-append (texts_at (take i items) b n) (texts_at (x ∷ []) b n)

pub spelled_more : (items : List Item) (i : ℕ) (x : Item) (b n : ℕ) (start old new : List ℕ) → i < length items → x ≡ get_or items i x → old ≡ start ++ flat_map part (texts_at (take i items) b n) → new ≡ old ++ flat_map part (texts_at (x ∷ []) b n)
    → new ≡ start ++ flat_map part (texts_at (take (i + 1) items) b n)
spelled_more items i x b n start old new lt is so_far one =
    one ∙ ap (λ (zs : List ℕ). zs ++ flat_map part (texts_at (x ∷ []) b n)) so_far
    ∙ append_assoc start (flat_map part (texts_at (take i items) b n)) (flat_map part (texts_at (x ∷ []) b n))
    ∙ ap (λ (zs : List ℕ). start ++ zs) (sym (ap (flat_map part) (texts_more items i x b n lt is) ∙ flat_map-append part (texts_at (take i items) b n) (texts_at (x ∷ []) b n)))

pub spelled_none : (b n : ℕ) (start : List ℕ) → start ≡ start ++ flat_map part (texts_at [] b n)
spelled_none b n start = sym (append-nil start) ∙ ap (λ (ts : List (List ℕ)). start ++ flat_map part ts) (sym (texts_none b n))
