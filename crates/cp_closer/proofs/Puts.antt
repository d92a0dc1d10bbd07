-- Values put in by block, one after another.
use Rattle.std.proofs.Common.{◌≡◌, ℕ, suc, ◌+◌, ◌<◌, List, [], ◌∷◌, ◌++◌, length, get_or, take, drop, map, flat_map, refl, sym, ap, ◌∙◌, arith, min, inl, inr, zero-add, suc-add}
use Rattle.std.specs.Ordering.{nat_cmp, match_ordering}
use Rattle.std.specs.declared.cmp.Ordering.{Ordering}
use Rattle.std.specs.declared.cmp.Ordering.TheVariants.{Less, Equal, Greater}
use Rattle.std.specs.BTreeMap.{insert_entry}
use Rattle.std.specs.List.{take-map}
use Rattle.std.specs.Borrow.{Bor}
use Rattle.std.proofs.lemmas.List.{take_more, take_all, take-append-drop, take-append-le, map-append, append-nil}
use Rattle.std.proofs.lemmas.Bool.{cases_lt}
use Rattle.std.proofs.Math.Nat.{min-eq_left}
use Rattle.std.proofs.Math.Seq.{drop-cons}
use Rattle.std.proofs.lemmas.Grind.{flat_map-append}
use Rattle.cp_tips.specs.declared.tip.Tip.{Tip}
use Rattle.cp_core.specs.declared.frozen_block.FrozenBlock.{FrozenBlock}
use Rattle.cp_closer.specs.Taken.{put_all}
use Rattle.cp_closer.specs.View.{texts_shown, IsPartly}

pub put_all-append : {X : Type 0} (values xs ys : List (ℕ × X)) → put_all values (xs ++ ys) ≡ put_all (put_all values xs) ys
put_all-append values [] ys = refl
put_all-append values (x ∷ xs) ys = put_all-append (insert_entry nat_cmp values x.0 x.1) xs ys

-- one more
pub put_all-more : {X A : Type 0} (f : A → ℕ × X) (values : List (ℕ × X)) (xs : List A) (i : ℕ) (d : A) → i < length xs → put_all values (take (i + 1) (map f xs)) ≡ insert_entry nat_cmp (put_all values (take i (map f xs))) (f (get_or xs i d)).0 (f (get_or xs i d)).1
put_all-more f values xs i d lt =
    ap (put_all values) (take-map f (i + 1) xs ∙ ap (map f) (take_more xs i d lt) ∙ map-append f (take i xs) (get_or xs i d ∷ []))
    ∙ put_all-append values (map f (take i xs)) (f (get_or xs i d) ∷ [])
    ∙ ap (λ ys. insert_entry nat_cmp (put_all values ys) (f (get_or xs i d)).0 (f (get_or xs i d)).1) (sym (take-map f i xs))

-- the lists of one more
pub put_all-more_list : {X A : Type 0} (f : A → List (ℕ × X)) (values : List (ℕ × X)) (xs : List A) (i : ℕ) (d : A) → i < length xs → put_all values (flat_map f (take (i + 1) xs)) ≡ put_all (put_all values (flat_map f (take i xs))) (f (get_or xs i d))
put_all-more_list f values xs i d lt =
    ap (λ ys. put_all values (flat_map f ys)) (take_more xs i d lt)
    ∙ ap (put_all values) (flat_map-append f (take i xs) (get_or xs i d ∷ []))
    ∙ put_all-append values (flat_map f (take i xs)) (f (get_or xs i d) ++ [])
    ∙ ap (put_all (put_all values (flat_map f (take i xs)))) (append-nil (f (get_or xs i d)))

-- a block shown as its texts
pub texts_shown-insert_entry : (blocks : List (ℕ × Bor FrozenBlock)) (block : ℕ) (x : Bor FrozenBlock) → texts_shown (insert_entry nat_cmp blocks block x) ≡ insert_entry nat_cmp (texts_shown blocks) block x.now.entries.items
texts_shown-insert_entry [] block x = refl
texts_shown-insert_entry (e ∷ es) block x = pick (nat_cmp block e.0) (texts_shown-insert_entry es block x)
  where
    pick : (o : Ordering) → texts_shown (insert_entry nat_cmp es block x) ≡ insert_entry nat_cmp (texts_shown es) block x.now.entries.items
        → texts_shown (match_ordering o ((block, x) ∷ (e ∷ es)) ((e.0, x) ∷ es) (e ∷ insert_entry nat_cmp es block x))
        ≡ match_ordering o ((block, x.now.entries.items) ∷ ((e.0, e.1.now.entries.items) ∷ texts_shown es)) ((e.0, x.now.entries.items) ∷ texts_shown es) ((e.0, e.1.now.entries.items) ∷ insert_entry nat_cmp (texts_shown es) block x.now.entries.items)
    pick Less h = refl
    pick Equal h = refl
    pick Greater h = ap (λ ys. (e.0, e.1.now.entries.items) ∷ ys) h

-- ---- a loop's step

pub put_step : {X A : Type 0} (f : A → ℕ × X) (values now next : List (ℕ × X)) (ys xs : List A) (i : ℕ) (x : A) → ys ≡ xs → i < length ys → x ≡ get_or ys i x → now ≡ put_all values (take i (map f xs)) → next ≡ insert_entry nat_cmp now (f x).0 (f x).1 → next ≡ put_all values (take (i + 1) (map f xs))
put_step f values now next ys xs i x same lt is before step =
    let here : i < length xs = omega (arith, ap length same) in
    let item : x ≡ get_or xs i x = is ∙ ap (λ zs. get_or zs i x) same in
    step ∙ ap (λ zs. insert_entry nat_cmp zs (f x).0 (f x).1) before
    ∙ ap (λ y. insert_entry nat_cmp (put_all values (take i (map f xs))) (f y).0 (f y).1) item
    ∙ sym (put_all-more f values xs i x here)

pub put_step_list : {X A : Type 0} (f : A → List (ℕ × X)) (values now next : List (ℕ × X)) (xs : List A) (i : ℕ) (x : A) → i < length xs → x ≡ get_or xs i x → now ≡ put_all values (flat_map f (take i xs)) → next ≡ put_all now (f x) → next ≡ put_all values (flat_map f (take (i + 1) xs))
put_step_list f values now next xs i x lt is before step =
    step ∙ ap (λ zs. put_all zs (f x)) before
    ∙ ap (λ y. put_all (put_all values (flat_map f (take i xs))) (f y)) is
    ∙ sym (put_all-more_list f values xs i x lt)

-- ---- the first ones of several lists

take_past : {B : Type 0} (us vs : List B) (m : ℕ) → take (length us + m) (us ++ vs) ≡ us ++ take m vs
take_past [] vs m = rw zero-add refl
take_past (u ∷ us) vs m = rw suc-add (ap (λ zs. u ∷ zs) (take_past us vs m))

fewest : {B : Type 0} (n : ℕ) (us : List B) → take (min n (length us)) us ≡ take n us
fewest n us = elim (cases_lt n (length us)) [
  | inl lt ↦ ap (λ (m : ℕ). take m us) (min-eq_left (omega arith))
  | inr le ↦ take_all (min n (length us)) us (omega arith) ∙ sym (take_all n us le)
]

least : {B : Type 0} (n : ℕ) (us vs : List B) → take (min n (length us)) (us ++ vs) ≡ take n us
least n us vs = take-append-le (min n (length us)) us vs (omega arith) ∙ fewest n us

front : {A X : Type 0} (f : A → List X) (xs : List A) (i n : ℕ) (x : A) → i < length xs → x ≡ get_or xs i x → flat_map f (take i xs) ++ take n (f x) ≡ take (length (flat_map f (take i xs)) + min n (length (f x))) (flat_map f xs)
front {A = A} {X = X} f xs i n x lt is =
    let all : flat_map f xs ≡ flat_map f (take i xs) ++ (f x ++ flat_map f (drop (suc i) xs)) =
    ap (flat_map f) (sym (take-append-drop i xs)) ∙ flat_map-append f (take i xs) (drop i xs)
    ∙ ap (λ (zs : List A). flat_map f (take i xs) ++ flat_map f zs) (drop-cons xs i x lt)
    ∙ ap (λ (y : A). flat_map f (take i xs) ++ (f y ++ flat_map f (drop (suc i) xs))) (sym is) in
    sym (ap (take (length (flat_map f (take i xs)) + min n (length (f x)))) all
    ∙ take_past (flat_map f (take i xs)) (f x ++ flat_map f (drop (suc i) xs)) (min n (length (f x)))
    ∙ ap (λ (zs : List X). flat_map f (take i xs) ++ zs) (least n (f x) (flat_map f (drop (suc i) xs))))

-- where the i-th list was put in partly
pub partly_more : {A : Type 0} (f : A → List (ℕ × Tip)) (values now next : List (ℕ × Tip)) (xs : List A) (i : ℕ) (x : A) → i < length xs → x ≡ get_or xs i x → now ≡ put_all values (flat_map f (take i xs)) → IsPartly now (f x) next → IsPartly values (flat_map f xs) next
partly_more f values now next xs i x lt is before (n, step) = (
  length (flat_map f (take i xs)) + min n (length (f x)),
  step ∙ ap (λ zs. put_all zs (take n (f x))) before ∙ sym (put_all-append values (flat_map f (take i xs)) (take n (f x)))
      ∙ ap (put_all values) (front f xs i n x lt is),
)

seen_twice : {A B C : Type 0} (f : B → C) (g : A → B) (xs : List A) → map f (map g xs) ≡ map (λ x. f (g x)) xs
seen_twice f g [] = refl
seen_twice f g (x ∷ xs) = ap (λ ys. f (g x) ∷ ys) (seen_twice f g xs)

pub flat_twice : {A B C : Type 0} (f : B → List C) (g : A → B) (xs : List A) → flat_map f (map g xs) ≡ flat_map (λ x. f (g x)) xs
flat_twice f g [] = refl
flat_twice f g (x ∷ xs) = ap (λ ys. f (g x) ++ ys) (flat_twice f g xs)

-- a step over blocks that are seen first
pub put_step_seen : {X A B : Type 0} (f : B → ℕ × X) (g : A → B) (values now next : List (ℕ × X)) (ys xs : List A) (i : ℕ) (x : A) → ys ≡ xs → i < length ys → x ≡ get_or ys i x → now ≡ put_all values (take i (map f (map g xs))) → next ≡ insert_entry nat_cmp now (f (g x)).0 (f (g x)).1 → next ≡ put_all values (take (i + 1) (map f (map g xs)))
put_step_seen {X = X} f g values now next ys xs i x same lt is before step =
    put_step (λ y. f (g y)) values now next ys xs i x same lt is (before ∙ ap (λ (zs : List (ℕ × X)). put_all values (take i zs)) (seen_twice f g xs)) step
    ∙ sym (ap (λ (zs : List (ℕ × X)). put_all values (take (i + 1) zs)) (seen_twice f g xs))

-- a step over parts that are seen first
pub put_step_parts : {X A B : Type 0} (f : B → List (ℕ × X)) (g : A → B) (values now next : List (ℕ × X)) (xs : List A) (i : ℕ) (x : A) → i < length xs → x ≡ get_or xs i x → now ≡ put_all values (flat_map f (map g (take i xs))) → next ≡ put_all now (f (g x)) → next ≡ put_all values (flat_map f (map g (take (i + 1) xs)))
put_step_parts {X = X} f g values now next xs i x lt is before step =
    put_step_list (λ y. f (g y)) values now next xs i x lt is (before ∙ ap (put_all values) (flat_twice f g (take i xs))) step
    ∙ sym (ap (put_all values) (flat_twice f g (take (i + 1) xs)))
