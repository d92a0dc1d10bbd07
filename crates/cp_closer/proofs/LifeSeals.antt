-- What a closer of a life seals is the life's.
use Rattle.std.proofs.Common.{◌≡◌, ℕ, zero, suc, ◌+◌, ◌-◌, ◌≤◌, Bool, true, false, cond, not, ◌||◌, eqb, ltb, List, [], ◌∷◌, ◌++◌, length, map, flat_map, get_or, Option, Some, None, refl, sym, ap, ◌∙◌, inl, inr, arith}
use Rattle.std.specs.List.{AllByRecursion, sum_by}
use Rattle.std.specs.List.Sorted.{IsStrictlySortedBy}
use Rattle.std.specs.Ordering.{nat_cmp}
use Rattle.std.specs.BTreeMap.{is_at}
use Rattle.std.specs.Map.{keys_of}
use Rattle.std.specs.declared.cmp.Ordering.TheVariants.{Less}
use Rattle.std.proofs.lemmas.Bool.{cases_lt, cases_eq, eq-eqb, ne_eqb, eqb-true, lt-ltb, le-ltb}
use Rattle.std.proofs.lemmas.List.{append-nil, length-map, nil_from_length}
use Rattle.std.proofs.lemmas.List.Sums.{sum_by-cons}
use Rattle.std.proofs.lemmas.Grind.{flat_map-append}
use Rattle.sha2.specs.Sha256.{sha256}
use Rattle.cp_statements.specs.Closing.{Closing, closing_text}
use Rattle.cp_tips.specs.Tip as spec
use Rattle.cp_tips.specs.Table.{TableRow, table_text}
use Rattle.cp_tips.specs.Tips.{rows_of}
use Rattle.cp_tips.specs.declared.tip.Tip.{Tip}
use Rattle.cp_chain.specs.Log.{LogPart, log_text}
use Rattle.cp_core.specs.Store.{Store}
use Rattle.cp_core.specs.Life.{RowItem, rows_in, in_epoch, up_to, entries, tip_after, cut, items_of, shard_of}
use Rattle.cp_core.specs.Sealing.{blocks_up_to, table_at, link_after, families_at, closing_at, seal_at}
use Rattle.cp_core.specs.Honest.{Honest, StandsRightly}
use Rattle.cp_core.specs.Frozen.{tip_from, blocks_in, frozen_block, frozen_part}
use Rattle.cp_core.specs.declared.chronicle.Chronicle.{Chronicle}
use Rattle.cp_core.specs.declared.item.Item.{Item}
use Rattle.cp_core.specs.declared.phase.Phase.{Phase}
use Rattle.cp_core.specs.declared.phase.Phase.TheVariants.{Full}
use Rattle.cp_core.specs.declared.seal_item.SealItem.{SealItem}
use Rattle.cp_core.specs.Frozen.{Gained}
use Rattle.cp_core.specs.Frozen.{Part}
use Rattle.cp_core.proofs.EpochLemmas.{Ordered, ordered, count_after, count_law}
use Rattle.cp_core.proofs.TableLemmas.{Above, Rising, member, rising_blocks}
use Rattle.cp_closer.specs.Taken.{put_all, tips_of, texts_of}
use Rattle.cp_closer.specs.Closer.{CloserState, epoch_of, segments, log_parts, closing_now, sealed_now, seal_item}
use Rattle.cp_closer.specs.Kept.{taken_in}
use Rattle.cp_closer.specs.Laws.{parts_below, parts_up_to, sealed_in, IsCloserOf, log_at, SealsTheLife}
use Rattle.cp_closer.proofs.Puts.{put_all-append}
use Rattle.cp_closer.proofs.Inserts.{Sorted, at_block, at_self, not_at, cmp_less, put_all_sorted, same_values, or_else, or_else_assoc, else_none, last_at, put_all_at}
use Rattle.cp_closer.proofs.Lives.{rightly, member_now, member_nowhere, member_everywhere, member_so_far}

-- ---- values of ascending blocks

abbrev pub valued : {X : Type 0} → (ℕ → X) → List ℕ → List (ℕ × X)
valued g bs = map (λ b. (b, g b)) bs

valued_sorted : {X : Type 0} (g : ℕ → X) (bs : List ℕ) → Rising bs → Sorted (valued g bs)
unfolding IsStrictlySortedBy
valued_sorted g [] up = tt
valued_sorted g (b ∷ bs) up = (above bs up.0, valued_sorted g bs up.1)
  where
    above : (cs : List ℕ) → Above b cs → AllByRecursion (λ y. nat_cmp b y ≡ Less) (keys_of (valued g cs))
    above [] a = tt
    above (c ∷ cs) a = (cmp_less b c a.0, above cs a.1)

valued_at : {X : Type 0} (g : ℕ → X) (b : ℕ) (bs : List ℕ) → at_block b (valued g bs) ≡ cond (member b bs) (Some (g b)) None
valued_at g b [] = refl
valued_at {X = X} g b (c ∷ bs) = elim (cases_eq c b) [
  | inl same ↦ rw (eq-eqb c b same) (ap (λ (t : Bool). cond t (Some (g c)) (at_block b (valued g bs))) (ap (λ (x : ℕ). is_at (nat_cmp x) c) (sym same) ∙ at_self c) ∙ ap (λ (x : ℕ). Some (g x)) same)
  | inr ne ↦ rw (ne_eqb c b ne) (ap (λ (t : Bool). cond t (Some (g c)) (at_block b (valued g bs))) (not_at b c (λ e. ne (sym e))) ∙ valued_at g b bs)
]

pub valued_last : {X : Type 0} (g : ℕ → X) (b : ℕ) (bs : List ℕ) → last_at b (valued g bs) ≡ cond (member b bs) (Some (g b)) None
unfolding last_at or_else
valued_last g b [] = refl
valued_last {X = X} g b (c ∷ bs) = ap (λ (o : Option X). or_else o (cond (eqb c b) (Some (g c)) None)) (valued_last g b bs) ∙ pick (member b bs) (eqb c b) refl
  where
    pick : (m t : Bool) → eqb c b ≡ t → or_else (cond m (Some (g b)) None) (cond t (Some (g c)) None) ≡ cond (t || m) (Some (g b)) None
    pick true true e = refl
    pick true false e = refl
    pick false true e = ap (λ (x : ℕ). Some (g x)) (eqb-true c b e)
    pick false false e = refl

last_at-append : {X : Type 0} (b : ℕ) (xs ys : List (ℕ × X)) → last_at b (xs ++ ys) ≡ or_else (last_at b ys) (last_at b xs)
unfolding last_at or_else
last_at-append b [] ys = sym (else_none (last_at b ys))
last_at-append {X = X} b (x ∷ xs) ys = ap (λ (o : Option X). or_else o (cond (eqb x.0 b) (Some x.1) None)) (last_at-append b xs ys) ∙ or_else_assoc (last_at b ys) (last_at b xs) (cond (eqb x.0 b) (Some x.1) None)

-- ---- the values that the parts of an epoch bring

-- what a block is given by its shard's part
abbrev pub given : {X : Type 0} → (List Item → ℕ → X) → Chronicle → ℕ → ℕ → Option X
given g r n b = cond (not (eqb (length (in_epoch (items_of r b) b n)) 0)) (Some (g (items_of r b) b)) None

-- f gives the values of a part, which are those of its blocks by g
abbrev pub Gives : {X : Type 0} → (Part → List (ℕ × X)) → (List Item → ℕ → X) → ℕ → Type 0
Gives f g n = (k : ℕ) (items : List Item) → f (frozen_part k items n) ≡ valued (g items) (blocks_in (rows_in items) n)

pub below : {X : Type 0} (f : Part → List (ℕ × X)) (g : List Item → ℕ → X) (n : ℕ) → Gives f g n → (r : Chronicle) → StandsRightly r → (b k : ℕ) → k ≤ 16 → last_at b (flat_map f (parts_below r.shards n k)) ≡ cond (ltb (shard_of b) k) (given g r n b) None
unfolding last_at or_else
below f g n gives r h b zero le = rw (le-ltb (shard_of b) 0 (omega arith)) refl
below {X = X} f g n gives r h b (suc k) le =
    ap (last_at b) (flat_map-append f (parts_below r.shards n k) (frozen_part k items n ∷ []) ∙ ap (λ (xs : List (ℕ × X)). flat_map f (parts_below r.shards n k) ++ xs) (append-nil (f (frozen_part k items n)) ∙ gives k items))
    ∙ last_at-append b (flat_map f (parts_below r.shards n k)) (valued (g items) (blocks_in (rows_in items) n))
    ∙ ap (λ (o : Option X). or_else o (last_at b (flat_map f (parts_below r.shards n k)))) (valued_last (g items) b (blocks_in (rows_in items) n))
    ∙ ap (or_else (cond (member b (blocks_in (rows_in items) n)) (Some (g items b)) None)) (below f g n gives r h b k (omega (arith, le)))
    ∙ step
  where
    items : List Item
    items = get_or r.shards k []

    further : (shard_of b ≡ k → ⊥) → cond (ltb (shard_of b) k) (given g r n b) None ≡ cond (ltb (shard_of b) (suc k)) (given g r n b) None
    further away = elim (cases_lt (shard_of b) k) [
      | inl lt ↦ rw (lt-ltb (shard_of b) k lt, lt-ltb (shard_of b) (suc k) (omega (arith, lt))) refl
      | inr le ↦ rw (le-ltb (shard_of b) k le, le-ltb (shard_of b) (suc k) (omega (arith, le, away))) refl
    ]

    step : or_else (cond (member b (blocks_in (rows_in items) n)) (Some (g items b)) None) (cond (ltb (shard_of b) k) (given g r n b) None) ≡ cond (ltb (shard_of b) (suc k)) (given g r n b) None
    step = elim (cases_eq (shard_of b) k) [
      | inl here ↦ rw (le-ltb (shard_of b) k (omega (arith, here)), lt-ltb (shard_of b) (suc k) (omega (arith, here))) (
          else_none (cond (member b (blocks_in (rows_in items) n)) (Some (g items b)) None)
          ∙ ap (λ (t : Bool). cond t (Some (g items b)) None) (member_now items b n)
          ∙ ap (λ (j : ℕ). cond (not (eqb (length (in_epoch (get_or r.shards j []) b n)) 0)) (Some (g (get_or r.shards j []) b)) None) (sym here))
      | inr away ↦ rw (member_nowhere k items b n (h.each k (omega (arith, le))) away) (further away)
    ]

whole : {X : Type 0} (f : Part → List (ℕ × X)) (g : List Item → ℕ → X) (n : ℕ) → Gives f g n → (r : Chronicle) → StandsRightly r → (b : ℕ) → last_at b (flat_map f (parts_below r.shards n 16)) ≡ given g r n b
whole f g n gives r h b = below f g n gives r h b 16 (omega arith) ∙ rw (lt-ltb (shard_of b) 16 (omega arith)) refl

map-map : {A B C : Type 0} (f : B → C) (g : A → B) (xs : List A) → map f (map g xs) ≡ map (λ x. f (g x)) xs
map-map f g [] = refl
map-map f g (x ∷ xs) = ap (λ ys. f (g x) ∷ ys) (map-map f g xs)

abbrev pub tip_then : ℕ → List Item → ℕ → Tip
tip_then n items b = tip_from (cut items b n)

abbrev texts_then : ℕ → List Item → ℕ → List (List ℕ)
texts_then n items b = entries (in_epoch items b n)

pub gives_tips : (n : ℕ) → Gives tips_of (tip_then n) n
gives_tips n k items = map-map (λ (x : Gained). (x.block, x.after)) (frozen_block items n) (blocks_in (rows_in items) n)

gives_texts : (n : ℕ) → Gives texts_of (texts_then n) n
gives_texts n k items = map-map (λ (x : Gained). (x.block, x.entries)) (frozen_block items n) (blocks_in (rows_in items) n)

-- ---- the tips

-- a tip that counts
abbrev pub seen : spec.Tip → Option Tip
seen t = cond (eqb t.count 0) None (Some (tip_from t))

abbrev pub tips_up_to : Chronicle → ℕ → List (ℕ × Tip)
tips_up_to r n = put_all [] (flat_map tips_of (parts_up_to r.shards n))

pub tip_of_epoch : (r : Chronicle) (b n : ℕ) → Ordered (items_of r b) b → or_else (given (tip_then (suc n)) r (suc n) b) (seen (cut (items_of r b) b n)) ≡ seen (cut (items_of r b) b (suc n))
unfolding or_else
tip_of_epoch r b n o = elim (cases_eq (length (in_epoch items b (suc n))) 0) [
  | inl none ↦ rw (eq-eqb (length (in_epoch items b (suc n))) 0 none) (ap (λ (rs : List RowItem). seen (tip_after b (entries rs))) (sym (stays none)))
  | inr some ↦ rw (ne_eqb (length (in_epoch items b (suc n))) 0 some, ne_eqb (cut items b (suc n)).count 0 (counts some)) refl
]
  where
    items : List Item
    items = items_of r b

    before : suc n - 1 ≡ n
    before = omega arith

    stays : length (in_epoch items b (suc n)) ≡ 0 → up_to items b (suc n) ≡ up_to items b n
    stays none = o.parts (suc n) ∙ ap (λ (rs : List RowItem). up_to items b (suc n - 1) ++ rs) (nil_from_length (in_epoch items b (suc n)) none) ∙ append-nil (up_to items b (suc n - 1)) ∙ ap (up_to items b) before

    counts : (length (in_epoch items b (suc n)) ≡ 0 → ⊥) → (cut items b (suc n)).count ≡ 0 → ⊥
    counts some none = some (omega (arith, none, count_law items b (suc n) o, length-map (in_epoch items b (suc n)) (λ (x : RowItem). x.entry)))

pub tip_at : (r : Chronicle) → StandsRightly r → (b n : ℕ) → at_block b (tips_up_to r n) ≡ seen (cut (items_of r b) b n)
tip_at r h b zero =
    let o : Ordered (items_of r b) b = ordered (shard_of b) (items_of r b) b (h.each (shard_of b) (omega arith)) in
    sym (ap (λ (rs : List RowItem). seen (tip_after b (entries rs))) o.nothing ∙ nothing b)
  where
    nothing : (b : ℕ) → seen (tip_after b []) ≡ None
    nothing b = rw (count_after b []) refl
tip_at r h b (suc n) =
    let o : Ordered (items_of r b) b = ordered (shard_of b) (items_of r b) b (h.each (shard_of b) (omega arith)) in
    ap (λ (xs : List (ℕ × Tip)). at_block b (put_all [] xs)) (flat_map-append tips_of (parts_up_to r.shards n) (parts_below r.shards (suc n) 16))
    ∙ ap (at_block b) (put_all-append [] (flat_map tips_of (parts_up_to r.shards n)) (flat_map tips_of (parts_below r.shards (suc n) 16)))
    ∙ put_all_at (tips_up_to r n) (flat_map tips_of (parts_below r.shards (suc n) 16)) b
    ∙ ap (λ (x : Option Tip). or_else x (at_block b (tips_up_to r n))) (whole tips_of (tip_then (suc n)) (suc n) (gives_tips (suc n)) r h b)
    ∙ ap (or_else (given (tip_then (suc n)) r (suc n) b)) (tip_at r h b n)
    ∙ tip_of_epoch r b n o

empty_sorted : (X : Type 0) → Sorted {X = X} []
unfolding IsStrictlySortedBy
empty_sorted X = tt

seen_where : (m : Bool) (t : spec.Tip) → m ≡ not (eqb t.count 0) → cond m (Some (tip_from t)) None ≡ seen t
seen_where m t e = ap (λ (u : Bool). cond u (Some (tip_from t)) None) e ∙ pick (eqb t.count 0)
  where
    pick : (q : Bool) → cond (not q) (Some (tip_from t)) None ≡ cond q None (Some (tip_from t))
    pick true = refl
    pick false = refl

pub tips_are : (r : Chronicle) → StandsRightly r → (n : ℕ) → tips_up_to r n ≡ valued (λ b. tip_from (cut (items_of r b) b n)) (blocks_up_to r n)
tips_are r h n = same_values _ _ (put_all_sorted [] (flat_map tips_of (parts_up_to r.shards n)) (empty_sorted Tip)) (valued_sorted _ (blocks_up_to r n) (rising_blocks _)) (λ b.
    tip_at r h b n
    ∙ sym (seen_where (member b (blocks_up_to r n)) (cut (items_of r b) b n) (member_so_far r h b n))
    ∙ sym (valued_at (λ c. tip_from (cut (items_of r c) c n)) b (blocks_up_to r n)))

pub rows_are : (r : Chronicle) → StandsRightly r → (n : ℕ) → rows_of (tips_up_to r n) ≡ table_at r n
unfolding table_at
rows_are r h n = ap rows_of (tips_are r h n) ∙ map-map (λ (e : ℕ × Tip). record { block = e.0; tip = record { count = e.1.count; version = e.1.version; content = e.1.content; head = e.1.head } }) (λ b. (b, tip_from (cut (items_of r b) b n))) (blocks_up_to r n)

-- ---- the log

pub log_parts_are : (r : Chronicle) → StandsRightly r → (n : ℕ) → log_parts (parts_below r.shards n 16) ≡ (log_at r n).parts
log_parts_are r h n =
    let texts : put_all [] (flat_map texts_of (parts_below r.shards n 16)) ≡ valued (λ b. entries (in_epoch (items_of r b) b n)) (blocks_in (flat_map rows_in r.shards) n) =
    same_values _ _ (put_all_sorted [] (flat_map texts_of (parts_below r.shards n 16)) (empty_sorted (List (List ℕ)))) (valued_sorted _ (blocks_in (flat_map rows_in r.shards) n) (rising_blocks _)) (each n) in
    ap segments texts ∙ map-map (λ (e : ℕ × List (List ℕ)). record { block = e.0; texts = e.1 }) (λ b. (b, entries (in_epoch (items_of r b) b n))) (blocks_in (flat_map rows_in r.shards) n)
  where
    each : (n b : ℕ) → at_block b (put_all [] (flat_map texts_of (parts_below r.shards n 16))) ≡ at_block b (valued (λ b. entries (in_epoch (items_of r b) b n)) (blocks_in (flat_map rows_in r.shards) n))
    each n b =
        put_all_at [] (flat_map texts_of (parts_below r.shards n 16)) b
        ∙ else_none (last_at b (flat_map texts_of (parts_below r.shards n 16)))
        ∙ whole texts_of (texts_then n) n (gives_texts n) r h b
        ∙ ap (λ (t : Bool). cond t (Some (entries (in_epoch (items_of r b) b n))) None) (sym (member_everywhere r h b n))
        ∙ sym (valued_at (λ c. entries (in_epoch (items_of r c) c n)) b (blocks_in (flat_map rows_in r.shards) n))

-- ---- the seal

sum_rows : (tips : List (ℕ × Tip)) → sum_by (λ e. e.1.count) tips ≡ sum_by (λ x. x.tip.count) (rows_of tips)
sum_rows [] = refl
sum_rows (e ∷ es) = sum_by-cons (λ (e : ℕ × Tip). e.1.count) e es ∙ ap (λ (n : ℕ). e.1.count + n) (sum_rows es) ∙ sym (sum_by-cons (λ (x : TableRow). x.tip.count) (record { block = e.0; tip = record { count = e.1.count; version = e.1.version; content = e.1.content; head = e.1.head } }) (rows_of es))

closing : List ℕ → ℕ → List ℕ → List ℕ → List TableRow → Closing
closing id e link families rows = record { store = id; epoch = e; link = link; families = sha256 families; table = sha256 (table_text rows); rows = length rows; entries = sum_by (λ x. x.tip.count) rows }

item : ℕ → ℕ → Closing → List TableRow → List ℕ → SealItem
item e leaf c rows families = record { epoch = e; leaf = leaf; text = closing_text c; table = table_text rows; families = families }

closing_is : (c : CloserState) → closing_now c ≡ closing c.store (epoch_of c.phase) (link_after c.seals) c.list (rows_of c.tips)
unfolding closing
closing_is c =
    let as_row : ℕ × Tip → TableRow = λ e. record { block = e.0; tip = record { count = e.1.count; version = e.1.version; content = e.1.content; head = e.1.head } } in
    ap (λ (n : ℕ). record { store = c.store; epoch = epoch_of c.phase; link = link_after c.seals; families = sha256 c.list; table = sha256 (table_text (rows_of c.tips)); rows = n; entries = sum_by (λ (e : ℕ × Tip). e.1.count) c.tips }) (sym (length-map c.tips as_row))
    ∙ ap (λ (n : ℕ). record { store = c.store; epoch = epoch_of c.phase; link = link_after c.seals; families = sha256 c.list; table = sha256 (table_text (rows_of c.tips)); rows = length (rows_of c.tips); entries = n }) (sum_rows c.tips)

closing_of_life : (s : Store) (r : Chronicle) (e : ℕ) → closing s.id e (link_after r.seals) (families_at s r e) (table_at r e) ≡ closing_at s r e
unfolding closing closing_at
closing_of_life s r e = refl

item_now : (c : CloserState) (e : ℕ) → seal_item e c.list (sealed_now c) ≡ item e (c.leaves - c.closings + (epoch_of c.phase - 1)) (closing_now c) (rows_of c.tips) c.list
unfolding item
item_now c e = refl

item_of_life : (s : Store) (r : Chronicle) (e : ℕ) → item e (s.attestations + (e - 1)) (closing_at s r e) (table_at r e) (families_at s r e) ≡ seal_at s r e
unfolding item seal_at
item_of_life s r e = refl

pub last_epoch : (r : Chronicle) (e : ℕ) → 1 ≤ e → parts_up_to r.shards (e - 1) ++ parts_below r.shards e 16 ≡ parts_up_to r.shards e
last_epoch r zero pos = absurd (omega arith)
last_epoch r (suc n) pos = let before : suc n - 1 ≡ n = omega arith in ap (λ (m : ℕ). parts_up_to r.shards m ++ parts_below r.shards (suc n) 16) before

pub full_parts : (s : Store) (r : Chronicle) (c : CloserState) (e : ℕ) → IsCloserOf s r c → c.phase ≡ Full e → c.parts ≡ parts_below r.shards e 16
full_parts s r c e of full = of.parts ∙ ap (λ (p : Phase). parts_below r.shards (epoch_of p) (taken_in p)) full

pub full_tips : (s : Store) (r : Chronicle) (c : CloserState) (e : ℕ) → IsCloserOf s r c → c.phase ≡ Full e → 1 ≤ e → c.tips ≡ tips_up_to r e
full_tips s r c e of full pos =
    of.tips ∙ ap (λ (p : Phase). put_all [] (flat_map tips_of (parts_up_to r.shards (sealed_in p) ++ c.parts))) full
    ∙ ap (λ (ps : List Part). put_all [] (flat_map tips_of (parts_up_to r.shards (e - 1) ++ ps))) (full_parts s r c e of full)
    ∙ ap (λ (ps : List Part). put_all [] (flat_map tips_of ps)) (last_epoch r e pos)

pub seals_any_life : SealsTheLife
seals_any_life s r c e h of full pos =
    let epoch : epoch_of c.phase ≡ e = ap epoch_of full in
    let rows : rows_of c.tips ≡ table_at r e = ap rows_of (full_tips s r c e of full pos) ∙ rows_are r h e in
    let link : link_after c.seals ≡ link_after r.seals = ap link_after of.seals in
    let store : c.store ≡ s.id = of.store in
    let list : c.list ≡ families_at s r e = of.list 0 (omega arith) ∙ ap (families_at s r) epoch in
    let same : closing c.store (epoch_of c.phase) (link_after c.seals) c.list (rows_of c.tips) ≡ closing s.id e (link_after r.seals) (families_at s r e) (table_at r e) = cc in
    let text : closing_now c ≡ closing_at s r e = closing_is c ∙ same ∙ closing_of_life s r e in
    let leaf : c.leaves - c.closings + (epoch_of c.phase - 1) ≡ s.attestations + (e - 1) = omega (arith, epoch, of.leaves, of.closings) in
    let seal : item e (c.leaves - c.closings + (epoch_of c.phase - 1)) (closing_now c) (rows_of c.tips) c.list ≡ item e (s.attestations + (e - 1)) (closing_at s r e) (table_at r e) (families_at s r e) = cc in
    let parts : log_parts c.parts ≡ (log_at r e).parts = ap log_parts (full_parts s r c e of full) ∙ log_parts_are r h e in (
      item_now c e ∙ seal ∙ item_of_life s r e,
      ap (λ (n : ℕ). log_text (record { epoch = n; parts = log_parts c.parts })) epoch ∙ ap (λ (ps : List LogPart). log_text (record { epoch = e; parts = ps })) parts,
    )

-- of an honest one too
pub seals_the_life : (s : Store) (r : Chronicle) (c : CloserState) (e : ℕ) → Honest s r → IsCloserOf s r c → c.phase ≡ Full e → 1 ≤ e
    → (seal_item e c.list (sealed_now c) ≡ seal_at s r e) × ((sealed_now c).log ≡ log_text (log_at r e))
seals_the_life s r c e h = seals_any_life s r c e (rightly s r h)
