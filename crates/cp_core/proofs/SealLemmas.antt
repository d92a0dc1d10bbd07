-- The event that seals an epoch.
use Rattle.std.proofs.Common.{◌≡◌, ℕ, zero, suc, ◌+◌, ◌*◌, ◌^◌, ◌<◌, ◌≤◌, Bool, true, false, cond, not, eqb, ltb, List, [], ◌∷◌, ◌++◌, length, map, get_or, Option, Some, None, Result, Ok, Err, refl, sym, ap, subst, ◌∙◌, arith, lit<}
use Rattle.std.specs.Prelude.{flat_map, filter, sum_by}
use Rattle.std.specs.List.{AllByRecursion, list_any}
use Rattle.std.proofs.lemmas.List.{append-nil, length-append, length-map}
use Rattle.std.proofs.lemmas.List.Elements.{filter-append, filter_map-append}
use Rattle.std.proofs.lemmas.Bool.{ne_eqb, eqb-true}
use Rattle.std.proofs.lemmas.List.Recursion.{is_sum_by}
use Rattle.cp_bytes.specs.Hashes.{genesis}
use Rattle.cp_chain.proofs.Chain.{head_after_length, latest-append, latest_nil}
use Rattle.cp_chain.proofs.Each.{each_front, each_last, each_push, each_weaker, snoc}
use Rattle.cp_chain.specs.Each.{Each}
use Rattle.cp_chain.specs.Legal.{Put, latest, ok_and, put_at}
use Rattle.cp_core.proofs.CallLemmas.{PutFits, cond_fits, entry_put, latest_one}
use Rattle.cp_core.proofs.EpochLemmas.{count_after, freeze_rows, head_after_tip, put_after, row_other}
use Rattle.cp_core.proofs.EventLemmas.{SealKeeps, keeps_in, runs_honest}
use Rattle.cp_core.proofs.LifeLemmas.{SameBefore, items_at, seal_moved}
use Rattle.cp_core.proofs.RowLemmas.{spells_reads}
use Rattle.cp_core.proofs.ListLemmas.{all_append}
use Rattle.cp_core.proofs.TableLemmas.{Above, Rising, few_blocks, found_row, member, member_blocks, rises, rising_blocks, row_at, table_again}
use Rattle.cp_core.specs.Honest.{Honest, IsItemOf, IsRowOf, IsSealOf, IsTable, SpellsEntry, StandsRightly, last_of, link_behind}
use Rattle.cp_core.specs.Laws.{SealsAreRight}
use Rattle.cp_core.specs.Kept.{Keeps, PhaseFits}
use Rattle.cp_core.specs.Life.{RowItem, as_row, cut, entries, is_of_block, is_up_to_epoch, items_of, row_item, rows_in, rows_of, shard_of, up_to}
use Rattle.cp_core.specs.Machine.{Admissible, State, run, step}
use Rattle.cp_core.specs.Sealing.{block_read, blocks_of, blocks_up_to, closing_at, insert_block, families_at, link_after, seal_at, table_at}
use Rattle.cp_core.specs.Store.{Store, StoreFits}
use Rattle.cp_core.specs.declared.chronicle.Chronicle.{Chronicle}
use Rattle.cp_core.specs.declared.event.Event.{Event}
use Rattle.cp_core.specs.declared.item.Item.{Item}
use Rattle.cp_core.specs.declared.item.Item.TheVariants.{Frozen, Row}
use Rattle.cp_core.specs.declared.phase.Phase.{Phase}
use Rattle.cp_core.specs.declared.phase.Phase.TheVariants.{Full}
use Rattle.cp_core.specs.declared.seal_item.SealItem.{SealItem}
use Rattle.cp_statements.specs.Closing.{ClosingFits}
use Rattle.cp_statements.specs.Entry.{Entry, entry_of}
use Rattle.cp_tips.specs.Table.{RowFits, TableRow, table_text}
use Rattle.cp_tips.specs.Tip.{fresh}
use Rattle.sha2.proofs.Facts256.{length-sha256}
use Rattle.sha2.specs.Sha256.{sha256}

-- ---- rows of all shards

-- every row's text spells an entry
abbrev Spelled : RowItem → Type 0
Spelled r = (e : Entry) × SpellsEntry r.entry e

all_filter : {A : Type 0} (P : A → Type 0) (p : A → Bool) (xs : List A) → AllByRecursion P xs → AllByRecursion P (filter p xs)
all_filter P p [] a = tt
all_filter {A} P p (x ∷ xs) a = go (p x) (all_filter P p xs a.1)
  where
    go : (b : Bool) → AllByRecursion P (filter p xs) → AllByRecursion P (cond b (x ∷ filter p xs) (filter p xs))
    go true rest = (a.0, rest)
    go false rest = rest

spelled_rows : (k : ℕ) (items : List Item) → Each (IsItemOf k) items → AllByRecursion Spelled (rows_in items)
spelled_rows k items each = snoc (λ xs. Each (IsItemOf k) xs → AllByRecursion Spelled (rows_in xs)) (λ each. tt) step items each
  where
    step : (xs : List Item) (x : Item) → (Each (IsItemOf k) xs → AllByRecursion Spelled (rows_in xs)) → Each (IsItemOf k) (xs ++ x ∷ []) → AllByRecursion Spelled (rows_in (xs ++ x ∷ []))
    step xs (Row pass leaf pages entry) so_far each =
        let r : RowItem = record { pass = pass; leaf = leaf; pages = pages; entry = entry } in
        let f : IsRowOf k xs r = each_last (IsItemOf k) xs (row_item r) each in
        subst (AllByRecursion Spelled) (sym (filter_map-append as_row xs (row_item r ∷ []))) (all_append Spelled (rows_in xs) (r ∷ []) (so_far (each_front (IsItemOf k) xs (row_item r ∷ []) each)) ((f.entry, f.spells), tt))
    step xs (Frozen m next) so_far each = subst (AllByRecursion Spelled) (sym (filter_map-append as_row xs (Frozen m next ∷ []))) (all_append Spelled (rows_in xs) [] (so_far (each_front (IsItemOf k) xs (Frozen m next ∷ []) each)) tt)

-- a fact on each shard, of all rows
all_shards : (P : RowItem → Type 0) (shards : List (List Item)) → ((k : ℕ) → k < length shards → AllByRecursion P (rows_in (get_or shards k []))) → AllByRecursion P (flat_map rows_in shards)
all_shards P [] h = tt
all_shards P (xs ∷ shards) h = all_append P (rows_in xs) (flat_map rows_in shards) (h 0 (omega arith)) (all_shards P shards (λ k lt. h (suc k) (omega (arith, lt))))

few_rows : (m : ℕ) (shards : List (List Item)) → ((k : ℕ) → k < length shards → length (rows_in (get_or shards k [])) ≤ m) → length (flat_map rows_in shards) ≤ length shards * m
few_rows m [] h = omega arith
few_rows m (xs ∷ shards) h = omega (arith, h 0 (omega arith), few_rows m shards (λ k lt. h (suc k) (omega (arith, lt))), length-append (rows_in xs) (flat_map rows_in shards))

none_at_first : (b : ℕ) → rows_of [] b ≡ []
unfolding rows_of
none_at_first b = refl

-- a shard has no rows of another shard's block
none_elsewhere : (k : ℕ) (items : List Item) (b : ℕ) → Each (IsItemOf k) items → (shard_of b ≡ k → ⊥) → rows_of items b ≡ []
none_elsewhere k items b each ne = snoc (λ xs. Each (IsItemOf k) xs → rows_of xs b ≡ []) (λ each. none_at_first b) step items each
  where
    step : (xs : List Item) (x : Item) → (Each (IsItemOf k) xs → rows_of xs b ≡ []) → Each (IsItemOf k) (xs ++ x ∷ []) → rows_of (xs ++ x ∷ []) b ≡ []
    step xs (Row pass leaf pages entry) so_far each =
        let r : RowItem = record { pass = pass; leaf = leaf; pages = pages; entry = entry } in
        let f : IsRowOf k xs r = each_last (IsItemOf k) xs (row_item r) each in
        row_other xs r f.entry b (spells_reads r.entry f.entry f.spells) (λ same. ne (ap shard_of (sym same) ∙ f.shard)) ∙ so_far (each_front (IsItemOf k) xs (row_item r ∷ []) each)
    step xs (Frozen m next) so_far each = freeze_rows xs m next b ∙ so_far (each_front (IsItemOf k) xs (Frozen m next ∷ []) each)

only_one : (p : RowItem → Bool) (shards : List (List Item)) (j : ℕ) → ((k : ℕ) → k < length shards → (j ≡ k → ⊥) → filter p (rows_in (get_or shards k [])) ≡ []) → filter p (flat_map rows_in shards) ≡ filter p (rows_in (get_or shards j []))
only_one p [] j h = refl
only_one p (xs ∷ shards) zero h = filter-append p (rows_in xs) (flat_map rows_in shards) ∙ ap (λ l. filter p (rows_in xs) ++ l) (none p shards (λ k lt. h (suc k) (omega (arith, lt)) (omega arith))) ∙ append-nil _
  where
    none : (p : RowItem → Bool) (shards : List (List Item)) → ((k : ℕ) → k < length shards → filter p (rows_in (get_or shards k [])) ≡ []) → filter p (flat_map rows_in shards) ≡ []
    none p [] h = refl
    none p (xs ∷ shards) h = filter-append p (rows_in xs) (flat_map rows_in shards) ∙ rw (h 0 (omega arith), none p shards (λ k lt. h (suc k) (omega (arith, lt)))) refl
only_one p (xs ∷ shards) (suc j) h =
    filter-append p (rows_in xs) (flat_map rows_in shards) ∙ ap (λ l. l ++ filter p (flat_map rows_in shards)) (h 0 (omega arith) (omega arith))
    ∙ only_one p shards j (λ k lt ne. h (suc k) (omega (arith, lt)) (λ e. ne (omega (arith, e))))

any_left : (p q : RowItem → Bool) (rs : List RowItem) → list_any p (filter q rs) ≡ not (eqb (length (filter q (filter p rs))) 0)
any_left p q [] = refl
any_left p q (r ∷ rs) = go (p r) (q r) refl refl (any_left p q rs)
  where
    go : (t u : Bool) → p r ≡ t → q r ≡ u → list_any p (filter q rs) ≡ not (eqb (length (filter q (filter p rs))) 0)
        → list_any p (cond u (r ∷ filter q rs) (filter q rs)) ≡ not (eqb (length (filter q (cond t (r ∷ filter p rs) (filter p rs)))) 0)
    go true true e f h = rw (e, f, ne_eqb (suc (length (filter q (filter p rs)))) 0 (omega arith)) refl
    go true false e f h = rw f h
    go false true e f h = rw e h
    go false false e f h = h

-- ---- the rows of a block in all shards

rows_everywhere : (r : Chronicle) → StandsRightly r → (b : ℕ) → filter (is_of_block b) (flat_map rows_in r.shards) ≡ rows_of (items_of r b) b
unfolding rows_of
rows_everywhere r h b = only_one (is_of_block b) r.shards (shard_of b) (λ k lt ne. none_elsewhere k (items_at r k) b (h.each k (omega (arith, lt, h.sixteen))) ne)

count_everywhere : (r : Chronicle) → StandsRightly r → (b n : ℕ) → (cut (items_of r b) b n).count ≡ length (filter (is_up_to_epoch n) (filter (is_of_block b) (flat_map rows_in r.shards)))
unfolding up_to
count_everywhere r h b n = count_after b (entries (up_to (items_of r b) b n)) ∙ length-map (up_to (items_of r b) b n) (λ (x : RowItem). x.entry) ∙ ap (λ (l : List RowItem). length (filter (is_up_to_epoch n) l)) (sym (rows_everywhere r h b))

cond_not : {A : Type 0} (t : Bool) (x y : A) → cond (not t) x y ≡ cond t y x
cond_not true x y = refl
cond_not false x y = refl

pub table_is : (r : Chronicle) → StandsRightly r → (n : ℕ) → IsTable r n (table_at r n)
unfolding table_at
table_is r h n = record {
  ascending = rises (λ b. cut (items_of r b) b n) (blocks_up_to r n) (rising_blocks _);
  each = λ b.
      let all : List RowItem = flat_map rows_in r.shards in
      let is_in : member b (blocks_up_to r n) ≡ not (eqb (cut (items_of r b) b n).count 0) =
      member_blocks b (filter (is_up_to_epoch n) all) ∙ any_left (is_of_block b) (is_up_to_epoch n) all ∙ ap (λ (m : ℕ). not (eqb m 0)) (sym (count_everywhere r h b n)) in
      found_row (λ c. cut (items_of r c) c n) b (blocks_up_to r n) ∙ ap (λ (t : Bool). cond t (Some (cut (items_of r b) b n)) None) is_in ∙ cond_not (eqb (cut (items_of r b) b n).count 0) _ _;
}

-- ---- every number fits its field

abbrev total : {A : Type 0} → (A → ℕ) → List A → ℕ
total f [] = 0
total f (x ∷ xs) = f x + total f xs

total_le : {A : Type 0} (f g : A → ℕ) (xs : List A) → ((x : A) → f x ≤ g x) → total f xs ≤ total g xs
total_le f g [] h = omega arith
total_le f g (x ∷ xs) h = omega (arith, h x, total_le f g xs h)

total_add : {A : Type 0} (f g : A → ℕ) (xs : List A) → total (λ x. f x + g x) xs ≡ total f xs + total g xs
total_add f g [] = refl
total_add f g (x ∷ xs) = omega (arith, total_add f g xs)

total_none : {A : Type 0} (xs : List A) → total (λ (x : A). 0) xs ≡ 0
total_none [] = refl
total_none (x ∷ xs) = omega (arith, total_none xs)

abbrev hit : ℕ → ℕ → ℕ
hit c b = cond (eqb c b) 1 0

no_hit : (c : ℕ) (bs : List ℕ) → Above c bs → total (hit c) bs ≡ 0
no_hit c [] h = refl
no_hit c (b ∷ bs) h = rw (ne_eqb c b (omega (arith, h.0))) (omega (arith, no_hit c bs h.1))

one_hit : (c : ℕ) (bs : List ℕ) → Rising bs → total (hit c) bs ≤ 1
one_hit c [] h = omega arith
one_hit c (b ∷ bs) h = go (eqb c b) refl (one_hit c bs h.1)
  where
    go : (t : Bool) → eqb c b ≡ t → total (hit c) bs ≤ 1 → cond t 1 0 + total (hit c) bs ≤ 1
    go true e rest = let same : c ≡ b = eqb-true _ _ e in omega (arith, no_hit c bs (subst (λ (x : ℕ). Above x bs) (sym same) h.0))
    go false e rest = omega (arith, rest)

-- rows of different blocks are different rows
blocks_share : (bs : List ℕ) (rs : List RowItem) → Rising bs → total (λ b. length (filter (is_of_block b) rs)) bs ≤ length rs
blocks_share bs [] up = omega (arith, total_none bs)
blocks_share bs (r ∷ rs) up = go (entry_of r.entry) (blocks_share bs rs up)
  where
    one : (e : Entry) (b : ℕ) → length (cond (eqb e.block b) (r ∷ filter (is_of_block b) rs) (filter (is_of_block b) rs)) ≤ hit e.block b + length (filter (is_of_block b) rs)
    one e b = pick (eqb e.block b)
      where
        pick : (t : Bool) → length (cond t (r ∷ filter (is_of_block b) rs) (filter (is_of_block b) rs)) ≤ cond t 1 0 + length (filter (is_of_block b) rs)
        pick true = omega arith
        pick false = omega arith

    go : (x : Result Entry ℕ) → total (λ b. length (filter (is_of_block b) rs)) bs ≤ length rs → total (λ b. length (cond (ok_and x (λ e. eqb e.block b)) (r ∷ filter (is_of_block b) rs) (filter (is_of_block b) rs))) bs ≤ suc (length rs)
    go (Ok e) rest = omega (arith, rest, one_hit e.block bs up, total_add (hit e.block) (λ b. length (filter (is_of_block b) rs)) bs, total_le (λ b. length (cond (eqb e.block b) (r ∷ filter (is_of_block b) rs) (filter (is_of_block b) rs))) (λ b. hit e.block b + length (filter (is_of_block b) rs)) bs (one e))
    go (Err d) rest = omega (arith, rest)

pub fewer : {A : Type 0} (p : A → Bool) (xs : List A) → length (filter p xs) ≤ length xs
fewer p [] = omega arith
fewer p (x ∷ xs) = go (p x) (fewer p xs)
  where
    go : (b : Bool) → length (filter p xs) ≤ length xs → length (cond b (x ∷ filter p xs) (filter p xs)) ≤ suc (length xs)
    go true h = omega (arith, h)
    go false h = omega (arith, h)

pub all_rows : (s : Store) (st : State) → Keeps s st → length (flat_map rows_in st.life.shards) ≤ 16 * st.drawn
all_rows s st keeps = omega (arith, few_rows st.drawn st.life.shards (λ k lt. keeps.counted k (omega (arith, lt, keeps.honest.sixteen))), ap (λ (m : ℕ). m * st.drawn) keeps.honest.sixteen)

pub entries_sum : (r : Chronicle) → StandsRightly r → (n : ℕ) → sum_by (λ x. x.tip.count) (table_at r n) ≤ length (flat_map rows_in r.shards)
unfolding table_at
entries_sum r h n =
    let all : List RowItem = flat_map rows_in r.shards in
    let bs : List ℕ = blocks_up_to r n in
    let e = is_sum_by (total (λ (x : TableRow). x.tip.count)) (λ (x : TableRow). x.tip.count) refl (λ x xs. refl) (map (row_at (λ b. cut (items_of r b) b n)) bs) in
    let counts : (b : ℕ) → (cut (items_of r b) b n).count ≤ length (filter (is_of_block b) all) = λ b. omega (arith, count_everywhere r h b n, fewer (is_up_to_epoch n) (filter (is_of_block b) all)) in
    omega (arith, e, mapped bs, total_le (λ b. (cut (items_of r b) b n).count) (λ b. length (filter (is_of_block b) all)) bs counts, blocks_share bs all (rising_blocks _))
  where
    mapped : (bs : List ℕ) → total (λ (x : TableRow). x.tip.count) (map (row_at (λ b. cut (items_of r b) b n)) bs) ≡ total (λ b. (cut (items_of r b) b n).count) bs
    mapped [] = refl
    mapped (b ∷ bs) = ap (λ (m : ℕ). (cut (items_of r b) b n).count + m) (mapped bs)

puts_fit : (p : Put) (rs : List RowItem) → PutFits p → AllByRecursion Spelled rs → PutFits (latest p (entries rs))
puts_fit p [] h all = subst PutFits (sym (latest_nil p)) h
puts_fit p (r ∷ rs) h all =
    let e : Entry = all.0.0 in
    let first : latest p (r.entry ∷ []) ≡ cond (eqb e.kind 1) (record { version = e.version; content = e.content }) p = latest_one p r.entry e (spells_reads r.entry e all.0.1) in
    let more : PutFits (latest p (r.entry ∷ [])) = subst PutFits (sym first) (cond_fits (eqb e.kind 1) _ _ (entry_put e all.0.1.fits) h) in
    subst PutFits (sym (latest-append p (r.entry ∷ []) (entries rs))) (puts_fit (latest p (r.entry ∷ [])) rs more all.1)

block_fits : (rs : List RowItem) → AllByRecursion Spelled rs → AllByRecursion (λ b. b < 2 ^ 64) (blocks_of rs)
block_fits [] all = tt
block_fits (r ∷ rs) all = go (entry_of r.entry) (spells_reads r.entry all.0.0 all.0.1) (block_fits rs all.1)
  where
    inserted : (b : ℕ) (bs : List ℕ) → b < 2 ^ 64 → AllByRecursion (λ b. b < 2 ^ 64) bs → AllByRecursion (λ b. b < 2 ^ 64) (insert_block b bs)
    inserted b [] lt h = (lt, tt)
    inserted b (c ∷ bs) lt h = pick (ltb b c) (eqb b c) (inserted b bs lt h.1)
      where
        pick : (t u : Bool) → AllByRecursion (λ b. b < 2 ^ 64) (insert_block b bs) → AllByRecursion (λ b. b < 2 ^ 64) (cond t (b ∷ (c ∷ bs)) (cond u (c ∷ bs) (c ∷ insert_block b bs)))
        pick true u rest = (lt, h)
        pick false true rest = h
        pick false false rest = (h.0, rest)

    go : (x : Result Entry ℕ) → x ≡ Ok all.0.0 → AllByRecursion (λ b. b < 2 ^ 64) (blocks_of rs) → AllByRecursion (λ b. b < 2 ^ 64) (block_read x (blocks_of rs))
    go (Ok e) same rest = let is : e ≡ all.0.0 = cc in inserted e.block (blocks_of rs) (subst (λ (y : Entry). y.block < 2 ^ 64) (sym is) all.0.1.fits.fields.1.1.0) rest
    go (Err d) same rest = absurd cc

every_row : (r : Chronicle) → StandsRightly r → AllByRecursion Spelled (flat_map rows_in r.shards)
every_row r h = all_shards Spelled r.shards (λ k lt. spelled_rows k (items_at r k) (h.each k (omega (arith, lt, h.sixteen))))

cut_fits : (r : Chronicle) → StandsRightly r → (b n : ℕ) → PutFits (put_at (cut (items_of r b) b n))
unfolding up_to rows_of
cut_fits r h b n =
    subst PutFits (sym (put_after b (entries (up_to (items_of r b) b n))))
    (puts_fit (put_at (fresh b)) (up_to (items_of r b) b n) (record { version = lit< tt; content = refl })
    (all_filter Spelled (is_up_to_epoch n) _ (all_filter Spelled (is_of_block b) _ (spelled_rows (shard_of b) (items_of r b) (h.each (shard_of b) (omega arith))))))

pub genesis_length : (b : ℕ) → length (genesis b) ≡ 32
unfolding genesis
genesis_length b = length-sha256 _

rows_all_fit : (r : Chronicle) → StandsRightly r → length (flat_map rows_in r.shards) < 2 ^ 64 → (n : ℕ) → AllByRecursion RowFits (table_at r n)
unfolding table_at
rows_all_fit r h few n = go (blocks_up_to r n) (block_fits _ (all_filter Spelled (is_up_to_epoch n) _ (every_row r h)))
  where
    count_fits : (b : ℕ) → (cut (items_of r b) b n).count < 2 ^ 64
    count_fits b = omega (arith, few, count_everywhere r h b n, fewer (is_up_to_epoch n) (filter (is_of_block b) (flat_map rows_in r.shards)), fewer (is_of_block b) (flat_map rows_in r.shards))

    go : (bs : List ℕ) → AllByRecursion (λ b. b < 2 ^ 64) bs → AllByRecursion RowFits (map (row_at (λ b. cut (items_of r b) b n)) bs)
    go [] a = tt
    go (b ∷ bs) a =
        let p : PutFits (put_at (cut (items_of r b) b n)) = cut_fits r h b n in
        let wide : length (cut (items_of r b) b n).head ≡ 32 = ap length (head_after_tip b (entries (up_to (items_of r b) b n))) ∙ head_after_length (genesis b) (entries (up_to (items_of r b) b n)) (genesis_length b) in
        ((a.0, (count_fits b, (p.version, (p.content, (wide, tt))))), go bs a.1)

-- ---- the new seal

links_same : (xs : List SealItem) → link_after xs ≡ link_behind (last_of xs)
links_same [] = refl
links_same (x ∷ []) = refl
links_same (x ∷ (y ∷ xs)) = links_same (y ∷ xs)

link_length : (o : Option SealItem) → length (link_behind o) ≡ 32
link_length None = refl
link_length (Some x) = length-sha256 x.text

table_length : (r : Chronicle) (n : ℕ) → length (table_at r n) ≤ length (flat_map rows_in r.shards)
unfolding table_at
table_length r n = omega (arith, length-map (blocks_up_to r n) (row_at (λ b. cut (items_of r b) b n)), few_blocks (filter (is_up_to_epoch n) (flat_map rows_in r.shards)), fewer (is_up_to_epoch n) (flat_map rows_in r.shards))

closing_made : (s : Store) (r : Chronicle) (e : ℕ) → StandsRightly r → StoreFits s → length (flat_map rows_in r.shards) < 2 ^ 64 → 1 ≤ e → e ≤ s.closings → ClosingFits (closing_at s r e)
unfolding closing_at
closing_made s r e stands small few pos within =
    let link : length (link_after r.seals) ≡ 32 = ap length (links_same r.seals) ∙ link_length (last_of r.seals) in
    let rows : length (table_at r e) < 2 ^ 64 = omega (arith, table_length r e, few) in
    let counts : sum_by (λ x. x.tip.count) (table_at r e) < 2 ^ 64 = omega (arith, entries_sum r stands e, few) in
    (small.id, ((pos, omega (arith, within, small.leaves)), (link, (length-sha256 (families_at s r e), (length-sha256 _, (rows, (counts, tt)))))))

pub right_seal : SealsAreRight
unfolding seal_at closing_at
right_seal s r kept e published stands small p few =
    record {
      epoch = sym p.1;
      leaf = omega (arith, p.1);
      families = λ k lt. sym (p.4 k lt);
      rows = table_at r e;
      is_table = table_is r stands e;
      table = table_again (table_at r e) (rows_all_fit r stands few e);
      closing = closing_at s r e;
      closing_is = ap (λ (l : List ℕ). record { store = s.id; epoch = e; link = l; families = sha256 (families_at s r e); table = sha256 (table_text (table_at r e)); rows = length (table_at r e); entries = sum_by (λ x. x.tip.count) (table_at r e) }) (links_same r.seals);
      text = refl;
      fits = closing_made s r e stands small few (omega (arith, p.1)) p.2;
      frozen = λ k lt. omega (arith, p.0 k lt);
    }

pub honest_stands : (s : Store) (r : Chronicle) → Honest s r → StandsRightly r
honest_stands s r h = record { sixteen = h.sixteen; each = λ k lt. (h.shards k lt).each }

pub seal_keeps : (s : Store) → StoreFits s → SealKeeps s
unfolding seal_at
seal_keeps s small st e keeps at =
    let p : PhaseFits s st.life st.kept (Full e) st.published = subst (λ (q : Phase). PhaseFits s st.life st.kept q st.published) at keeps.phase in
    let h = keeps.honest in
    let x : SealItem = seal_at s st.life e in
    let more : Chronicle = record st.life { seals = st.life.seals ++ x ∷ [] } in
    let stays : (n : ℕ) → SameBefore st.life more n = λ n. record { cuts = λ b. refl; frozen = λ k lt. omega arith; lists = λ first k lt. refl } in
    let seals : Each (IsSealOf s more) (st.life.seals ++ x ∷ []) =
    each_push (IsSealOf s more) st.life.seals x
    (each_weaker (IsSealOf s st.life) (IsSealOf s more) (λ front y f. seal_moved s st.life more front y (stays y.epoch) f) st.life.seals h.seals)
    (seal_moved s st.life more st.life.seals x (stays x.epoch) (right_seal s st.life st.kept e st.published (honest_stands s st.life h) small p (omega (arith, all_rows s st keeps, keeps.drawn_within, small.leaves)))) in
    let long : length (st.life.seals ++ x ∷ []) ≡ e = length-append st.life.seals (x ∷ []) ∙ p.1 in
    record {
      honest = record { sixteen = h.sixteen; shards = h.shards; lists_agree = h.lists_agree; leaves_differ = h.leaves_differ; leaves_below = h.leaves_below; seals = seals; within = omega (arith, long, p.2) };
      phase = (p.0, long, p.2, p.3, p.5);
      kept = keeps.kept;
      drawn = keeps.drawn;
      drawn_within = keeps.drawn_within;
      counted = keeps.counted;
      contents = keeps.contents;
    }

pub core_is_honest : (s : Store) (events : List Event) → StoreFits s → AllByRecursion (Admissible s) events → Keeps s (run s events)
core_is_honest s events small ok = runs_honest s events small (seal_keeps s small) ok

pub each_keeps : (s : Store) (st : State) (event : Event) → StoreFits s → Keeps s st → Admissible s event → Keeps s (step s st event).1
each_keeps s st event small keeps ok = keeps_in s st event st.phase small (seal_keeps s small) keeps ok refl
