-- The whole store stays honest, event by event.
use Rattle.std.proofs.Common.{◌≡◌, ℕ, suc, ◌+◌, ◌^◌, ◌<◌, ◌≤◌, Bool, true, false, cond, ltb, List, [], ◌∷◌, ◌++◌, length, get_or, Some, Ok, Err, ◌⊎◌, inl, inr, refl, sym, ap, subst, ◌∙◌, arith}
use Rattle.std.specs.Prelude.{filter}
use Rattle.std.proofs.lemmas.List.{append-nil, length-append, length-set, get_or-set_same, get_or-set_other}
use Rattle.std.proofs.lemmas.List.Elements.{filter_map-append}
use Rattle.std.proofs.lemmas.Bool.{cases_eq, ltb-true}
use Rattle.cp_chain.proofs.Each.{each_last, each_weaker, split_push}
use Rattle.cp_chain.specs.Each.{Each}
use Rattle.cp_core.proofs.CallLemmas.{NewRow, honest_call, new_reads}
use Rattle.cp_core.proofs.ContentLemmas.{contents_new, contents_other}
use Rattle.cp_core.proofs.EpochLemmas.{freezes_row, up_to_later, up_to_other}
use Rattle.cp_core.proofs.ListLemmas.{text_row}
use Rattle.cp_core.proofs.RowLemmas.{spells_reads}
use Rattle.cp_core.specs.Calls.{content_at, latest_of, new_entry}
use Rattle.cp_core.specs.Calls.Effect.{New}
use Rattle.cp_core.specs.Honest.{Honest, HonestShard, IsItemOf, IsRowOf, IsSealOf, ListsAgree, RowAt, counted}
use Rattle.cp_core.specs.Kept.{Agree, HaveNext, IsContentOf, Keeps, PhaseFits}
use Rattle.cp_core.specs.Life.{RowItem, as_row, cut, entries, freezes, is_of_block, items_of, list_text, row_item, rows_in, rows_of, shard_of, tip_after, up_to}
use Rattle.cp_core.specs.Machine.{HasContent, State, after_call, appended, content_in, next_leaf, with_content}
use Rattle.cp_core.specs.Requests.{RequestFits, block_of, store_of}
use Rattle.cp_core.specs.Store.{Store, StoreFits}
use Rattle.cp_core.specs.declared.answer.Answer.{Answer}
use Rattle.cp_core.specs.declared.chronicle.Chronicle.{Chronicle}
use Rattle.cp_core.specs.declared.item.Item.{Item}
use Rattle.cp_core.specs.declared.item.Item.TheVariants.{Frozen}
use Rattle.cp_core.specs.declared.leaves_over.LeavesOver.{LeavesOver}
use Rattle.cp_core.specs.declared.phase.Phase.{Phase}
use Rattle.cp_core.specs.declared.phase.Phase.TheVariants.{Full, Half, Running, Sealed}
use Rattle.cp_core.specs.declared.request.Request.{Request}
use Rattle.cp_core.specs.declared.seal_item.SealItem.{SealItem}
use Rattle.cp_statements.specs.Entry.{Entry, entry_of}

-- ---- one shard of sixteen

abbrev pub items_at : Chronicle → ℕ → List Item
items_at r k = get_or r.shards k []

pub at_same : (r : Chronicle) (k : ℕ) (item : Item) → length r.shards ≡ 16 → k < 16 → items_at (appended r k item) k ≡ items_at r k ++ item ∷ []
at_same r k item len lt = get_or-set_same r.shards k (items_at r k ++ item ∷ []) [] (omega (arith, len, lt))

pub at_other : (r : Chronicle) (k : ℕ) (item : Item) (j : ℕ) → (j ≡ k → ⊥) → items_at (appended r k item) j ≡ items_at r j
at_other r k item j ne = get_or-set_other r.shards k j (items_at r k ++ item ∷ []) [] ne

-- a property of one shard's items, in all shards
pub at_each : (r : Chronicle) (k : ℕ) (item : Item) (P : ℕ → List Item → Type 0) → length r.shards ≡ 16 → k < 16 → ((j : ℕ) → j < 16 → P j (items_at r j)) → P k (items_at r k ++ item ∷ []) → (j : ℕ) → j < 16 → P j (items_at (appended r k item) j)
at_each r k item P len lt all here j in16 =
    elim (cases_eq j k) [
      | inl same ↦ subst (λ (i : ℕ). P i (items_at (appended r k item) i)) (sym same) (subst (P k) (sym (at_same r k item len lt)) here)
      | inr ne ↦ subst (P j) (sym (at_other r k item j ne)) (all j in16)
    ]

-- ---- where rows lie after one more item

pub same_row : (a b : RowItem) → row_item a ≡ row_item b → a ≡ b
same_row a b e = let h : Some a ≡ Some b = ap as_row e in cc

-- a row in the longer life is an old one, or the added item
abbrev pub OldOr : Chronicle → ℕ → Item → ℕ → List Item → RowItem → Type 0
OldOr r k item j front row = RowAt r j front row ⊎ ((j ≡ k) × (front ≡ items_at r k) × (row_item row ≡ item))

pub old_or : (r : Chronicle) (k : ℕ) (item : Item) (j : ℕ) (front : List Item) (row : RowItem) → length r.shards ≡ 16 → k < 16 → RowAt (appended r k item) j front row → OldOr r k item j front row
old_or r k item j front row len lt at =
    elim (cases_eq j k) [
      | inl same ↦
          let lists : items_at r k ++ item ∷ [] ≡ front ++ row_item row ∷ at.1 = sym (at_same r k item len lt) ∙ ap (items_at (appended r k item)) (sym same) ∙ at.2 in
          elim (split_push (items_at r k) item front (row_item row) at.1 lists) [
            | inl w ↦ inr (same, w.0, w.1)
            | inr w ↦ inl (at.0, w.0, ap (items_at r) same ∙ w.1)
          ]
      | inr ne ↦ inl (at.0, at.1, sym (at_other r k item j ne) ∙ at.2)
    ]

-- ---- seals stand as before

-- what a change of the life has to leave alone
pub record SameBefore (r more : Chronicle) (n : ℕ) : Type 0 where
  pub cuts : (b : ℕ) → cut (items_of more b) b n ≡ cut (items_of r b) b n
  pub frozen : (k : ℕ) → k < 16 → freezes (items_at r k) ≤ freezes (items_at more k)
  pub lists : (first : List ℕ) (k : ℕ) → k < 16 → list_text first (items_at more k) n ≡ list_text first (items_at r k) n

pub seal_moved : (s : Store) (r more : Chronicle) (front : List SealItem) (x : SealItem) → SameBefore r more x.epoch → IsSealOf s r front x → IsSealOf s more front x
seal_moved s r more front x m f = record {
  epoch = f.epoch;
  leaf = f.leaf;
  families = λ k lt. f.families k lt ∙ sym (m.lists s.families k lt);
  rows = f.rows;
  is_table = record { ascending = f.is_table.ascending; each = λ b. f.is_table.each b ∙ ap counted (sym (m.cuts b)) };
  table = f.table;
  closing = f.closing;
  closing_is = f.closing_is;
  text = f.text;
  fits = f.fits;
  frozen = λ k lt. omega (arith, f.frozen k lt, m.frozen k lt);
}

shard_below : (b : ℕ) → shard_of b < 16
shard_below b = omega arith

-- an item that is a row of a later epoch, or a freeze, leaves earlier cuts alone
pub cuts_stay : (r : Chronicle) (k : ℕ) (item : Item) (n : ℕ) → length r.shards ≡ 16 → k < 16 → ((b : ℕ) → up_to (items_at r k ++ item ∷ []) b n ≡ up_to (items_at r k) b n) → (b : ℕ) → cut (items_of (appended r k item) b) b n ≡ cut (items_of r b) b n
cuts_stay r k item n len lt stays b =
    elim (cases_eq (shard_of b) k) [
      | inl same ↦
          let here : items_of (appended r k item) b ≡ items_at r k ++ item ∷ [] = ap (items_at (appended r k item)) same ∙ at_same r k item len lt in
          ap (λ (xs : List Item). cut xs b n) here ∙ ap (λ (rs : List RowItem). tip_after b (entries rs)) (stays b) ∙ ap (λ (j : ℕ). cut (items_at r j) b n) (sym same)
      | inr ne ↦ ap (λ (xs : List Item). cut xs b n) (at_other r k item (shard_of b) ne)
    ]

pub freezes_grow : (r : Chronicle) (k : ℕ) (item : Item) → length r.shards ≡ 16 → k < 16 → freezes (items_at r k) ≤ freezes (items_at r k ++ item ∷ []) → (j : ℕ) → j < 16 → freezes (items_at r j) ≤ freezes (items_at (appended r k item) j)
freezes_grow r k item len lt grows j in16 = at_each r k item (λ i xs. freezes (items_at r i) ≤ freezes xs) len lt (λ i h. omega arith) grows j in16

row_stays : (items : List Item) (row : RowItem) (e : Entry) (n b : ℕ) → entry_of row.entry ≡ Ok e → n < e.epoch → up_to (items ++ row_item row ∷ []) b n ≡ up_to items b n
row_stays items row e n b reads lt =
    elim (cases_eq e.block b) [
      | inl same ↦ up_to_later items row e b n reads same lt
      | inr other ↦ up_to_other items row e b n reads other
    ]

pub seals_stay : (s : Store) (r more : Chronicle) (P : SealItem → Type 0) → ((front : List SealItem) (x : SealItem) → IsSealOf s r front x → SameBefore r more x.epoch) → (seals : List SealItem) → Each (IsSealOf s r) seals → Each (IsSealOf s more) seals
seals_stay s r more P same seals each = each_weaker (IsSealOf s r) (IsSealOf s more) (λ front x f. seal_moved s r more front x (same front x f) f) seals each

-- ---- Call

rows_in-push : (items : List Item) (row : RowItem) → length (rows_in (items ++ row_item row ∷ [])) ≡ length (rows_in items) + 1
rows_in-push items row = ap length (filter_map-append as_row items (row_item row ∷ [])) ∙ length-append (rows_in items) (row ∷ [])

pub rows_in-freeze : (items : List Item) (n : ℕ) (next : List ℕ) → length (rows_in (items ++ Frozen n next ∷ [])) ≡ length (rows_in items)
rows_in-freeze items n next = ap length (filter_map-append as_row items (Frozen n next ∷ []) ∙ append-nil (rows_in items))

length-filter : {A : Type 0} (p : A → Bool) (xs : List A) → length (filter p xs) ≤ length xs
length-filter p [] = omega arith
length-filter p (x ∷ xs) = go (p x) (length-filter p xs)
  where
    go : (b : Bool) → length (filter p xs) ≤ length xs → length (cond b (x ∷ filter p xs) (filter p xs)) ≤ suc (length xs)
    go true h = omega (arith, h)
    go false h = omega (arith, h)

pub rows_of_few : (items : List Item) (b : ℕ) → length (rows_of items b) ≤ length (rows_in items)
unfolding rows_of
rows_of_few items b = length-filter (is_of_block b) (rows_in items)

leaf_is : (n drawn : ℕ) (over : LeavesOver) (q : ℕ) → cond (ltb drawn n) (Ok drawn) (Err over) ≡ Ok q → (drawn < n) × (q ≡ drawn)
leaf_is n drawn over q e = go (ltb drawn n) refl e
  where
    go : (b : Bool) → ltb drawn n ≡ b → cond b (Ok drawn) (Err over) ≡ Ok q → (drawn < n) × (q ≡ drawn)
    go true t h = (ltb-true _ _ t, cc)
    go false t h = absurd cc

-- the freezes and the lists of all shards are the same
pub record SameLists (s : Store) (r more : Chronicle) : Type 0 where
  pub freezes : (k : ℕ) → k < 16 → freezes (items_at more k) ≡ freezes (items_at r k)
  pub lists : (n k : ℕ) → k < 16 → list_text s.families (items_at more k) n ≡ list_text s.families (items_at r k) n

next_same : (s : Store) (r more : Chronicle) (e j : ℕ) (kept : List ℕ) → SameLists s r more → j ≤ 16 → HaveNext s r e j kept → HaveNext s more e j kept
next_same s r more e j kept same le h k lt = same.lists (e + 1) k (omega (arith, le, lt)) ∙ h k lt

agree_same : (s : Store) (r more : Chronicle) (e : ℕ) → SameLists s r more → Agree s r e → Agree s more e
agree_same s r more e same h k lt = same.lists e k lt ∙ h k lt ∙ sym (same.lists e 0 (omega arith))

lists_agree_same : (s : Store) (r more : Chronicle) (n : ℕ) → SameLists s r more → ListsAgree s r n → ListsAgree s more n
lists_agree_same s r more n same h k l k16 l16 nk nl = same.lists (n + 1) k k16 ∙ h k l k16 l16 (omega (arith, nk, same.freezes k k16)) (omega (arith, nl, same.freezes l l16)) ∙ sym (same.lists (n + 1) l l16)

-- the phase's facts see the freezes alone
phase_row : (s : Store) (r more : Chronicle) (kept : List ℕ) (p : Phase) (published : ℕ) → more.seals ≡ r.seals → SameLists s r more → PhaseFits s r kept p published → PhaseFits s more kept p published
phase_row s r more kept (Running e) published seals same f = (λ k lt. omega (arith, same.freezes k lt, f.0 k lt), ap (λ (l : List SealItem). length l + 1) seals ∙ f.1, f.2, next_same s r more published 16 kept same (omega arith) f.3)
phase_row s r more kept (Half e j) published seals same f =
    (λ k lt. omega (arith, same.freezes k (omega (arith, lt, f.2)), f.0 k lt), λ k le lt. omega (arith, same.freezes k lt, f.1 k le lt), f.2, ap (λ (l : List SealItem). length l + 1) seals ∙ f.3, f.4, f.5, agree_same s r more e same f.6, next_same s r more e j kept same (omega (arith, f.2)) f.7)
phase_row s r more kept (Full e) published seals same f = (λ k lt. omega (arith, same.freezes k lt, f.0 k lt), ap (λ (l : List SealItem). length l + 1) seals ∙ f.1, f.2, f.3, agree_same s r more e same f.4, next_same s r more e 16 kept same (omega arith) f.5)
phase_row s r more kept (Sealed e) published seals same f = (λ k lt. omega (arith, same.freezes k lt, f.0 k lt), ap (λ (l : List SealItem). length l) seals ∙ f.1, f.2, f.3, next_same s r more e 16 kept same (omega arith) f.4)

pub keeps_new : (s : Store) (st : State) (pass : ℕ) (request : Request) (row : RowItem) → StoreFits s → Keeps s st → store_of request ≡ s.id → RequestFits request → HasContent request
    → (answer : Answer) → NewRow s.id s.families (items_of st.life (block_of request)) st.contents pass request (next_leaf s st.drawn) answer row → Keeps s (after_call st request (New answer row)).1
keeps_new s st pass request row small keeps names fits brings answer new =
    record { honest = honest; phase = phase_row s r more st.kept st.phase st.published refl same keeps.phase; kept = keeps.kept; drawn = drawn; drawn_within = omega (arith, l.0); counted = rows_counted; contents = contents }
  where
    r : Chronicle
    r = st.life

    k : ℕ
    k = shard_of (block_of request)

    more : Chronicle
    more = appended st.life (shard_of (block_of request)) (row_item row)

    h : Honest s st.life
    h = keeps.honest

    lt : shard_of (block_of request) < 16
    lt = shard_below (block_of request)

    l : (st.drawn < s.attestations) × (new.number ≡ st.drawn)
    l = leaf_is s.attestations st.drawn (record { drawn = st.drawn; limit = s.attestations }) new.number new.drawn

    leaf : row.leaf ≡ st.drawn
    leaf = ap (λ (x : RowItem). x.leaf) new.row_is ∙ l.1

    room : length (rows_of (items_of st.life (block_of request)) (block_of request)) < 2 ^ 64
    room = omega (arith, rows_of_few (items_of st.life (block_of request)) (block_of request), keeps.counted (shard_of (block_of request)) lt, keeps.drawn_within, small.leaves)

    here : HonestShard s (shard_of (block_of request)) (items_at st.life (shard_of (block_of request)) ++ row_item row ∷ [])
    here = honest_call s (shard_of (block_of request)) (items_of st.life (block_of request)) pass request st.contents (next_leaf s st.drawn) answer row (h.shards (shard_of (block_of request)) lt) refl fits names room new

    f : IsRowOf (shard_of (block_of request)) (items_at st.life (shard_of (block_of request))) row
    f = each_last (IsItemOf (shard_of (block_of request))) (items_at st.life (shard_of (block_of request))) (row_item row) here.each

    same_freezes : (j : ℕ) → j < 16 → freezes (items_at more j) ≡ freezes (items_at st.life j)
    same_freezes j in16 = at_each st.life (shard_of (block_of request)) (row_item row) (λ i xs. freezes xs ≡ freezes (items_at st.life i)) h.sixteen lt (λ i h. refl) (freezes_row (items_at st.life (shard_of (block_of request))) row) j in16

    same : SameLists s st.life more
    same = record {
      freezes = same_freezes;
      lists = λ n j in16. at_each st.life (shard_of (block_of request)) (row_item row) (λ i xs. list_text s.families xs n ≡ list_text s.families (items_at st.life i) n) h.sixteen lt (λ i ok. refl) (text_row s.families (items_at st.life (shard_of (block_of request))) row n) j in16;
    }

    before : (front : List SealItem) (x : SealItem) → IsSealOf s st.life front x → SameBefore st.life more x.epoch
    before front x g = record {
      cuts = cuts_stay st.life (shard_of (block_of request)) (row_item row) x.epoch h.sixteen lt (λ b. row_stays (items_at st.life (shard_of (block_of request))) row f.entry x.epoch b (spells_reads row.entry f.entry f.spells) (omega (arith, f.epoch, g.frozen (shard_of (block_of request)) lt)));
      frozen = λ j in16. omega (arith, same_freezes j in16);
      lists = λ first j in16. at_each st.life (shard_of (block_of request)) (row_item row) (λ i xs. list_text first xs x.epoch ≡ list_text first (items_at st.life i) x.epoch) h.sixteen lt (λ i ok. refl) (text_row first (items_at st.life (shard_of (block_of request))) row x.epoch) j in16;
    }

    differ : (k₁ : ℕ) (front₁ : List Item) (row₁ : RowItem) (k₂ : ℕ) (front₂ : List Item) (row₂ : RowItem) → OldOr st.life (shard_of (block_of request)) (row_item row) k₁ front₁ row₁ → OldOr st.life (shard_of (block_of request)) (row_item row) k₂ front₂ row₂ → row₁.leaf ≡ row₂.leaf → (k₁ ≡ k₂) × (front₁ ≡ front₂)
    differ k₁ front₁ row₁ k₂ front₂ row₂ (inl a) (inl b) e = h.leaves_differ k₁ front₁ row₁ k₂ front₂ row₂ a b e
    differ k₁ front₁ row₁ k₂ front₂ row₂ (inl a) (inr b) e = absurd (omega (arith, keeps.drawn k₁ front₁ row₁ a, ap (λ (x : RowItem). x.leaf) (same_row _ _ b.2), leaf, e))
    differ k₁ front₁ row₁ k₂ front₂ row₂ (inr a) (inl b) e = absurd (omega (arith, keeps.drawn k₂ front₂ row₂ b, ap (λ (x : RowItem). x.leaf) (same_row _ _ a.2), leaf, e))
    differ k₁ front₁ row₁ k₂ front₂ row₂ (inr a) (inr b) e = (a.0 ∙ sym b.0, a.1 ∙ sym b.1)

    honest : Honest s more
    honest = record {
      sixteen = length-set _ _ _ ∙ h.sixteen;
      shards = at_each st.life (shard_of (block_of request)) (row_item row) (HonestShard s) h.sixteen lt h.shards here;
      lists_agree = λ n. lists_agree_same s st.life more n same (h.lists_agree n);
      leaves_differ = λ k₁ front₁ row₁ k₂ front₂ row₂ a b e. differ k₁ front₁ row₁ k₂ front₂ row₂ (old_or st.life (shard_of (block_of request)) (row_item row) k₁ front₁ row₁ h.sixteen lt a) (old_or st.life (shard_of (block_of request)) (row_item row) k₂ front₂ row₂ h.sixteen lt b) e;
      leaves_below = λ j front x a. elim (old_or st.life (shard_of (block_of request)) (row_item row) j front x h.sixteen lt a) [ inl w ↦ h.leaves_below j front x w | inr w ↦ omega (arith, ap (λ (x : RowItem). x.leaf) (same_row _ _ w.2), leaf, l.0) ];
      seals = seals_stay s st.life more (λ x. Unit {0}) before st.life.seals h.seals;
      within = h.within;
    }

    drawn : (j : ℕ) (front : List Item) (x : RowItem) → RowAt more j front x → x.leaf < st.drawn + 1
    drawn j front x a = elim (old_or st.life (shard_of (block_of request)) (row_item row) j front x h.sixteen lt a) [ inl w ↦ omega (arith, keeps.drawn j front x w) | inr w ↦ omega (arith, ap (λ (x : RowItem). x.leaf) (same_row _ _ w.2), leaf) ]

    rows_counted : (j : ℕ) → j < 16 → length (rows_in (items_at more j)) ≤ st.drawn + 1
    rows_counted j in16 = at_each st.life (shard_of (block_of request)) (row_item row) (λ i xs. length (rows_in xs) ≤ st.drawn + 1) h.sixteen lt (λ i ok. omega (arith, keeps.counted i ok)) (omega (arith, rows_in-push (items_at st.life (shard_of (block_of request))) row, keeps.counted (shard_of (block_of request)) lt)) j in16

    reads : entry_of row.entry ≡ Ok (new_entry (items_of st.life (block_of request)) request)
    reads = new_reads (shard_of (block_of request)) (items_of st.life (block_of request)) pass request new.number row (h.shards (shard_of (block_of request)) lt).each fits room new.row_is

    contents : (b : ℕ) → IsContentOf (latest_of (items_of more b) b) (content_at (with_content st.contents (content_in request)) b)
    contents b =
        elim (cases_eq (shard_of b) (shard_of (block_of request))) [
          | inl same ↦
              let now : items_of more b ≡ items_of st.life (block_of request) ++ row_item row ∷ [] = ap (items_at more) same ∙ at_same st.life (shard_of (block_of request)) (row_item row) h.sixteen lt in
              subst (λ (xs : List Item). IsContentOf (latest_of xs b) (content_at (with_content st.contents (content_in request)) b)) (sym now)
              (contents_new (items_of st.life (block_of request)) st.contents request row b reads new.not_stale brings
              (subst (λ (j : ℕ). IsContentOf (latest_of (items_at st.life j) b) (content_at st.contents b)) same (keeps.contents b)))
          | inr ne ↦
              subst (λ (xs : List Item). IsContentOf (latest_of xs b) (content_at (with_content st.contents (content_in request)) b)) (sym (at_other st.life (shard_of (block_of request)) (row_item row) (shard_of b) ne))
              (subst (IsContentOf (latest_of (items_of st.life b) b)) (sym (contents_other st.contents request b (λ e. ne (sym (ap shard_of e))))) (keeps.contents b))
        ]
