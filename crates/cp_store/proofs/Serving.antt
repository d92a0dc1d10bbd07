-- A call at its block's shard is the store's step.
use Rattle.std.proofs.Common.{◌≡◌, ℕ, zero, suc, ◌+◌, ◌<◌, ◌≤◌, Bool, cond, eqb, List, [], ◌∷◌, ◌++◌, length, flat_map, get_or, set, Option, Some, None, Result, Ok, Err, refl, sym, ap, subst, ◌∙◌, inl, inr, arith}
use Rattle.std.proofs.lemmas.Bool.{cases_eq, eq-eqb, ne_eqb, lt-ltb, le-ltb}
use Rattle.std.proofs.lemmas.List.{append-nil, length-append, length-set, map-set, set-get_or, get_or-map, get_or-set_same, get_or-set_other}
use Rattle.cp_core.specs.Store.{Store}
use Rattle.cp_core.specs.Leaves.{numbers_below}
use Rattle.cp_core.specs.Life.{RowItem, items_of, shard_of}
use Rattle.cp_core.specs.Requests.{block_of}
use Rattle.cp_core.specs.Calls.{Effect, content_at, new_row, shard_step, settled, with_leaf, unless_settled}
use Rattle.cp_core.specs.Calls.Effect.{Same, New}
use Rattle.cp_core.specs.Machine.{step, step_in, after_call, appended, next_leaf}
use Rattle.cp_core.specs.declared.answer.Answer.{Answer}
use Rattle.cp_core.specs.declared.content.Content.{Content}
use Rattle.cp_core.specs.declared.event.Event.TheVariants.{Call}
use Rattle.cp_core.specs.declared.item.Item.{Item}
use Rattle.cp_core.specs.declared.leaves_over.LeavesOver.{LeavesOver}
use Rattle.cp_core.specs.declared.request.Request.{Request}
use Rattle.cp_closer.specs.Closer.{CloserState}
use Rattle.cp_shard.specs.Model.{ShardModel}
use Rattle.cp_shard.specs.Steps.{step_of}
use Rattle.cp_store.specs.Shards.{IsMade, AreMade, own_contents, items_in, state_of}
use Rattle.cp_store.proofs.Blocks.{step_same}
use Rattle.cp_store.proofs.ShardContents.{contents_there}

-- ---- leaves

head_is : (a b : ℕ) (xs ys : List ℕ) → a ∷ xs ≡ b ∷ ys → a ≡ b
head_is a b xs ys e = cc

tail_is : (a b : ℕ) (xs ys : List ℕ) → a ∷ xs ≡ b ∷ ys → xs ≡ ys
tail_is a b xs ys e = cc

pub length-numbers : (n : ℕ) → length (numbers_below n) ≡ n
length-numbers zero = refl
length-numbers (suc n) = omega (arith, length-append (numbers_below n) (n ∷ []), length-numbers n)

last_is : (xs : List ℕ) (a b : ℕ) → xs ++ a ∷ [] ≡ xs ++ b ∷ [] → a ≡ b
last_is [] a b e = head_is a b [] [] e
last_is (x ∷ xs) a b e = last_is xs a b (tail_is x x (xs ++ a ∷ []) (xs ++ b ∷ []) e)

-- none was given: none was drawn
pub given_none : (n n' : ℕ) → numbers_below n' ≡ numbers_below n → n' ≡ n
given_none n n' e = sym (length-numbers n') ∙ ap length e ∙ length-numbers n

-- one was given: it is the next one
pub given_one : (n n' leaf : ℕ) → numbers_below n' ≡ numbers_below n ++ leaf ∷ [] → (n' ≡ n + 1) × (leaf ≡ n)
given_one n n' leaf e =
    let more : n' ≡ suc n = omega (arith, length-numbers n', ap length e, length-append (numbers_below n) (leaf ∷ []), length-numbers n) in (
      omega (arith, more),
      last_is (numbers_below n) leaf n (sym e ∙ ap numbers_below more),
    )

-- ---- the step, by its leaf source's answers

abbrev Step : Type 0
Step = Result ℕ LeavesOver → Effect

-- an answer that a leaf does not change is settled before
same_always : (o : Option Answer) (store : List ℕ) (items : List Item) (c : List Content) (pass : ℕ) (request : Request) (leaf : ℕ) (answer : Answer) (other : Result ℕ LeavesOver)
    → unless_settled o (with_leaf store items c pass request (Ok leaf)) ≡ Same answer → unless_settled o (with_leaf store items c pass request other) ≡ Same answer
same_always (Some a) store items c pass request leaf answer other e = e
same_always None store items c pass request leaf answer other e = absurd cc

pub settled_always : (x : ShardModel) (pass : ℕ) (request : Request) (leaf : ℕ) (answer : Answer) (other : Result ℕ LeavesOver) → step_of x pass request (Ok leaf) ≡ Same answer → step_of x pass request other ≡ Same answer
unfolding shard_step
settled_always x pass request leaf answer other e = same_always (settled x.store x.pages x.first x.items x.contents request) x.store x.items x.contents pass request leaf answer other e

leaf_always : (o : Option Answer) (store : List ℕ) (items : List Item) (c : List Content) (pass : ℕ) (request : Request) (leaf : ℕ) (answer : Answer) (row : RowItem) → unless_settled o (with_leaf store items c pass request (Ok leaf)) ≡ New answer row → row.leaf ≡ leaf
leaf_always (Some a) store items c pass request leaf answer row e = absurd cc
leaf_always None store items c pass request leaf answer row e = let same : new_row items pass request leaf ≡ row = cc in sym (ap (λ (r : RowItem). r.leaf) same)

-- the row that a leaf leads to has that leaf
pub row_leaf : (x : ShardModel) (pass : ℕ) (request : Request) (leaf : ℕ) (answer : Answer) (row : RowItem) → step_of x pass request (Ok leaf) ≡ New answer row → row.leaf ≡ leaf
unfolding shard_step
row_leaf x pass request leaf answer row e = leaf_always (settled x.store x.pages x.first x.items x.contents request) x.store x.items x.contents pass request leaf answer row e

-- ---- the shard's step is the store's

-- the block's shard among them
abbrev here : List ShardModel → Request → ShardModel → ShardModel
here shards request d = get_or shards (shard_of (block_of request)) d

pub low : (b : ℕ) → shard_of b < 16
low b = omega arith

pub items_here : (s : Store) (shards : List ShardModel) (k : ℕ) (d : ShardModel) → AreMade s shards → k < 16 → get_or (items_in shards) k [] ≡ (get_or shards k d).items
items_here s shards k d made lt = get_or-map (λ (x : ShardModel). x.items) shards k d [] (omega (arith, lt, made.sixteen))

pub step_here : (s : Store) (shards : List ShardModel) (c : CloserState) (n pass : ℕ) (request : Request) (d : ShardModel) (leaf : Result ℕ LeavesOver) → AreMade s shards
    → shard_step s.id s.pages s.families (items_of (state_of shards c n).life (block_of request)) (state_of shards c n).contents pass request leaf ≡ step_of (here shards request d) pass request leaf
step_here s shards c n pass request d leaf made =
    let x : ShardModel = here shards request d in
    let is : IsMade s (shard_of (block_of request)) x = made.each (shard_of (block_of request)) d (low (block_of request)) in
    step_same s.id s.pages s.families (items_of (state_of shards c n).life (block_of request)) (flat_map own_contents shards) x.contents pass request leaf (contents_there s shards (block_of request) d made)
    ∙ ap (λ (xs : List Item). shard_step s.id s.pages s.families xs x.contents pass request leaf) (items_here s shards (shard_of (block_of request)) d made (low (block_of request)))
    ∙ ap (λ (id : List ℕ). shard_step id s.pages s.families x.items x.contents pass request leaf) (sym is.store)
    ∙ ap (λ (pages : ℕ). shard_step x.store pages s.families x.items x.contents pass request leaf) (sym is.pages)
    ∙ ap (λ (first : List ℕ). shard_step x.store x.pages first x.items x.contents pass request leaf) (sym is.first)

-- the whole step, by the shard's
pub call_is : (s : Store) (shards : List ShardModel) (c : CloserState) (n pass : ℕ) (request : Request) (d : ShardModel) (o : Effect) → AreMade s shards → step_of (here shards request d) pass request (next_leaf s n) ≡ o
    → step s (state_of shards c n) (Call pass request) ≡ after_call (state_of shards c n) request o
unfolding step_in
call_is s shards c n pass request d o made e = ap (after_call (state_of shards c n) request) (step_here s shards c n pass request d (next_leaf s n) made ∙ e)

pub next_is : (s : Store) (n : ℕ) → n < s.attestations → next_leaf s n ≡ Ok n
next_is s n lt = ap (λ (b : Bool). cond b (Ok n) (Err (record { drawn = n; limit = s.attestations }))) (lt-ltb n s.attestations lt)

pub next_none : (s : Store) (n : ℕ) → s.attestations ≤ n → next_leaf s n ≡ Err (record { drawn = n; limit = s.attestations })
next_none s n le = ap (λ (b : Bool). cond b (Ok n) (Err (record { drawn = n; limit = s.attestations }))) (le-ltb n s.attestations le)

-- ---- the shards after a call

pub made_set : (s : Store) (shards : List ShardModel) (k : ℕ) (d x : ShardModel) → AreMade s shards → k < 16 → x.store ≡ (get_or shards k d).store → x.index ≡ (get_or shards k d).index → x.pages ≡ (get_or shards k d).pages → x.closings ≡ (get_or shards k d).closings → x.first ≡ (get_or shards k d).first → AreMade s (set shards k x)
made_set s shards k d x made lt store index pages closings first = record { sixteen = length-set _ _ _ ∙ made.sixteen; each = each }
  where
    old : IsMade s k (get_or shards k d)
    old = made.each k d lt

    now : IsMade s k x
    now = record { store = store ∙ old.store; index = index ∙ old.index; pages = pages ∙ old.pages; closings = closings ∙ old.closings; first = first ∙ old.first }

    each : (j : ℕ) (e : ShardModel) → j < 16 → IsMade s j (get_or (set shards k x) j e)
    each j e in16 = elim (cases_eq j k) [
      | inl same ↦ subst (λ (i : ℕ). IsMade s i (get_or (set shards k x) i e)) (sym same) (subst (IsMade s k) (sym (get_or-set_same shards k x e (omega (arith, lt, made.sixteen)))) now)
      | inr ne ↦ subst (IsMade s j) (sym (get_or-set_other shards k j x e ne)) (made.each j e in16)
    ]

-- with the items of one more, and with no more
pub life_same : (shards : List ShardModel) (c : CloserState) (n k : ℕ) (d x : ShardModel) (s : Store) → AreMade s shards → k < 16 → x.items ≡ (get_or shards k d).items ++ [] → (state_of (set shards k x) c n).life ≡ (state_of shards c n).life
life_same shards c n k d x s made lt items =
    ap (λ (xs : List (List Item)). record { shards = xs; seals = c.seals })
    (map-set (λ (y : ShardModel). y.items) shards k x ∙ ap (set (items_in shards) k) (items ∙ append-nil _ ∙ sym (items_here s shards k d made lt)) ∙ set-get_or (items_in shards) k [])

pub life_more : (shards : List ShardModel) (c : CloserState) (n m k : ℕ) (d x : ShardModel) (item : Item) (s : Store) → AreMade s shards → k < 16 → x.items ≡ (get_or shards k d).items ++ item ∷ [] → (state_of (set shards k x) c n).life ≡ appended (state_of shards c m).life k item
life_more shards c n m k d x item s made lt items =
    ap (λ (xs : List (List Item)). record { shards = xs; seals = c.seals })
    (map-set (λ (y : ShardModel). y.items) shards k x ∙ ap (set (items_in shards) k) (items ∙ ap (λ (ys : List Item). ys ++ item ∷ []) (sym (items_here s shards k d made lt))))

-- the contents at each block
pub contents_set : (s : Store) (shards : List ShardModel) (k : ℕ) (d x : ShardModel) (b : ℕ) → AreMade s shards → AreMade s (set shards k x) → k < 16 → content_at (flat_map own_contents (set shards k x)) b ≡ cond (eqb (shard_of b) k) (content_at x.contents b) (content_at (flat_map own_contents shards) b)
contents_set s shards k d x b made now lt =
    elim (cases_eq (shard_of b) k) [
      | inl same ↦
          contents_there s (set shards k x) b d now ∙ ap (λ (y : ShardModel). content_at y.contents b) (ap (λ (i : ℕ). get_or (set shards k x) i d) same ∙ get_or-set_same shards k x d (omega (arith, lt, made.sixteen)))
          ∙ sym (ap (λ (t : Bool). cond t (content_at x.contents b) (content_at (flat_map own_contents shards) b)) (eq-eqb (shard_of b) k same))
      | inr ne ↦
          contents_there s (set shards k x) b d now ∙ ap (λ (y : ShardModel). content_at y.contents b) (get_or-set_other shards k (shard_of b) x d ne)
          ∙ sym (contents_there s shards b d made)
          ∙ sym (ap (λ (t : Bool). cond t (content_at x.contents b) (content_at (flat_map own_contents shards) b)) (ne_eqb (shard_of b) k ne))
    ]
