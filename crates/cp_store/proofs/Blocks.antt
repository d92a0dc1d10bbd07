-- A shard's step asks for the contents of the call's own block alone.
use Rattle.std.proofs.Common.{◌≡◌, ℕ, Bool, true, false, cond, eqb, List, [], ◌∷◌, Option, Some, None, Result, Ok, Err, refl, sym, ap, subst, ◌∙◌}
use Rattle.std.specs.Prelude.{filter}
use Rattle.std.specs.List.{AllByRecursion, find}
use Rattle.std.proofs.lemmas.Bool.{eqb-true}
use Rattle.cp_statements.specs.Entry.{Entry, entry_of}
use Rattle.cp_chain.specs.Legal.{ok_and, is_call}
use Rattle.cp_core.specs.Life.{RowItem, rows_in, is_of_block, is_of_epoch, rows_of, in_epoch}
use Rattle.cp_core.specs.Requests.{block_of, client_of, nonce_of}
use Rattle.cp_core.specs.Calls.{content_at, again_entry, found, epoch_now, at_found, settled, booked, new_row, with_leaf, unless_settled, shard_step}
use Rattle.cp_core.specs.Calls.Effect.{New}
use Rattle.cp_core.specs.Booking.{Booking}
use Rattle.cp_core.specs.declared.content.Content.{Content}
use Rattle.cp_core.specs.declared.item.Item.{Item}
use Rattle.cp_core.specs.declared.request.Request.{Request}
use Rattle.cp_core.specs.declared.leaves_over.LeavesOver.{LeavesOver}
use Rattle.cp_core.specs.declared.answer.Answer.{Answer}
use Rattle.cp_core.specs.declared.answer.Answer.TheVariants.{Booked}

-- ---- what is found is of the block

pub all_filter : {A : Type 0} (P : A → Type 0) (p : A → Bool) (xs : List A) → AllByRecursion P xs → AllByRecursion P (filter p xs)
all_filter P p [] a = tt
all_filter {A} P p (x ∷ xs) a = go (p x) (all_filter P p xs a.1)
  where
    go : (b : Bool) → AllByRecursion P (filter p xs) → AllByRecursion P (cond b (x ∷ filter p xs) (filter p xs))
    go true rest = (a.0, rest)
    go false rest = rest

all_pass : {A : Type 0} (p : A → Bool) (xs : List A) → AllByRecursion (λ x. p x ≡ true) (filter p xs)
all_pass p [] = tt
all_pass {A} p (x ∷ xs) = go (p x) refl (all_pass p xs)
  where
    go : (b : Bool) → p x ≡ b → AllByRecursion (λ y. p y ≡ true) (filter p xs) → AllByRecursion (λ y. p y ≡ true) (cond b (x ∷ filter p xs) (filter p xs))
    go true e rest = (e, rest)
    go false e rest = rest

find_all : {A : Type 0} (P : A → Type 0) (p : A → Bool) (xs : List A) (x : A) → AllByRecursion P xs → find p xs ≡ Some x → P x
find_all P p [] x all e = absurd cc
find_all {A} P p (y ∷ ys) x all e = go (p y) e (λ later. find_all P p ys x all.1 later)
  where
    go : (b : Bool) → cond b (Some y) (find p ys) ≡ Some x → (find p ys ≡ Some x → P x) → P x
    go true h rest = let same : y ≡ x = cc in subst P same all.0
    go false h rest = rest h

found_block : (items : List Item) (request : Request) (r : RowItem) → found items request ≡ Some r → is_of_block (block_of request) r ≡ true
unfolding found in_epoch rows_of
found_block items request r e =
    find_all (λ (x : RowItem). is_of_block (block_of request) x ≡ true) (λ (x : RowItem). is_call (client_of request) (nonce_of request) x.entry) (filter (is_of_epoch (epoch_now items)) (filter (is_of_block (block_of request)) (rows_in items))) r
    (all_filter (λ (x : RowItem). is_of_block (block_of request) x ≡ true) (is_of_epoch (epoch_now items)) (filter (is_of_block (block_of request)) (rows_in items)) (all_pass (is_of_block (block_of request)) (rows_in items))) e

entry_block : (b : ℕ) (x : Result Entry ℕ) (e : Entry) → ok_and x (λ y. eqb y.block b) ≡ true → x ≡ Ok e → e.block ≡ b
entry_block b (Ok y) e h is = let same : y ≡ e = cc in ap (λ (z : Entry). z.block) (sym same) ∙ eqb-true y.block b h
entry_block b (Err left) e h is = absurd cc

-- ---- the rules

again_same : (store : List ℕ) (items : List Item) (c d : List Content) (request : Request) (leaf : ℕ) (x : Result Entry ℕ) → ((e : Entry) → x ≡ Ok e → content_at c e.block ≡ content_at d e.block) → again_entry store items c request leaf x ≡ again_entry store items d request leaf x
unfolding again_entry
again_same store items c d request leaf (Err left) h = refl
again_same store items c d request leaf (Ok e) h = rw (h e refl) refl

at_found_same : (store : List ℕ) (pages : ℕ) (items : List Item) (c d : List Content) (request : Request) (f : Option RowItem) → found items request ≡ f → content_at c (block_of request) ≡ content_at d (block_of request)
    → at_found store pages items c request f ≡ at_found store pages items d request f
at_found_same store pages items c d request None is same = refl
at_found_same store pages items c d request (Some r) is same =
    ap Some (again_same store items c d request r.leaf (entry_of r.entry) (λ e reads. subst (λ (b : ℕ). content_at c b ≡ content_at d b) (sym (entry_block (block_of request) (entry_of r.entry) e (found_block items request r is) reads)) same))

pub settled_same : (store : List ℕ) (pages : ℕ) (first : List ℕ) (items : List Item) (c d : List Content) (request : Request) → content_at c (block_of request) ≡ content_at d (block_of request) → settled store pages first items c request ≡ settled store pages first items d request
unfolding settled
settled_same store pages first items c d request same = rw (at_found_same store pages items c d request (found items request) refl same) refl

booked_same : (store : List ℕ) (items : List Item) (c d : List Content) (request : Request) (leaf : ℕ) → content_at c (block_of request) ≡ content_at d (block_of request) → booked store items c request leaf ≡ booked store items d request leaf
unfolding booked
booked_same store items c d request leaf same = rw same refl

with_leaf_same : (store : List ℕ) (items : List Item) (c d : List Content) (pass : ℕ) (request : Request) (leaf : Result ℕ LeavesOver) → content_at c (block_of request) ≡ content_at d (block_of request) → with_leaf store items c pass request leaf ≡ with_leaf store items d pass request leaf
with_leaf_same store items c d pass request (Err over) same = refl
with_leaf_same store items c d pass request (Ok q) same = ap (λ (b : Booking). New (Booked b) (new_row items pass request q)) (booked_same store items c d request q same)

pub step_same : (store : List ℕ) (pages : ℕ) (first : List ℕ) (items : List Item) (c d : List Content) (pass : ℕ) (request : Request) (leaf : Result ℕ LeavesOver) → content_at c (block_of request) ≡ content_at d (block_of request)
    → shard_step store pages first items c pass request leaf ≡ shard_step store pages first items d pass request leaf
unfolding shard_step
step_same store pages first items c d pass request leaf same =
    ap (λ (o : Option Answer). unless_settled o (with_leaf store items c pass request leaf)) (settled_same store pages first items c d request same)
    ∙ ap (unless_settled (settled store pages first items d request)) (with_leaf_same store items c d pass request leaf same)
