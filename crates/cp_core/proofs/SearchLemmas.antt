-- The row that a call made before, from the shard's items.
use Rattle.std.proofs.Common.{◌≡◌, ℕ, ◌+◌, ◌<◌, Bool, true, false, cond, ◌&&◌, eqb, List, [], ◌∷◌, length, Option, Some, None, Result, Ok, Err, refl, sym, ap, ◌∙◌, drop}
use Rattle.std.specs.Prelude.{get_or, filter}
use Rattle.std.specs.List.{find}
use Rattle.std.proofs.lemmas.List.{drop_more}
use Rattle.cp_chain.specs.Legal.{is_call}
use Rattle.cp_core.specs.Calls.{epoch_now, found}
use Rattle.cp_core.specs.Life.{RowItem, as_row, in_epoch, is_of_block, is_of_epoch, row_item, rows_in, rows_of}
use Rattle.cp_core.specs.Requests.{block_of, client_of, nonce_of}
use Rattle.cp_core.specs.Running.{IsFoundAt, item_is_call}
use Rattle.cp_core.specs.declared.item.Item.{Item}
use Rattle.cp_core.specs.declared.item.Item.TheVariants.{Frozen, Row}
use Rattle.cp_core.specs.declared.request.Request.{Request}
use Rattle.cp_statements.specs.Entry.{Entry, entry_of}

-- the first item that is the call's
abbrev pub found_in : Request → ℕ → List Item → Option RowItem
found_in request n [] = None
found_in request n (x ∷ xs) = cond (item_is_call request n x) (as_row x) (found_in request n xs)

abbrev tested : Request → ℕ → List RowItem → Option RowItem
tested request n rows = find (λ r. is_call (client_of request) (nonce_of request) r.entry) (filter (is_of_epoch n) (filter (is_of_block (block_of request)) rows))

one_row : (request : Request) (n : ℕ) (r : RowItem) (rows : List RowItem) → tested request n (r ∷ rows) ≡ cond (item_is_call request n (row_item r)) (Some r) (tested request n rows)
one_row request n r rows = go (entry_of r.entry) refl
  where
    pick : (e : Entry) → entry_of r.entry ≡ Ok e → (t u v : Bool) → eqb e.block (block_of request) ≡ t → eqb e.epoch n ≡ u → (eqb e.client (client_of request) && eqb e.nonce (nonce_of request)) ≡ v
        → tested request n (r ∷ rows) ≡ cond (t && (u && v)) (Some r) (tested request n rows)
    pick e h false u v p q w = rw (h, p) refl
    pick e h true false v p q w = rw (h, p, h, q) refl
    pick e h true true false p q w = rw (h, p, h, q, h, w) refl
    pick e h true true true p q w = rw (h, p, h, q, h, w) refl

    go : (x : Result Entry ℕ) → entry_of r.entry ≡ x → tested request n (r ∷ rows) ≡ cond (item_is_call request n (row_item r)) (Some r) (tested request n rows)
    go (Err left) h = rw h refl
    go (Ok e) h = pick e h (eqb e.block (block_of request)) (eqb e.epoch n) (eqb e.client (client_of request) && eqb e.nonce (nonce_of request)) refl refl refl ∙ rw h refl

found_is : (request : Request) (n : ℕ) (items : List Item) → tested request n (rows_in items) ≡ found_in request n items
found_is request n [] = refl
found_is request n (Row pass leaf pages entry ∷ xs) =
    one_row request n (record { pass = pass; leaf = leaf; pages = pages; entry = entry }) (rows_in xs)
    ∙ ap (cond (item_is_call request n (Row pass leaf pages entry)) (Some (record { pass = pass; leaf = leaf; pages = pages; entry = entry }))) (found_is request n xs)
found_is request n (Frozen m next ∷ xs) = found_is request n xs

pub found_first : (request : Request) (items : List Item) → found items request ≡ found_in request (epoch_now items) items
unfolding found in_epoch rows_of
found_first request items = found_is request (epoch_now items) items

found_at : (request : Request) (n i : ℕ) (items : List Item) (x : Item) → x ≡ get_or items i x → i < length items → found_in request n (drop i items) ≡ cond (item_is_call request n x) (as_row x) (found_in request n (drop (i + 1) items))
found_at request n i items x is lt = ap (found_in request n) (drop_more items i x lt) ∙ ap (λ (y : Item). cond (item_is_call request n y) (as_row y) (found_in request n (drop (i + 1) items))) (sym is)

-- an item that is not the call's may be left out
pub found_more : (request : Request) (n i : ℕ) (items : List Item) (x : Item) → x ≡ get_or items i x → i < length items → item_is_call request n x ≡ false → found_in request n (drop (i + 1) items) ≡ found_in request n (drop i items)
found_more request n i items x is lt none = sym (found_at request n i items x is lt ∙ ap (λ (t : Bool). cond t (as_row x) (found_in request n (drop (i + 1) items))) none)

call_row : (request : Request) (n : ℕ) (x : Item) → item_is_call request n x ≡ true → (r : RowItem) × (x ≡ row_item r)
call_row request n (Row pass leaf pages entry) e = (record { pass = pass; leaf = leaf; pages = pages; entry = entry }, refl)
call_row request n (Frozen m next) e = absurd cc

-- one that is settles it
pub found_here : (request : Request) (n i : ℕ) (items : List Item) (x : Item) → x ≡ get_or items i x → i < length items → n ≡ epoch_now items → found_in request n (drop i items) ≡ found_in request n items → item_is_call request n x ≡ true → IsFoundAt items request (Some i)
found_here request n i items x is lt now so_far some =
    let w = call_row request n x some in
    let here : found_in request n (drop i items) ≡ as_row x = found_at request n i items x is lt ∙ ap (λ (t : Bool). cond t (as_row x) (found_in request n (drop (i + 1) items))) some in
    let all : found items request ≡ Some w.0 = found_first request items ∙ ap (λ (m : ℕ). found_in request m items) (sym now) ∙ sym so_far ∙ here ∙ ap as_row w.1 in
    (lt, w.0, all, rw (sym w.1) (sym is))

pub found_nowhere : (request : Request) (n : ℕ) (items : List Item) → n ≡ epoch_now items → found_in request n [] ≡ found_in request n items → found items request ≡ None
found_nowhere request n items now so_far = found_first request items ∙ ap (λ (m : ℕ). found_in request m items) (sym now) ∙ sym so_far
