-- A block's tip with one more item of its shard.
use Rattle.std.proofs.Common.{◌≡◌, ℕ, suc, ◌+◌, ◌<◌, ◌≤◌, Bool, true, false, cond, ◌&&◌, eqb, leb, List, [], ◌∷◌, ◌++◌, length, Option, Some, None, Result, Ok, Err, refl, sym, ap, ◌∙◌, arith, take}
use Rattle.std.specs.Prelude.{filter, filter_map, get_or}
use Rattle.std.specs.List.{cons_option}
use Rattle.std.proofs.lemmas.List.{append-nil, length-append, map-append, length-map, take_more}
use Rattle.std.proofs.lemmas.Bool.{eqb-true, eqb-false, leb-true, leb-false}
use Rattle.cp_bytes.specs.Hashes.{genesis, head}
use Rattle.cp_chain.proofs.Chain.{head_after-append, latest-append}
use Rattle.cp_chain.specs.Legal.{Put, latest, put_at, put_by}
use Rattle.cp_core.proofs.CallLemmas.{latest_one}
use Rattle.cp_core.proofs.EpochLemmas.{count_after, head_after_tip, ordered, put_after, up_to_freeze, up_to_later, up_to_other, up_to_push}
use Rattle.cp_core.proofs.RowLemmas.{freezes-append, rows_of-append}
use Rattle.cp_core.proofs.SealLemmas.{fewer}
use Rattle.cp_core.specs.Calls.{epoch_now, head_of, latest_of}
use Rattle.cp_core.specs.Life.{RowItem, as_freeze, as_row, cut, entries, freezes, is_of_block, is_up_to_epoch, row_item, rows_in, rows_of, tip_after, up_to}
use Rattle.cp_core.specs.Running.{Stands, tip_of, tip_with, tip_with_item, tip_with_read}
use Rattle.cp_core.specs.declared.item.Item.{Item}
use Rattle.cp_core.specs.declared.item.Item.TheVariants.{Frozen, Row}
use Rattle.cp_statements.specs.Entry.{Entry, entry_of}
use Rattle.cp_tips.specs.Tip.{Tip, fresh}

-- a row that does not read is of no block
unread_none : (r : RowItem) (left b : ℕ) → entry_of r.entry ≡ Err left → rows_of (row_item r ∷ []) b ≡ []
unfolding rows_of
unread_none r left b h = rw h refl

pub rows_of_unread : (items : List Item) (r : RowItem) (left b : ℕ) → entry_of r.entry ≡ Err left → rows_of (items ++ row_item r ∷ []) b ≡ rows_of items b
rows_of_unread items r left b h = rows_of-append items (row_item r ∷ []) b ∙ ap (λ l. rows_of items b ++ l) (unread_none r left b h) ∙ append-nil _

pub put_of_tip : (b : ℕ) (ts : List (List ℕ)) (t : List ℕ) (e : Entry) → entry_of t ≡ Ok e → put_at (tip_after b (ts ++ t ∷ [])) ≡ cond (eqb e.kind 1) (put_by e) (put_at (tip_after b ts))
put_of_tip b ts t e h = put_after b (ts ++ t ∷ []) ∙ latest-append (put_at (fresh b)) ts (t ∷ []) ∙ latest_one (latest (put_at (fresh b)) ts) t e h ∙ ap (cond (eqb e.kind 1) (put_by e)) (sym (put_after b ts))

parts_are : (t u : Tip) (c : ℕ) (p : Put) (h : List ℕ) → t.count ≡ c → put_at t ≡ p → t.head ≡ h → t ≡ record { count = c; version = p.version; content = p.content; head = h }
parts_are t u c p h a b d = rw (sym a, sym b, sym d) refl

cond_version : (k : Bool) (p q : Put) → (cond k p q).version ≡ cond k p.version q.version
cond_version true p q = refl
cond_version false p q = refl

cond_content : (k : Bool) (p q : Put) → (cond k p q).content ≡ cond k p.content q.content
cond_content true p q = refl
cond_content false p q = refl

pub tip_push : (b : ℕ) (ts : List (List ℕ)) (t : List ℕ) (e : Entry) → entry_of t ≡ Ok e → tip_after b (ts ++ t ∷ []) ≡ tip_with (tip_after b ts) e t
unfolding tip_with
tip_push b ts t e h =
    let p = cond (eqb e.kind 1) (put_by e) (put_at (tip_after b ts)) in
    let heads : (tip_after b (ts ++ t ∷ [])).head ≡ head (tip_after b ts).head t = head_after_tip b (ts ++ t ∷ []) ∙ head_after-append (genesis b) ts (t ∷ []) ∙ ap (λ (k : List ℕ). head k t) (sym (head_after_tip b ts)) in
    let counts : (tip_after b (ts ++ t ∷ [])).count ≡ (tip_after b ts).count + 1 = omega (arith, count_after b (ts ++ t ∷ []), count_after b ts, length-append ts (t ∷ [])) in
    parts_are (tip_after b (ts ++ t ∷ [])) (tip_after b ts) _ p _ counts (put_of_tip b ts t e h) heads
    ∙ rw (cond_version (eqb e.kind 1) (put_by e) (put_at (tip_after b ts)), cond_content (eqb e.kind 1) (put_by e) (put_at (tip_after b ts))) refl

pub cut_item : (xs : List Item) (x : Item) (b n : ℕ) → cut (xs ++ x ∷ []) b n ≡ tip_with_item b n (cut xs b n) x
unfolding tip_with_item up_to rows_of
cut_item xs (Frozen m next) b n = ap (λ (rs : List RowItem). tip_after b (entries rs)) (up_to_freeze xs m next b n)
cut_item xs (Row pass leaf pages text) b n = go (entry_of text) refl
  where
    r : RowItem
    r = record { pass = pass; leaf = leaf; pages = pages; entry = text }

    pushed : (e : Entry) → entry_of text ≡ Ok e → e.block ≡ b → e.epoch ≤ n → cut (xs ++ Row pass leaf pages text ∷ []) b n ≡ tip_with (cut xs b n) e text
    pushed e h same le =
        ap (λ (rs : List RowItem). tip_after b (entries rs)) (up_to_push xs (record { pass = pass; leaf = leaf; pages = pages; entry = text }) e b n h same le)
        ∙ ap (tip_after b) (map-append (λ (x : RowItem). x.entry) (up_to xs b n) (record { pass = pass; leaf = leaf; pages = pages; entry = text } ∷ []))
        ∙ tip_push b (entries (up_to xs b n)) text e h

    at : (e : Entry) → entry_of text ≡ Ok e → (t u : Bool) → eqb e.block b ≡ t → leb e.epoch n ≡ u → cut (xs ++ Row pass leaf pages text ∷ []) b n ≡ cond (t && u) (tip_with (cut xs b n) e text) (cut xs b n)
    at e h true true p q = pushed e h (eqb-true _ _ p) (leb-true _ _ q)
    at e h true false p q = ap (λ (rs : List RowItem). tip_after b (entries rs)) (up_to_later xs (record { pass = pass; leaf = leaf; pages = pages; entry = text }) e b n h (eqb-true _ _ p) (leb-false _ _ q))
    at e h false u p q = ap (λ (rs : List RowItem). tip_after b (entries rs)) (up_to_other xs (record { pass = pass; leaf = leaf; pages = pages; entry = text }) e b n h (eqb-false _ _ p))

    go : (x : Result Entry ℕ) → entry_of text ≡ x → cut (xs ++ Row pass leaf pages text ∷ []) b n ≡ tip_with_read b n (cut xs b n) text x
    go (Ok e) h = at e h (eqb e.block b) (leb e.epoch n) refl refl
    go (Err left) h = ap (λ (rs : List RowItem). tip_after b (entries (filter (is_up_to_epoch n) rs))) (rows_of_unread xs (record { pass = pass; leaf = leaf; pages = pages; entry = text }) left b h)

pub cut_more : (items : List Item) (i b n : ℕ) (d : Item) → i < length items → cut (take (i + 1) items) b n ≡ tip_with_item b n (cut (take i items) b n) (get_or items i d)
cut_more items i b n d lt = ap (λ (xs : List Item). cut xs b n) (take_more items i d lt) ∙ cut_item (take i items) (get_or items i d) b n

length-filter_map : {A B : Type 0} (f : A → Option B) (xs : List A) → length (filter_map f xs) ≤ length xs
length-filter_map f [] = omega arith
length-filter_map {B = B} f (x ∷ xs) = go (f x) (length-filter_map f xs)
  where
    go : (o : Option B) → length (filter_map f xs) ≤ length xs → length (cons_option o (filter_map f xs)) ≤ suc (length xs)
    go None h = omega (arith, h)
    go (Some y) h = omega (arith, h)

pub count_few : (items : List Item) (b n : ℕ) → (cut items b n).count ≤ length items
unfolding up_to rows_of
count_few items b n = omega (arith, count_after b (entries (up_to items b n)), length-map (up_to items b n) (λ (x : RowItem). x.entry), fewer (is_up_to_epoch n) (rows_of items b), fewer (is_of_block b) (rows_in items), length-filter_map as_row items)

pub cut_none : (b n : ℕ) → fresh b ≡ cut [] b n
unfolding up_to rows_of tip_after latest
cut_none b n = refl

epoch_item : (xs : List Item) (x : Item) → epoch_now (xs ++ x ∷ []) ≡ epoch_now xs + freezes (x ∷ [])
epoch_item xs x = omega (arith, freezes-append xs (x ∷ []))

pub epoch_more : (items : List Item) (i : ℕ) (d : Item) → i < length items → epoch_now (take (i + 1) items) ≡ epoch_now (take i items) + freezes (get_or items i d ∷ [])
epoch_more items i d lt = ap epoch_now (take_more items i d lt) ∙ epoch_item (take i items) (get_or items i d)

pub freezes_one : (x : Item) → freezes (x ∷ []) ≤ 1
freezes_one (Row pass leaf pages entry) = omega arith
freezes_one (Frozen n next) = omega arith

pub epoch_few : (items : List Item) → epoch_now items ≤ length items + 1
epoch_few items = omega (arith, length-filter_map as_freeze items)

pub cut_now : (items : List Item) (b n : ℕ) → Stands items → epoch_now items ≤ n → cut items b n ≡ tip_of items b
unfolding tip_of
cut_now items b n stands le = ap (λ (rs : List RowItem). tip_after b (entries rs)) ((ordered stands.0 items b stands.1).all n le)

pub put_now : (items : List Item) (b : ℕ) → put_at (tip_of items b) ≡ latest_of items b
unfolding tip_of
put_now items b = put_after b (entries (rows_of items b))

pub head_now : (items : List Item) (b : ℕ) → (tip_of items b).head ≡ head_of items b
unfolding tip_of
head_now items b = head_after_tip b (entries (rows_of items b))

pub count_all : (items : List Item) (b : ℕ) → (tip_of items b).count ≡ length (rows_of items b)
unfolding tip_of
count_all items b = count_after b (entries (rows_of items b)) ∙ length-map (rows_of items b) (λ (x : RowItem). x.entry)

pub moved_block : (items : List Item) (b d : ℕ) (t : Tip) → b ≡ d → t ≡ tip_of items b → t ≡ tip_of items d
moved_block items b d t same is = is ∙ ap (tip_of items) same
