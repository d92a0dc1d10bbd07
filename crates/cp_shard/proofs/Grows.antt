-- How the index of calls and the tips grow with a shard's items.
use Rattle.std.proofs.Common.{◌≡◌, ◌⊎◌, ℕ, zero, suc, ◌+◌, ◌-◌, ◌≤◌, Bool, true, false, cond, eqb, ◌&&◌, List, [], ◌∷◌, ◌++◌, length, take, Option, Some, None, Ok, inl, inr, refl, sym, ap, subst, ◌∙◌, arith}
use Rattle.std.specs.declared.cmp.Ordering.{Ordering}
use Rattle.std.specs.Ordering.{nat_cmp, ordering_then, is_eq}
use Rattle.std.specs.BTreeMap.{BTreeMap, get, is_at}
use Rattle.std.specs.List.{find, slice_get}
use Rattle.std.specs.Option.{option_or}
use Rattle.std.proofs.lemmas.List.{length-append, length-map, map-append, take-append-le, take_all}
use Rattle.std.proofs.lemmas.List.Folds.{find-append}
use Rattle.std.proofs.lemmas.Bool.{cases_eq, eq-eqb, ne_eqb}
use Rattle.std.proofs.lemmas.Map.Lookups.{CmpEqualImpliesEq, exact_pairs, exact_unsigned}
use Rattle.cp_bytes.specs.Hashes.{genesis, head, head_after}
use Rattle.cp_statements.specs.Attestation.{Attestation}
use Rattle.cp_statements.specs.Entry.{Entry, EntryFits, entry_of, entry_text}
use Rattle.cp_statements.specs.View.{attestation_view}
use Rattle.cp_tips.specs.Tip.{fresh}
use Rattle.cp_chain.specs.Each.{Each}
use Rattle.cp_chain.specs.Legal.{Put, is_call, latest, put_at, put_by}
use Rattle.cp_chain.proofs.Chain.{head_after-append}
use Rattle.cp_core.specs.Life.{RowItem, row_item, rows_of, in_epoch, entries, tip_after}
use Rattle.cp_core.specs.Calls.{epoch_now, latest_of, head_of, attested}
use Rattle.cp_core.specs.Honest.{IsItemOf}
use Rattle.cp_core.specs.declared.item.Item.{Item}
use Rattle.cp_core.specs.declared.item.Item.TheVariants.{Frozen}
use Rattle.cp_core.proofs.RowLemmas.{rows_of-append}
use Rattle.cp_core.proofs.EpochLemmas.{row_same, row_other, freeze_rows, freezes_row, freezes_more, in_push, in_other, in_freeze, ordered}
use Rattle.cp_core.proofs.CallLemmas.{latest_push}
use Rattle.cp_shard.specs.declared.key.Key.{Key}
use Rattle.cp_shard.specs.declared.call.Call.{Call}
use Rattle.cp_shard.specs.Booked.{tip_by}
use Rattle.cp_shard.specs.Places.{key_cmp, found_at, head_before, IsCallAt, IsPlace}
use Rattle.cp_shard.specs.Kept.{tip_of, key_of}

-- ---- keys

is_eq_nat : (a b : ℕ) → is_eq (nat_cmp a b) ≡ eqb a b
is_eq_nat a b = grind arith

is_eq_then : (a b : Ordering) → is_eq (ordering_then a b) ≡ is_eq a && is_eq b
is_eq_then a b = grind arith

-- the entry has the key
abbrev pub is_at_key : Entry → Key → Bool
is_at_key e k = eqb e.block k.block && (eqb e.client k.client && eqb e.nonce k.nonce)

-- the order finds a key exactly where the three numbers are the same
pub at_key : (e : Entry) (k : Key) → is_at (key_cmp (key_of e)) k ≡ is_at_key e k
at_key e k =
    is_eq_then (nat_cmp e.block k.block) (ordering_then (nat_cmp e.client k.client) (nat_cmp e.nonce k.nonce))
    ∙ ap (λ t. t && is_eq (ordering_then (nat_cmp e.client k.client) (nat_cmp e.nonce k.nonce))) (is_eq_nat e.block k.block)
    ∙ ap (λ t. eqb e.block k.block && t) (is_eq_then (nat_cmp e.client k.client) (nat_cmp e.nonce k.nonce)
    ∙ ap (λ t. t && is_eq (nat_cmp e.nonce k.nonce)) (is_eq_nat e.client k.client)
    ∙ ap (λ t. eqb e.client k.client && t) (is_eq_nat e.nonce k.nonce))

exact_keys : CmpEqualImpliesEq key_cmp
exact_keys a b h = ap (λ (p : ℕ × (ℕ × ℕ)). record { block = p.0; client = p.1.0; nonce = p.1.1 })
    (exact_pairs nat_cmp (λ (x y : ℕ × ℕ). ordering_then (nat_cmp x.0 y.0) (nat_cmp x.1 y.1)) exact_unsigned (exact_pairs nat_cmp nat_cmp exact_unsigned exact_unsigned) (a.block, (a.client, a.nonce)) (b.block, (b.client, b.nonce)) h)

same_key : (a k : Key) → is_at (key_cmp a) k ≡ true → a ≡ k
same_key a k h = exact_keys a k (grind (arith, h))

-- ---- what is found

call_read : (r : RowItem) (e : Entry) (k : Key) → entry_of r.entry ≡ Ok e → is_call k.client k.nonce r.entry ≡ (eqb e.client k.client && eqb e.nonce k.nonce)
call_read r e k reads = rw reads refl

find_one : (p : RowItem → Bool) (r : RowItem) → find p (r ∷ []) ≡ cond (p r) (Some r) None
find_one p r = refl

or_none : {A : Type 0} (o : Option A) → option_or o None ≡ o
or_none None = refl
or_none (Some x) = refl

-- one more row of the epoch that is now
pub found_row : (items : List Item) (r : RowItem) (e : Entry) (k : Key) → entry_of r.entry ≡ Ok e → e.epoch ≡ epoch_now items
    → found_at (items ++ row_item r ∷ []) k ≡ option_or (found_at items k) (cond (is_at_key e k) (Some r) None)
found_row items r e k reads now =
    let p : RowItem → Bool = λ x. is_call k.client k.nonce x.entry in
    let n : ℕ = epoch_now items in
    let epoch : epoch_now (items ++ row_item r ∷ []) ≡ n = ap (λ m. m + 1) (freezes_row items r) in
    let start : found_at (items ++ row_item r ∷ []) k ≡ find p (in_epoch (items ++ row_item r ∷ []) k.block n) = ap (λ m. find p (in_epoch (items ++ row_item r ∷ []) k.block m)) epoch in
    elim (cases_eq e.block k.block) [
      | inl same ↦
          start ∙ ap (find p) (in_push items r e k.block n reads same now) ∙ find-append p (in_epoch items k.block n) (r ∷ [])
          ∙ ap (λ (t : Bool). option_or (found_at items k) (cond t (Some r) None)) (call_read r e k reads)
          ∙ ap (λ (t : Bool). option_or (found_at items k) (cond (t && (eqb e.client k.client && eqb e.nonce k.nonce)) (Some r) None)) (sym (eq-eqb e.block k.block same))
      | inr other ↦
          start ∙ ap (find p) (in_other items r e k.block n reads other) ∙ sym (or_none (found_at items k))
          ∙ ap (λ (t : Bool). option_or (found_at items k) (cond (t && (eqb e.client k.client && eqb e.nonce k.nonce)) (Some r) None)) (sym (ne_eqb e.block k.block other))
    ]

-- after a freeze no call is of the epoch that is now
pub found_frozen : (index : ℕ) (items : List Item) (m : ℕ) (next : List ℕ) (k : Key) → Each (IsItemOf index) items → found_at (items ++ Frozen m next ∷ []) k ≡ None
found_frozen index items m next k each =
    let p : RowItem → Bool = λ x. is_call k.client k.nonce x.entry in
    let n : ℕ = epoch_now (items ++ Frozen m next ∷ []) in
    ap (find p) (in_freeze items m next k.block n ∙ (ordered index items k.block each).none n (omega (arith, freezes_more items m next)))

-- ---- places

get_within : {A : Type 0} (xs ys : List A) (p : ℕ) (x : A) → slice_get xs p ≡ Some x → slice_get (xs ++ ys) p ≡ Some x
get_within [] ys p x e = absurd cc
get_within (z ∷ zs) ys zero x e = e
get_within (z ∷ zs) ys (suc p) x e = get_within zs ys p x e

get_end : {A : Type 0} (xs : List A) (x : A) → slice_get (xs ++ x ∷ []) (length xs) ≡ Some x
get_end [] x = refl
get_end (z ∷ zs) x = get_end zs x

-- the rows before one that stands stay the same
stays_before : (items : List Item) (x : Item) (e : Entry) → e.position ≤ length (rows_of items e.block) → head_before (items ++ x ∷ []) e ≡ head_before items e
stays_before items x e stands =
    let b : ℕ = e.block in
    let texts : entries (rows_of (items ++ x ∷ []) b) ≡ entries (rows_of items b) ++ entries (rows_of (x ∷ []) b) =
    ap entries (rows_of-append items (x ∷ []) b) ∙ map-append (λ (r : RowItem). r.entry) (rows_of items b) (rows_of (x ∷ []) b) in
    ap (λ ts. head_after (genesis b) (take e.position ts)) texts
    ∙ ap (head_after (genesis b)) (take-append-le e.position (entries (rows_of items b)) (entries (rows_of (x ∷ []) b)) (omega (arith, stands, length-map (rows_of items b) (λ (r : RowItem). r.entry))))

grown : (items : List Item) (x : Item) (b : ℕ) → length (rows_of items b) ≤ length (rows_of (items ++ x ∷ []) b)
grown items x b = omega (arith, ap length (rows_of-append items (x ∷ []) b), length-append (rows_of items b) (rows_of (x ∷ []) b))

call_stays : (store : List ℕ) (items : List Item) (x : Item) (k : Key) (c : Call) → found_at (items ++ x ∷ []) k ≡ found_at items k → IsCallAt store items k c → IsCallAt store (items ++ x ∷ []) k c
call_stays store items x k c same h = record {
  row = h.row;
  entry = h.entry;
  found = same ∙ h.found;
  reads = h.reads;
  block = h.block;
  stands = omega (arith, h.stands, grown items x h.entry.block);
  leaf = h.leaf;
  attestation = h.attestation ∙ ap (λ prev. attested store prev h.entry) (sym (stays_before items x h.entry h.stands));
}

place_stays : (store : List ℕ) (items : List Item) (x : Item) (calls more : List Call) (k : Key) (o : Option ℕ) → found_at (items ++ x ∷ []) k ≡ found_at items k → IsPlace store items calls k o → IsPlace store (items ++ x ∷ []) (calls ++ more) k o
place_stays store items x calls more k None same h = same ∙ h
place_stays store items x calls more k (Some p) same h = (h.0, get_within calls more p h.0 h.1, call_stays store items x k h.0 same h.2)

-- the head of the chain is that before an entry that comes next
head_next : (items : List Item) (r : RowItem) (e : Entry) → entry_of r.entry ≡ Ok e → e.position ≡ length (rows_of items e.block) → head_before (items ++ row_item r ∷ []) e ≡ head_of items e.block
head_next items r e reads position =
    stays_before items (row_item r) e (omega (arith, position))
    ∙ ap (head_after (genesis e.block)) (take_all e.position (entries (rows_of items e.block)) (omega (arith, position, length-map (rows_of items e.block) (λ (r : RowItem). r.entry))))

none_or : {A : Type 0} (o p : Option A) → o ≡ None → option_or o p ≡ p
none_or o p none = ap (λ o. option_or o p) none

pub places_row : (store : List ℕ) (items : List Item) (r : RowItem) (e : Entry) (a : Attestation) (calls : List Call) (c : Call) (old new : BTreeMap Key ℕ) → entry_of r.entry ≡ Ok e → e.epoch ≡ epoch_now items → e.position ≡ length (rows_of items e.block)
    → found_at items (key_of e) ≡ None → c.leaf ≡ r.leaf → attestation_view c.attestation ≡ attested store (head_of items e.block) e
    → ((k : Key) → IsPlace store items calls k (get key_cmp old k))
    → ((k : Key) → get key_cmp new k ≡ cond (is_at (key_cmp (key_of e)) k) (Some (length calls)) (get key_cmp old k))
    → (k : Key) → IsPlace store (items ++ row_item r ∷ []) (calls ++ c ∷ []) k (get key_cmp new k)
places_row store items r e a calls c old new reads now position none leaf signed places changed k = go (is_at (key_cmp (key_of e)) k) refl
  where
    found : found_at (items ++ row_item r ∷ []) k ≡ option_or (found_at items k) (cond (is_at_key e k) (Some r) None)
    found = found_row items r e k reads now

    go : (t : Bool) → is_at (key_cmp (key_of e)) k ≡ t → IsPlace store (items ++ row_item r ∷ []) (calls ++ c ∷ []) k (get key_cmp new k)
    go true h =
        let key : key_of e ≡ k = same_key (key_of e) k h in
        let absent : found_at items k ≡ None = ap (found_at items) (sym key) ∙ none in
        let here : found_at (items ++ row_item r ∷ []) k ≡ Some r = found ∙ none_or _ _ absent ∙ ap (λ t. cond t (Some r) None) (sym (at_key e k) ∙ h) in
        subst (IsPlace store (items ++ row_item r ∷ []) (calls ++ c ∷ []) k) (sym (changed k ∙ ap (λ t. cond t (Some (length calls)) (get key_cmp old k)) h)) (
          c,
          get_end calls c,
          record {
            row = r;
            entry = e;
            found = here;
            reads = reads;
            block = ap (λ (k : Key). k.block) key;
            stands = omega (arith, position, grown items (row_item r) e.block);
            leaf = leaf;
            attestation = signed ∙ ap (λ prev. attested store prev e) (sym (head_next items r e reads position));
          },
        )
    go false h =
        subst (IsPlace store (items ++ row_item r ∷ []) (calls ++ c ∷ []) k) (sym (changed k ∙ ap (λ t. cond t (Some (length calls)) (get key_cmp old k)) h))
        (place_stays store items (row_item r) calls (c ∷ []) k (get key_cmp old k) (found ∙ ap (λ t. option_or (found_at items k) (cond t (Some r) None)) (sym (at_key e k) ∙ h) ∙ or_none (found_at items k)) (places k))

-- ---- tips

tip_put : (b : ℕ) (ts : List (List ℕ)) (p : Put) → latest (put_at (fresh b)) ts ≡ p → tip_after b ts ≡ record { count = length ts; version = p.version; content = p.content; head = head_after (genesis b) ts }
unfolding tip_after
tip_put b ts p e = ap (λ (q : Put). record { count = length ts; version = q.version; content = q.content; head = head_after (genesis b) ts }) e

kind_is : (e : Entry) → EntryFits e → (eqb e.kind 1 ≡ true) × (e.kind ≡ 1) ⊎ (eqb e.kind 1 ≡ false) × (e.kind ≡ 2)
kind_is e fits = elim (cases_eq e.kind 1) [
  | inl put ↦ inl (eq-eqb e.kind 1 put, put)
  | inr get ↦ inr (ne_eqb e.kind 1 get, omega (arith, get, fits.fields.0.0, fits.fields.0.1))
]

-- the entry's version and content are the block's latest ones after it
latest_next : (items : List Item) (r : RowItem) (e : Entry) → entry_of r.entry ≡ Ok e → EntryFits e → (e.kind ≡ 2 → put_by e ≡ latest_of items e.block) → latest_of (items ++ row_item r ∷ []) e.block ≡ put_by e
latest_next items r e reads fits get =
    latest_push items r e e.block reads refl ∙ elim (kind_is e fits) [
      | inl put ↦ ap (λ t. cond t (put_by e) (latest_of items e.block)) put.0
      | inr other ↦ ap (λ t. cond t (put_by e) (latest_of items e.block)) other.0 ∙ sym (get other.1)
    ]

signed_head : (store prev : List ℕ) (e : Entry) (a : Attestation) → a ≡ attested store prev e → tip_by a ≡ record { count = e.position + 1; version = e.version; content = e.content; head = head prev (entry_text e) }
unfolding attested
signed_head store prev e a same = ap tip_by same

tip_next : (store : List ℕ) (items : List Item) (r : RowItem) (e : Entry) (a : Attestation) → r.entry ≡ entry_text e → entry_of r.entry ≡ Ok e → EntryFits e → e.position ≡ length (rows_of items e.block) → a ≡ attested store (head_of items e.block) e
    → (e.kind ≡ 2 → put_by e ≡ latest_of items e.block) → tip_of (items ++ row_item r ∷ []) e.block ≡ tip_by a
tip_next store items r e a spelled reads fits position signed get =
    let b : ℕ = e.block in
    let texts : entries (rows_of (items ++ row_item r ∷ []) b) ≡ entries (rows_of items b) ++ r.entry ∷ [] =
    ap entries (row_same items r e b reads refl) ∙ map-append (λ (x : RowItem). x.entry) (rows_of items b) (r ∷ []) in
    let count : length (entries (rows_of (items ++ row_item r ∷ []) b)) ≡ e.position + 1 =
    omega (arith, ap length texts, length-append (entries (rows_of items b)) (r.entry ∷ []), length-map (rows_of items b) (λ (x : RowItem). x.entry), position) in
    let heads : head_after (genesis b) (entries (rows_of (items ++ row_item r ∷ []) b)) ≡ head (head_of items b) (entry_text e) =
    ap (head_after (genesis b)) texts ∙ head_after-append (genesis b) (entries (rows_of items b)) (r.entry ∷ []) ∙ ap (head (head_of items b)) spelled in
    tip_put b (entries (rows_of (items ++ row_item r ∷ []) b)) (put_by e) (latest_next items r e reads fits get)
    ∙ ap (λ n. record { count = n; version = e.version; content = e.content; head = head_after (genesis b) (entries (rows_of (items ++ row_item r ∷ []) b)) }) count
    ∙ ap (λ h. record { count = e.position + 1; version = e.version; content = e.content; head = h }) heads
    ∙ sym (signed_head store (head_of items b) e a signed)

pub tip_row : (store : List ℕ) (items : List Item) (r : RowItem) (e : Entry) (a : Attestation) (b : ℕ) → r.entry ≡ entry_text e → entry_of r.entry ≡ Ok e → EntryFits e → e.position ≡ length (rows_of items e.block) → a ≡ attested store (head_of items e.block) e
    → (e.kind ≡ 2 → put_by e ≡ latest_of items e.block) → tip_of (items ++ row_item r ∷ []) b ≡ cond (eqb e.block b) (tip_by a) (tip_of items b)
tip_row store items r e a b spelled reads fits position signed get =
    elim (cases_eq e.block b) [
      | inl same ↦ ap (tip_of (items ++ row_item r ∷ [])) (sym same) ∙ tip_next store items r e a spelled reads fits position signed get ∙ ap (λ t. cond t (tip_by a) (tip_of items b)) (sym (eq-eqb e.block b same))
      | inr other ↦ ap (λ rs. tip_after b (entries rs)) (row_other items r e b reads other) ∙ ap (λ t. cond t (tip_by a) (tip_of items b)) (sym (ne_eqb e.block b other))
    ]

pub tip_frozen : (items : List Item) (m : ℕ) (next : List ℕ) (b : ℕ) → tip_of (items ++ Frozen m next ∷ []) b ≡ tip_of items b
tip_frozen items m next b = ap (λ rs. tip_after b (entries rs)) (freeze_rows items m next b)
