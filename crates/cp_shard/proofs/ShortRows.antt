-- Each row of an honest shard has a text with a length of four bytes: a put's signature verifies, so it is
-- as long as a signature of its key.
use Rattle.std.proofs.Common.{◌≡◌, ℕ, ◌^◌, ◌<◌, ◌≤◌, Bool, true, false, cond, ◌&&◌, eqb, leb, List, [], ◌∷◌, ◌++◌, length, get_or, Option, Some, None, Ok, refl, sym, ap, subst, ◌∙◌, inl, inr, arith}
use Rattle.std.specs.Prelude.{filter}
use Rattle.std.specs.List.{AllByRecursion}
use Rattle.std.proofs.lemmas.Bool.{cases_eq, eq-eqb, leb-true}
use Rattle.std.proofs.lemmas.List.{append_assoc}
use Rattle.std.proofs.lemmas.List.Elements.{filter_map-append}
use Rattle.lms_ots.specs.Parameters.{sig_len_of, is_ots_code}
use Rattle.lms_ots.specs.declared.ots_type.OtsType.{OtsType}
use Rattle.lms_ots.specs.declared.ots_type.OtsType.TheVariants.{W1, W2, W4, W8}
use Rattle.lms_tree.specs.Parameters.{is_lms_code}
use Rattle.lms_tree.specs.PublicKey.{has_codes, key_reads, key_lms, key_ots, key_type, key_height}
use Rattle.lms_tree.specs.Verifying.{verifies, Verifies}
use Rattle.lms_tree.proofs.Testing.{verifies_tells}
use Rattle.cp_statements.specs.PutRequest.{PutRequest, put_request_text}
use Rattle.cp_statements.specs.Entry.{Entry, entry_of, EntryFits, entry_text}
use Rattle.cp_statements.proofs.TextLengths.{length-get_text, length-put_text}
use Rattle.cp_families.specs.Families.{FamilyRow, key_of}
use Rattle.cp_families.specs.Writers.{verified_by, signed_request, request_of, writer, family_of}
use Rattle.cp_chain.specs.Each.{Each}
use Rattle.cp_chain.proofs.Each.{each_front, each_last, snoc}
use Rattle.cp_chain.specs.Legal.{FollowsText, Follows}
use Rattle.cp_chain.specs.Frame.{Side}
use Rattle.cp_core.proofs.RowLemmas.{spells_reads, spells_same}
use Rattle.cp_core.specs.Life.{RowItem, as_row, row_item, rows_in, rows_of, in_epoch, entries, is_of_block, is_of_epoch}
use Rattle.cp_core.specs.Honest.{IsItemOf, IsRowOf, SpellsEntry, epoch_side}
use Rattle.cp_core.specs.declared.item.Item.{Item}
use Rattle.cp_core.specs.declared.item.Item.TheVariants.{Row, Frozen}
use Rattle.cp_core.proofs.ListLemmas.{all_append}
use Rattle.cp_shard.specs.Laws.{RowsAreShort}

-- ---- signatures

ots_short : (t : OtsType) → sig_len_of t ≤ 8516
ots_short W1 = omega arith
ots_short W2 = omega arith
ots_short W4 = omega arith
ots_short W8 = omega arith

both_true : (a b : Bool) → (a && b) ≡ true → (a ≡ true) × (b ≡ true)
both_true true true e = (refl, refl)
both_true true false e = absurd cc
both_true false b e = absurd cc

low : (key : List ℕ) → key_reads key ≡ true → key_height key ≤ 25
unfolding key_reads
low key reads =
    let codes : (is_lms_code (key_lms key) ≡ true) × (is_ots_code (key_ots key) ≡ true) = both_true _ _ (both_true (eqb (length key) 56) (has_codes key) reads).1 in
    let lms : (leb 5 (key_lms key) ≡ true) × (leb (key_lms key) 9 ≡ true) = both_true _ _ codes.0 in
    omega (arith, leb-true (key_lms key) 9 lms.1)

verified_short : (key text signature : List ℕ) → verifies key text signature ≡ true → length signature ≤ 10000
verified_short key text signature is =
    let v : Verifies key text signature = verifies_tells key text signature is in
    omega (arith, v.long, ots_short (key_type key), low key v.key_reads)

by_key : (key : Option (List ℕ)) (text signature : List ℕ) → verified_by key text signature ≡ true → length signature ≤ 10000
by_key None text signature is = absurd cc
by_key (Some key) text signature is = verified_short key text signature is

signed_short : (families : List FamilyRow) (r : PutRequest) (signature : List ℕ) → signed_request families r signature ≡ true → length signature ≤ 10000
signed_short families r signature is = by_key (key_of families (family_of r.block) r.client) (put_request_text r) signature is

writer_short : (families : List FamilyRow) (store : List ℕ) (e : Entry) → writer families store e ≡ true → length e.signature ≤ 10000
unfolding writer
writer_short families store e is = signed_short families (request_of store e) e.signature is

-- ---- one entry that may come next

abbrev IsShort : List ℕ → Type 0
IsShort text = length text < 2 ^ 32

follows_short : (side : Side) (earlier : List (List ℕ)) (e : Entry) → EntryFits e → Follows side earlier e → IsShort (entry_text e)
follows_short side earlier e fits f =
    elim (cases_eq e.kind 1) [
      | inl put ↦ omega (arith, length-put_text e fits put, writer_short side.families side.store e (f.writer_signed put))
      | inr other ↦ let get : e.kind ≡ 2 = omega (arith, other, fits.fields.0.0, fits.fields.0.1) in omega (arith, length-get_text e fits get)
    ]

-- ---- all rows

abbrev Spelled : RowItem → Type 0
Spelled r = (e : Entry) × SpellsEntry r.entry e

all_filter : {A : Type 0} (P : A → Type 0) (p : A → Bool) (xs : List A) → AllByRecursion P xs → AllByRecursion P (filter p xs)
all_filter P p [] a = tt
all_filter {A} P p (x ∷ xs) a = go (p x) (all_filter P p xs a.1)
  where
    go : (b : Bool) → AllByRecursion P (filter p xs) → AllByRecursion P (cond b (x ∷ filter p xs) (filter p xs))
    go true rest = (a.0, rest)
    go false rest = rest

spelled_rows : (k : ℕ) (items : List Item) → Each (IsItemOf k) items → AllByRecursion Spelled (rows_in items)
spelled_rows k items each = snoc (λ xs. Each (IsItemOf k) xs → AllByRecursion Spelled (rows_in xs)) (λ each. tt) step items each
  where
    step : (xs : List Item) (x : Item) → (Each (IsItemOf k) xs → AllByRecursion Spelled (rows_in xs)) → Each (IsItemOf k) (xs ++ x ∷ []) → AllByRecursion Spelled (rows_in (xs ++ x ∷ []))
    step xs (Row pass leaf pages entry) so_far each =
        let r : RowItem = record { pass = pass; leaf = leaf; pages = pages; entry = entry } in
        let f : IsRowOf k xs r = each_last (IsItemOf k) xs (row_item r) each in
        subst (AllByRecursion Spelled) (sym (filter_map-append as_row xs (row_item r ∷ []))) (all_append Spelled (rows_in xs) (r ∷ []) (so_far (each_front (IsItemOf k) xs (row_item r ∷ []) each)) ((f.entry, f.spells), tt))
    step xs (Frozen m next) so_far each = subst (AllByRecursion Spelled) (sym (filter_map-append as_row xs (Frozen m next ∷ []))) (all_append Spelled (rows_in xs) [] (so_far (each_front (IsItemOf k) xs (Frozen m next ∷ []) each)) tt)

-- what each row's own block and epoch shows, for all of them
abbrev OfEach : (RowItem → Type 0) → List RowItem → Type 0
OfEach P rows = (b n : ℕ) → AllByRecursion P (filter (is_of_epoch n) (filter (is_of_block b) rows))

later : (P : RowItem → Type 0) (r : RowItem) (rows : List RowItem) → OfEach P (r ∷ rows) → OfEach P rows
later P r rows h b n = go (is_of_block b r) (h b n)
  where
    inner : (u : Bool) → AllByRecursion P (cond u (r ∷ filter (is_of_epoch n) (filter (is_of_block b) rows)) (filter (is_of_epoch n) (filter (is_of_block b) rows))) → AllByRecursion P (filter (is_of_epoch n) (filter (is_of_block b) rows))
    inner true x = x.1
    inner false x = x

    go : (t : Bool) → AllByRecursion P (filter (is_of_epoch n) (cond t (r ∷ filter (is_of_block b) rows) (filter (is_of_block b) rows))) → AllByRecursion P (filter (is_of_epoch n) (filter (is_of_block b) rows))
    go true x = inner (is_of_epoch n r) x
    go false x = x

first_of : (P : RowItem → Type 0) (r : RowItem) (rows : List RowItem) (e : Entry) → entry_of r.entry ≡ Ok e → OfEach P (r ∷ rows) → P r
first_of P r rows e reads h =
    let block : is_of_block e.block r ≡ true = rw reads (eq-eqb e.block e.block refl) in
    let epoch : is_of_epoch e.epoch r ≡ true = rw reads (eq-eqb e.epoch e.epoch refl) in
    let x = h e.block e.epoch in
    (rw (block, epoch) at x).0

of_each : (P : RowItem → Type 0) (rows : List RowItem) → AllByRecursion Spelled rows → OfEach P rows → AllByRecursion P rows
of_each P [] spelled h = tt
of_each P (r ∷ rows) spelled h = (first_of P r rows spelled.0.0 (spells_reads r.entry spelled.0.0 spelled.0.1) h, of_each P rows spelled.1 (later P r rows h))

-- ---- the rows of a block and epoch

row_short : (side : Side) (earlier : List (List ℕ)) (r : RowItem) → Spelled r → FollowsText side earlier r.entry → IsShort r.entry
row_short side earlier r spelled f =
    let same : spelled.0 ≡ f.0 = spells_same r.entry spelled.0 f.0 (spells_reads r.entry spelled.0 spelled.1) f.1 in
    let fits : EntryFits f.0 = subst EntryFits same spelled.1.fits in
    let text : r.entry ≡ entry_text f.0 = spelled.1.spelled ∙ ap entry_text same in
    subst IsShort (sym text) (follows_short side earlier f.0 fits f.2)

all_from : (side : Side) (front : List (List ℕ)) (rows : List RowItem) → ((f : List (List ℕ)) (x : List ℕ) (b : List (List ℕ)) → front ++ entries rows ≡ f ++ x ∷ b → FollowsText side f x) → AllByRecursion Spelled rows → AllByRecursion (λ r. IsShort r.entry) rows
all_from side front [] each spelled = tt
all_from side front (r ∷ rows) each spelled = (
  row_short side front r spelled.0 (each front r.entry (entries rows) refl),
  all_from side (front ++ r.entry ∷ []) rows (λ f x b e. each f x b (sym (append_assoc front (r.entry ∷ []) (entries rows)) ∙ e)) spelled.1,
)

pub shard_short : RowsAreShort
unfolding in_epoch rows_of
shard_short s k items h =
    let spelled = spelled_rows k items h.each in
    of_each (λ (r : RowItem). IsShort r.entry) (rows_in items) spelled
    (λ b n. all_from (epoch_side s items b n) [] (filter (is_of_epoch n) (filter (is_of_block b) (rows_in items))) (h.legal b n).each
    (all_filter Spelled (is_of_epoch n) (filter (is_of_block b) (rows_in items)) (all_filter Spelled (is_of_block b) (rows_in items) spelled)))
