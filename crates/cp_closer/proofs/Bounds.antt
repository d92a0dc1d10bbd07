-- Each number of a log fits its field.
use Rattle.std.proofs.Common.{◌≡◌, ℕ, ◌+◌, ◌*◌, ◌^◌, ◌<◌, ◌≤◌, List, [], ◌∷◌, ◌++◌, length, map, flat_map, take, codes, sym, ap, subst, ◌∙◌, arith}
use Rattle.std.specs.List.{AllByRecursion, sum_by}
use Rattle.std.specs.Int.{w32, w64, to_be_bytes}
use Rattle.std.specs.Borrow.{Bor}
use Rattle.std.specs.Ordering.{nat_cmp, match_ordering}
use Rattle.std.specs.declared.cmp.Ordering.{Ordering}
use Rattle.std.specs.declared.cmp.Ordering.TheVariants.{Less, Equal, Greater}
use Rattle.std.specs.BTreeMap.{insert_entry}
use Rattle.std.proofs.lemmas.List.{append_assoc, append-nil, take_all, length-append, length-map}
use Rattle.std.proofs.lemmas.List.Sums.{sum_by-cons}
use Rattle.cp_bytes.specs.Fields.{part}
use Rattle.cp_chain.specs.Segment.{SegmentFits, segment_text}
use Rattle.cp_chain.specs.Log.{LogPart, log_text, log_part_text}
use Rattle.cp_core.specs.declared.frozen_block.FrozenBlock.{FrozenBlock}
use Rattle.cp_core.specs.Frozen.{Gained, Part}
use Rattle.cp_closer.specs.Taken.{put_all, texts_of, entries_in}
use Rattle.cp_closer.specs.Kept.{BlockIsSmall, PartIsSmall}
use Rattle.cp_closer.specs.Closer.{segments}
use Rattle.cp_closer.specs.View.{texts_shown}
use Rattle.cp_closer.specs.Writing.{IsLogStart, IsSegmentStart}

-- ---- texts that are written field by field

pub log_starts : (epoch blocks : ℕ) (a b now : List ℕ) → a ≡ codes "CPl1" → b ≡ a ++ to_be_bytes w64 epoch → now ≡ b ++ to_be_bytes w32 blocks → IsLogStart epoch blocks now
unfolding log_text
log_starts epoch blocks a b now tag number count parts many =
    let rest : List ℕ = flat_map log_part_text parts in
    let start : now ≡ (codes "CPl1" ++ to_be_bytes w64 epoch) ++ to_be_bytes w32 blocks = count ∙ ap (λ (zs : List ℕ). zs ++ to_be_bytes w32 blocks) (number ∙ ap (λ (zs : List ℕ). zs ++ to_be_bytes w64 epoch) tag) in
    ap (λ (n : ℕ). codes "CPl1" ++ (to_be_bytes w64 epoch ++ (to_be_bytes w32 n ++ rest))) many
    ∙ sym (ap (λ (zs : List ℕ). zs ++ rest) start
    ∙ append_assoc (codes "CPl1" ++ to_be_bytes w64 epoch) (to_be_bytes w32 blocks) rest
    ∙ append_assoc (codes "CPl1") (to_be_bytes w64 epoch) (to_be_bytes w32 blocks ++ rest))

pub segment_starts : (block count : ℕ) (old mid now : List ℕ) → mid ≡ old ++ to_be_bytes w64 block → now ≡ mid ++ to_be_bytes w32 count → IsSegmentStart block count old now
unfolding log_part_text segment_text
segment_starts block count old mid now number size texts many =
    let rest : List ℕ = flat_map part texts in
    ap (λ (n : ℕ). old ++ (to_be_bytes w64 block ++ (to_be_bytes w32 n ++ rest))) many
    ∙ sym (ap (λ (zs : List ℕ). zs ++ rest) (size ∙ ap (λ (zs : List ℕ). zs ++ to_be_bytes w32 count) number)
    ∙ append_assoc (old ++ to_be_bytes w64 block) (to_be_bytes w32 count) rest
    ∙ append_assoc old (to_be_bytes w64 block) (to_be_bytes w32 count ++ rest))

pub texts_spelled : (texts : List (List ℕ)) (i : ℕ) (old now : List ℕ) → length texts ≤ i → now ≡ old ++ flat_map part (take i texts) → now ≡ old ++ flat_map part texts
texts_spelled texts i old now end is = is ∙ ap (λ (us : List (List ℕ)). old ++ flat_map part us) (take_all i texts end)

pub block_spelled : (block count : ℕ) (texts : List (List ℕ)) (old mid now : List ℕ) → count ≡ length texts → IsSegmentStart block count old mid → now ≡ mid ++ flat_map part texts → now ≡ old ++ log_part_text (record { block = block; texts = texts })
block_spelled block count texts old mid now many start all = all ∙ sym (start texts (sym many))

pub log_spelled : (epoch count : ℕ) (blocks rest : List (ℕ × Bor FrozenBlock)) (start now : List ℕ) → rest ≡ [] → count ≡ length blocks → IsLogStart epoch count start
    → now ++ flat_map log_part_text (segments (texts_shown rest)) ≡ start ++ flat_map log_part_text (segments (texts_shown blocks)) → now ≡ log_text (record { epoch = epoch; parts = segments (texts_shown blocks) })
log_spelled epoch count blocks rest start now end many is all =
    let shown : ℕ × Bor FrozenBlock → ℕ × List (List ℕ) = λ e. (e.0, e.1.now.entries.items) in
    let as_part : ℕ × List (List ℕ) → LogPart = λ e. record { block = e.0; texts = e.1 } in
    let parts : List LogPart = segments (texts_shown blocks) in
    let counted : length parts ≡ count = length-map (texts_shown blocks) as_part ∙ length-map blocks shown ∙ sym many in
    sym (append-nil now) ∙ ap (λ (r : List (ℕ × Bor FrozenBlock)). now ++ flat_map log_part_text (segments (texts_shown r))) (sym end) ∙ all ∙ sym (is parts counted)

-- ---- what holds of each value that is put in

insert_length : {X : Type 0} (values : List (ℕ × X)) (block : ℕ) (x : X) → length (insert_entry nat_cmp values block x) ≤ length values + 1
insert_length [] block x = omega arith
insert_length (e ∷ es) block x = pick (nat_cmp block e.0) (insert_length es block x)
  where
    pick : (o : Ordering) → length (insert_entry nat_cmp es block x) ≤ length es + 1 → length (match_ordering o ((block, x) ∷ (e ∷ es)) ((e.0, x) ∷ es) (e ∷ insert_entry nat_cmp es block x)) ≤ length (e ∷ es) + 1
    pick Less h = omega arith
    pick Equal h = omega arith
    pick Greater h = omega (arith, h)

put_all-length : {X : Type 0} (values xs : List (ℕ × X)) → length (put_all values xs) ≤ length values + length xs
put_all-length values [] = omega arith
put_all-length values (x ∷ xs) = omega (arith, put_all-length (insert_entry nat_cmp values x.0 x.1) xs, insert_length values x.0 x.1)

insert_each : {X : Type 0} (P : X → Type 0) (values : List (ℕ × X)) (block : ℕ) (x : X) → AllByRecursion (λ e. P e.1) values → P x → AllByRecursion (λ e. P e.1) (insert_entry nat_cmp values block x)
insert_each P [] block x all p = (p, tt)
insert_each P (e ∷ es) block x all p = pick (nat_cmp block e.0) (insert_each P es block x all.1 p)
  where
    pick : (o : Ordering) → AllByRecursion (λ e. P e.1) (insert_entry nat_cmp es block x) → AllByRecursion (λ e. P e.1) (match_ordering o ((block, x) ∷ (e ∷ es)) ((e.0, x) ∷ es) (e ∷ insert_entry nat_cmp es block x))
    pick Less h = (p, all)
    pick Equal h = (p, all.1)
    pick Greater h = (all.0, h)

put_all-each : {X : Type 0} (P : X → Type 0) (values xs : List (ℕ × X)) → AllByRecursion (λ e. P e.1) values → AllByRecursion (λ e. P e.1) xs → AllByRecursion (λ e. P e.1) (put_all values xs)
put_all-each P values [] a b = a
put_all-each P values (x ∷ xs) a b = put_all-each P (insert_entry nat_cmp values x.0 x.1) xs (insert_each P values x.0 x.1 a b.0) b.1

-- ---- small parts

few_blocks : (blocks : List Gained) → AllByRecursion BlockIsSmall blocks → length blocks ≤ sum_by (λ x. length x.entries) blocks
few_blocks [] all = omega arith
few_blocks (x ∷ xs) all = omega (arith, all.0.filled, few_blocks xs all.1, sum_by-cons (λ (x : Gained). length x.entries) x xs)

few_texts : (parts : List Part) → AllByRecursion PartIsSmall parts → length (flat_map texts_of parts) ≤ length parts * 2 ^ 27
few_texts [] all = omega arith
few_texts (p ∷ ps) all =
    let f : Gained → ℕ × List (List ℕ) = λ x. (x.block, x.entries) in
    omega (arith, length-append (texts_of p) (flat_map texts_of ps), length-map p.blocks f, few_blocks p.blocks all.0.blocks, all.0.few, few_texts ps all.1)

block_fits : (n : ℕ) (blocks : List Gained) → AllByRecursion BlockIsSmall blocks → sum_by (λ x. length x.entries) blocks ≤ n → n < 2 ^ 32 → AllByRecursion (λ (e : ℕ × List (List ℕ)). SegmentFits e.1) (map (λ (x : Gained). (x.block, x.entries)) blocks)
block_fits n [] all few small = tt
block_fits n (x ∷ xs) all few small =
    let sum = sum_by-cons (λ (x : Gained). length x.entries) x xs in
    let short : BlockIsSmall x = all.0 in
    let rest : AllByRecursion BlockIsSmall xs = all.1 in
    ((omega (arith, sum, few, small), short.short), block_fits n xs rest (omega (arith, sum, few)) small)

all_append : {X : Type 0} (P : X → Type 0) (xs ys : List X) → AllByRecursion P xs → AllByRecursion P ys → AllByRecursion P (xs ++ ys)
all_append P [] ys a b = b
all_append P (x ∷ xs) ys a b = (a.0, all_append P xs ys a.1 b)

texts_fit : (parts : List Part) → AllByRecursion PartIsSmall parts → AllByRecursion (λ e. SegmentFits e.1) (flat_map texts_of parts)
texts_fit [] all = tt
texts_fit (p ∷ ps) all = all_append (λ (e : ℕ × List (List ℕ)). SegmentFits e.1) (texts_of p) (flat_map texts_of ps) (block_fits (entries_in p) p.blocks all.0.blocks (omega arith) (omega (arith, all.0.few))) (texts_fit ps all.1)

-- ---- the blocks of all parts

pub few_in_order : (blocks : List (ℕ × Bor FrozenBlock)) (parts : List Part) → texts_shown blocks ≡ put_all [] (flat_map texts_of parts) → AllByRecursion PartIsSmall parts → length parts ≤ 16 → length blocks < 2 ^ 32
few_in_order blocks parts shown small few =
    let f : ℕ × Bor FrozenBlock → ℕ × List (List ℕ) = λ e. (e.0, e.1.now.entries.items) in
    omega (arith, length-map blocks f, ap length shown, put_all-length [] (flat_map texts_of parts), few_texts parts small, few)

pub fit_in_order : (blocks : List (ℕ × Bor FrozenBlock)) (parts : List Part) → texts_shown blocks ≡ put_all [] (flat_map texts_of parts) → AllByRecursion PartIsSmall parts → AllByRecursion (λ e. SegmentFits e.1) (texts_shown blocks)
fit_in_order blocks parts shown small = subst (AllByRecursion (λ (e : ℕ × List (List ℕ)). SegmentFits e.1)) (sym shown) (put_all-each SegmentFits [] (flat_map texts_of parts) tt (texts_fit parts small))
