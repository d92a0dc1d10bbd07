-- Where the rows of an epoch stand, and what is kept of them.
use Rattle.std.proofs.Common.{◌≡◌, ℕ, zero, suc, ◌+◌, ◌-◌, ◌<◌, ◌≤◌, List, [], ◌∷◌, ◌++◌, length, map, take, drop, get_or, None, refl, sym, ap, subst, ◌∙◌, append_assoc, arith}
use Rattle.std.specs.List.{slice_range}
use Rattle.std.proofs.lemmas.List.{append-nil, length-append, get_or_at, get_or_read}
use Rattle.std.proofs.Math.Seq.{drop-append_seam, take-append_seam}
use Rattle.cp_chain.specs.Each.{Each}
use Rattle.cp_chain.proofs.Each.{each_front}
use Rattle.cp_core.specs.Life.{RowItem, row_item, rows_in, freezes, nexts, list_text}
use Rattle.cp_core.specs.Calls.{epoch_now}
use Rattle.cp_core.specs.Frozen.{Part, gained_view, frozen_block, blocks_in}
use Rattle.cp_core.specs.Honest.{IsItemOf}
use Rattle.cp_core.specs.declared.frozen_block.FrozenBlock.{FrozenBlock}
use Rattle.cp_core.specs.declared.item.Item.{Item}
use Rattle.cp_core.specs.declared.item.Item.TheVariants.{Row, Frozen}
use Rattle.cp_core.proofs.RowLemmas.{freezes-append}
use Rattle.cp_core.proofs.EpochLemmas.{freezes_row}
use Rattle.cp_core.proofs.FrozenLemmas.{part_stays, part_freeze}
use Rattle.cp_core.proofs.ListLemmas.{text_front, text_next}
use Rattle.cp_shard.specs.declared.row_tip.RowTip.{RowTip}
use Rattle.cp_shard.specs.Gathered.{row_tip, tips_by, row_tips, row_counts, KeepsRows, gained_at, IsNextRow, AreNextRows, IsGathered}
use Rattle.cp_shard.proofs.EpochRows.{none_gained}

-- ---- what is kept, as items come

pub row_tips-append : (front xs ys : List Item) → row_tips front (xs ++ ys) ≡ row_tips front xs ++ row_tips (front ++ xs) ys
row_tips-append front [] ys = ap (λ l. row_tips l ys) (sym (append-nil front))
row_tips-append front (x ∷ xs) ys =
    ap (λ l. tips_by front x ++ l) (row_tips-append (front ++ x ∷ []) xs ys ∙ ap (λ l. row_tips (front ++ x ∷ []) xs ++ row_tips l ys) (append_assoc front (x ∷ []) xs))
    ∙ sym (append_assoc (tips_by front x) (row_tips (front ++ x ∷ []) xs) (row_tips (front ++ (x ∷ xs)) ys))

pub row_counts-append : (n : ℕ) (xs ys : List Item) → row_counts n (xs ++ ys) ≡ row_counts n xs ++ row_counts (n + length (rows_in xs)) ys
row_counts-append n [] ys = ap (λ m. row_counts m ys) (omega arith)
row_counts-append n (Row pass leaf pages entry ∷ xs) ys = row_counts-append (n + 1) xs ys ∙ ap (λ m. row_counts (n + 1) xs ++ row_counts m ys) (omega arith)
row_counts-append n (Frozen m next ∷ xs) ys = ap (λ l. n ∷ l) (row_counts-append n xs ys)

pub length-row_tips : (front xs : List Item) → length (row_tips front xs) ≡ length (rows_in xs)
length-row_tips front [] = refl
length-row_tips front (Row pass leaf pages entry ∷ xs) = ap suc (length-row_tips (front ++ Row pass leaf pages entry ∷ []) xs)
length-row_tips front (Frozen m next ∷ xs) = length-row_tips (front ++ Frozen m next ∷ []) xs

pub length-row_counts : (n : ℕ) (xs : List Item) → length (row_counts n xs) ≡ freezes xs
length-row_counts n [] = refl
length-row_counts n (Row pass leaf pages entry ∷ xs) = length-row_counts (n + 1) xs
length-row_counts n (Frozen m next ∷ xs) = ap suc (length-row_counts n xs)

length-items : (xs : List Item) → length xs ≡ length (rows_in xs) + freezes xs
length-items [] = refl
length-items (Row pass leaf pages entry ∷ xs) = omega (arith, length-items xs)
length-items (Frozen m next ∷ xs) = omega (arith, length-items xs)

counts_push : (items : List Item) (m : ℕ) (next : List ℕ) → row_counts 0 (items ++ Frozen m next ∷ []) ≡ row_counts 0 items ++ length (rows_in items) ∷ []
counts_push items m next = row_counts-append 0 items (Frozen m next ∷ []) ∙ ap (λ c. row_counts 0 items ++ c ∷ []) (omega arith)

pub rows_none : (closings room : ℕ) → closings ≤ room → KeepsRows [] [] [] closings room
rows_none closings room fits = record { tips_are = refl; counts_are = refl; has_room = fits }

pub rows_frozen_more : (items : List Item) (tips : List RowTip) (counts : List ℕ) (closings room m : ℕ) (next : List ℕ) (n : ℕ) → KeepsRows items tips counts closings room → n ≡ length tips → KeepsRows (items ++ Frozen m next ∷ []) tips (counts ++ n ∷ []) closings room
rows_frozen_more items tips counts closings room m next n h len = record {
  tips_are = h.tips_are ∙ sym (row_tips-append [] items (Frozen m next ∷ []) ∙ append-nil (row_tips [] items));
  counts_are =
      ap (λ l. l ++ n ∷ []) h.counts_are ∙ ap (λ c. row_counts 0 items ++ c ∷ []) (len ∙ ap length h.tips_are ∙ length-row_tips [] items)
      ∙ sym (counts_push items m next);
  has_room = h.has_room;
}

pub rows_more : (items : List Item) (tips : List RowTip) (counts : List ℕ) (closings room : ℕ) (r : RowItem) (t : RowTip) → KeepsRows items tips counts closings room → t ≡ row_tip items r → KeepsRows (items ++ row_item r ∷ []) (tips ++ t ∷ []) counts closings room
rows_more items tips counts closings room r t h is = record {
  tips_are =
      ap (λ l. l ++ t ∷ []) h.tips_are ∙ ap (λ x. row_tips [] items ++ x ∷ []) is ∙ sym (row_tips-append [] items (row_item r ∷ []));
  counts_are = h.counts_are ∙ sym (row_counts-append 0 items (row_item r ∷ []) ∙ append-nil (row_counts 0 items));
  has_room = h.has_room;
}

pub rows_same : (items : List Item) (tips : List RowTip) (counts : List ℕ) (closings room : ℕ) (now : List RowTip) → now ≡ tips → KeepsRows items tips counts closings room → KeepsRows items now counts closings room
rows_same items tips counts closings room now same h = record { tips_are = same ∙ h.tips_are; counts_are = h.counts_are; has_room = h.has_room }

-- there is room for one more freeze
pub count_fits : (items : List Item) (tips : List RowTip) (counts : List ℕ) (closings room : ℕ) → KeepsRows items tips counts closings room → epoch_now items ≤ closings → length counts < room
count_fits items tips counts closings room h few = omega (arith, few, h.has_room, ap length h.counts_are, length-row_counts 0 items)

-- ---- the rows between two freezes

-- what comes before them: nothing, or items with the freeze before them last
abbrev pub StartsAt : ℕ → List Item → Type 0
StartsAt zero front = front ≡ []
StartsAt (suc e) front = (before : List Item) × (m : ℕ) × (list : List ℕ) × (front ≡ before ++ Frozen m list ∷ [])

record Parted (n : ℕ) (items : List Item) (e : ℕ) : Type 0 where
  front : List Item
  rows : List Item
  back : List Item
  epoch : ℕ
  next : List ℕ
  is : items ≡ front ++ (rows ++ Frozen epoch next ∷ back)
  starts : StartsAt e front
  full : freezes front ≡ e
  none : freezes rows ≡ 0
  start : get_or (n ∷ row_counts n items) e 0 ≡ n + length (rows_in front)
  end : get_or (row_counts n items) e 0 ≡ n + length (rows_in front) + length (rows_in rows)

parted : (n : ℕ) (items : List Item) (e : ℕ) → e < freezes items → Parted n items e
parted n [] e lt = absurd (omega (arith, lt))
parted n (Frozen m next ∷ xs) zero lt = record { front = []; rows = []; back = xs; epoch = m; next = next; is = refl; starts = refl; full = refl; none = refl; start = omega arith; end = omega arith }
parted n (Frozen m next ∷ xs) (suc zero) lt =
    let p = parted n xs 0 (omega (arith, lt)) in
    record {
      front = Frozen m next ∷ p.front;
      rows = p.rows;
      back = p.back;
      epoch = p.epoch;
      next = p.next;
      is = ap (λ l. Frozen m next ∷ l) p.is;
      starts = ([], m, next, ap (λ l. Frozen m next ∷ l) p.starts);
      full = ap suc p.full;
      none = p.none;
      start = p.start;
      end = p.end;
    }
parted n (Frozen m next ∷ xs) (suc (suc e)) lt =
    let p = parted n xs (suc e) (omega (arith, lt)) in
    record {
      front = Frozen m next ∷ p.front;
      rows = p.rows;
      back = p.back;
      epoch = p.epoch;
      next = p.next;
      is = ap (λ l. Frozen m next ∷ l) p.is;
      starts = (Frozen m next ∷ p.starts.0, p.starts.1, p.starts.2, ap (λ l. Frozen m next ∷ l) p.starts.3);
      full = ap suc p.full;
      none = p.none;
      start = p.start;
      end = p.end;
    }
parted n (Row pass leaf pages entry ∷ xs) zero lt =
    let p = parted (n + 1) xs 0 lt in
    let nothing : length (rows_in p.front) ≡ 0 = ap (λ l. length (rows_in l)) p.starts in
    record {
      front = [];
      rows = Row pass leaf pages entry ∷ p.rows;
      back = p.back;
      epoch = p.epoch;
      next = p.next;
      is = ap (λ l. Row pass leaf pages entry ∷ l) (p.is ∙ ap (λ l. l ++ (p.rows ++ Frozen p.epoch p.next ∷ p.back)) p.starts);
      starts = refl;
      full = refl;
      none = p.none;
      start = omega arith;
      end = omega (arith, p.end, nothing);
    }
parted n (Row pass leaf pages entry ∷ xs) (suc e) lt =
    let p = parted (n + 1) xs (suc e) lt in
    record {
      front = Row pass leaf pages entry ∷ p.front;
      rows = p.rows;
      back = p.back;
      epoch = p.epoch;
      next = p.next;
      is = ap (λ l. Row pass leaf pages entry ∷ l) p.is;
      starts = (Row pass leaf pages entry ∷ p.starts.0, p.starts.1, p.starts.2, ap (λ l. Row pass leaf pages entry ∷ l) p.starts.3);
      full = p.full;
      none = p.none;
      start = omega (arith, p.start);
      end = omega (arith, p.end);
    }

-- ---- the last freeze

-- it lies behind the rows that were counted before it, and brought the list of the epoch that is now
pub record LastFreeze (first : List ℕ) (items : List Item) (at : ℕ) : Type 0 where
  pub within : at < length items
  pub epoch : ℕ
  pub next : List ℕ
  pub is : (d : Item) → get_or items at d ≡ Frozen epoch next
  pub list : list_text first items (epoch_now items) ≡ next

pub last_freeze : (first : List ℕ) (items : List Item) (tips : List RowTip) (counts : List ℕ) (closings room many rows : ℕ) → KeepsRows items tips counts closings room → many ≡ length counts → (many ≡ 0 → ⊥) → rows ≡ get_or counts (many - 1) rows
    → LastFreeze first items (rows + (many - 1))
last_freeze first items tips counts closings room many rows h is_len some read =
    let n : ℕ = many - 1 in
    let all : freezes items ≡ n + 1 = omega (arith, is_len, some, ap length h.counts_are, length-row_counts 0 items) in
    let count : rows ≡ get_or counts n 0 = get_or_read counts n rows (omega (arith, is_len, some)) read 0 in
    let p = parted 0 items n (omega (arith, all)) in
    let front : List Item = p.front ++ p.rows in
    let last : Item = Frozen p.epoch p.next in
    let is : items ≡ front ++ last ∷ p.back = p.is ∙ sym (append_assoc p.front p.rows (last ∷ p.back)) in
    let at : rows + n ≡ length front =
    omega (arith, count, ap (λ l. get_or l n 0) h.counts_are, p.end, length-items p.front, length-items p.rows, p.full, p.none, length-append p.front p.rows) in
    let full : freezes front ≡ n = omega (arith, freezes-append p.front p.rows, p.full, p.none) in
    let ended : items ≡ (front ++ last ∷ []) ++ p.back = is ∙ sym (append_assoc front (last ∷ []) p.back) in
    let full_front : freezes (front ++ last ∷ []) ≡ n + 1 = omega (arith, freezes-append front (last ∷ []), full) in
    record {
      within = omega (arith, at, ap length is, length-append front (last ∷ p.back));
      epoch = p.epoch;
      next = p.next;
      is = λ d. ap (λ l. get_or l (rows + n) d) is ∙ get_or_at front last p.back d (rows + n) (sym at);
      list =
          ap (λ m. list_text first items (m + 1)) all ∙ ap (λ l. list_text first l (n + 1 + 1)) ended ∙ text_front first (front ++ last ∷ []) p.back (n + 1 + 1) (omega (arith, full_front))
          ∙ text_next first front p.epoch p.next (n + 1) (omega (arith, full));
    }

-- before it the list is the first one
pub no_freeze : (first : List ℕ) (items : List Item) (tips : List RowTip) (counts : List ℕ) (closings room many : ℕ) → KeepsRows items tips counts closings room → many ≡ length counts → many ≡ 0 → list_text first items (epoch_now items) ≡ first
unfolding list_text
no_freeze first items tips counts closings room many h is_len none =
    let few : freezes items ≡ 0 = omega (arith, none, is_len, ap length h.counts_are, length-row_counts 0 items) in
    ap (λ n. get_or (first ∷ nexts items) (n + 1 - 1) first) few

-- ---- the rows of an epoch, with what is kept of them

next_rows : (k n : ℕ) (front rows more : List Item) → Each (IsItemOf k) (front ++ (rows ++ more)) → freezes rows ≡ 0 → n ≡ epoch_now front → AreNextRows k n front rows (row_tips front rows)
next_rows k n front [] more each none now i x t lt = absurd (omega (arith, lt))
next_rows k n front (Frozen m next ∷ xs) more each none now i x t lt = absurd (omega (arith, none))
next_rows k n front (Row pass leaf pages entry ∷ xs) more each none now zero x t lt =
    let first : Item = Row pass leaf pages entry in
    let regroup : (front ++ first ∷ []) ++ (xs ++ more) ≡ front ++ ((first ∷ xs) ++ more) = append_assoc front (first ∷ []) (xs ++ more) in
    subst (λ l. IsNextRow k n l first (row_tip front (record { pass = pass; leaf = leaf; pages = pages; entry = entry }))) (sym (append-nil front))
    (record { each = each_front (IsItemOf k) (front ++ first ∷ []) (xs ++ more) (subst (λ l. Each (IsItemOf k) l) (sym regroup) each); now = now; kept = refl })
next_rows k n front (Row pass leaf pages entry ∷ xs) more each none now (suc i) x t lt =
    let first : Item = Row pass leaf pages entry in
    let r : RowItem = record { pass = pass; leaf = leaf; pages = pages; entry = entry } in
    let regroup : (front ++ first ∷ []) ++ (xs ++ more) ≡ front ++ ((first ∷ xs) ++ more) = append_assoc front (first ∷ []) (xs ++ more) in
    subst (λ l. IsNextRow k n l (get_or xs i x) (get_or (row_tips (front ++ first ∷ []) xs) i t)) (append_assoc front (first ∷ []) (take i xs))
    (next_rows k n (front ++ first ∷ []) xs more (subst (λ l. Each (IsItemOf k) l) (sym regroup) each) none (omega (arith, now, freezes_row front r)) i x t (omega (arith, lt)))

pub record Span (k : ℕ) (items : List Item) (tips : List RowTip) (epoch start end : ℕ) : Type 0 where
  pub front : List Item
  pub rows : List Item
  pub rest : List Item
  pub items_are : items ≡ front ++ (rows ++ rest)
  pub at : length front ≡ start + (epoch - 1)
  pub until : start + length rows ≡ end
  pub earlier : List RowTip
  pub later : List RowTip
  pub tips_are : tips ≡ earlier ++ (row_tips front rows ++ later)
  pub tips_at : length earlier ≡ start
  pub tips_many : length (row_tips front rows) ≡ length rows
  pub next : AreNextRows k epoch front rows (row_tips front rows)
  pub fresh : (b : ℕ) → gained_at front epoch b ≡ None
  pub same : map (frozen_block items epoch) (blocks_in (rows_in items) epoch) ≡ map (frozen_block (front ++ rows) epoch) (blocks_in (rows_in (front ++ rows)) epoch)

fresh_at : (k e : ℕ) (front : List Item) (b : ℕ) → Each (IsItemOf k) front → StartsAt e front → freezes front ≡ e → gained_at front (suc e) b ≡ None
fresh_at k zero front b each starts full = ap (λ l. gained_at l 1 b) starts
fresh_at k (suc e) front b each starts full =
    let is : front ≡ starts.0 ++ Frozen starts.1 starts.2 ∷ [] = starts.3 in
    ap (λ l. gained_at l (suc (suc e)) b) is
    ∙ none_gained k (suc (suc e)) starts.0 starts.1 starts.2 b (each_front (IsItemOf k) starts.0 (Frozen starts.1 starts.2 ∷ []) (subst (λ l. Each (IsItemOf k) l) is each)) (omega (arith, full, ap freezes is, freezes-append starts.0 (Frozen starts.1 starts.2 ∷ [])))

span_none : (k : ℕ) (items : List Item) (tips : List RowTip) → Each (IsItemOf k) items → Span k items tips 0 0 0
span_none k items tips each = record {
  front = [];
  rows = [];
  rest = items;
  items_are = refl;
  at = refl;
  until = refl;
  earlier = [];
  later = tips;
  tips_are = refl;
  tips_at = refl;
  tips_many = refl;
  next = λ i x t lt. absurd (omega (arith, lt));
  fresh = λ b. refl;
  same = ap (λ (p : Part). p.blocks) (part_stays k 0 [] items each (omega arith));
}

span_some : (k : ℕ) (items : List Item) (tips : List RowTip) (e start end : ℕ) → Each (IsItemOf k) items → tips ≡ row_tips [] items → e < freezes items → start ≡ get_or (0 ∷ row_counts 0 items) e 0 → end ≡ get_or (row_counts 0 items) e 0 → Span k items tips (suc e) start end
span_some k items tips e start end each tips_are lt starts ends =
    let p = parted 0 items e lt in
    let whole : Each (IsItemOf k) (p.front ++ (p.rows ++ Frozen p.epoch p.next ∷ p.back)) = subst (λ l. Each (IsItemOf k) l) p.is each in
    let tail : items ≡ (p.front ++ p.rows) ++ Frozen p.epoch p.next ∷ p.back = p.is ∙ sym (append_assoc p.front p.rows (Frozen p.epoch p.next ∷ p.back)) in
    let regroup : ((p.front ++ p.rows) ++ Frozen p.epoch p.next ∷ []) ++ p.back ≡ (p.front ++ p.rows) ++ Frozen p.epoch p.next ∷ p.back = append_assoc (p.front ++ p.rows) (Frozen p.epoch p.next ∷ []) p.back in
    let split : items ≡ ((p.front ++ p.rows) ++ Frozen p.epoch p.next ∷ []) ++ p.back = tail ∙ sym regroup in
    let many : length p.rows ≡ length (rows_in p.rows) = omega (arith, length-items p.rows, p.none) in
    let frozen : suc e ≤ freezes ((p.front ++ p.rows) ++ Frozen p.epoch p.next ∷ []) = omega (arith, freezes-append (p.front ++ p.rows) (Frozen p.epoch p.next ∷ []), freezes-append p.front p.rows, p.full) in
    record {
      front = p.front;
      rows = p.rows;
      rest = Frozen p.epoch p.next ∷ p.back;
      items_are = p.is;
      at = omega (arith, length-items p.front, p.full, starts, p.start);
      until = omega (arith, many, starts, p.start, ends, p.end);
      earlier = row_tips [] p.front;
      later = row_tips (p.front ++ p.rows) (Frozen p.epoch p.next ∷ p.back);
      tips_are = tips_are ∙ ap (row_tips []) p.is ∙ row_tips-append [] p.front (p.rows ++ Frozen p.epoch p.next ∷ p.back) ∙ ap (λ l. row_tips [] p.front ++ l) (row_tips-append p.front p.rows (Frozen p.epoch p.next ∷ p.back));
      tips_at = omega (arith, length-row_tips [] p.front, starts, p.start);
      tips_many = omega (arith, length-row_tips p.front p.rows, many);
      next = next_rows k (suc e) p.front p.rows (Frozen p.epoch p.next ∷ p.back) whole p.none (omega (arith, p.full));
      fresh = λ b. fresh_at k e p.front b (each_front (IsItemOf k) p.front (p.rows ++ Frozen p.epoch p.next ∷ p.back) whole) p.starts p.full;
      same =
          ap (λ l. map (frozen_block l (suc e)) (blocks_in (rows_in l) (suc e))) split
          ∙ ap (λ (p : Part). p.blocks) (part_stays k (suc e) ((p.front ++ p.rows) ++ Frozen p.epoch p.next ∷ []) p.back (subst (λ l. Each (IsItemOf k) l) split each) frozen ∙ part_freeze k (p.front ++ p.rows) p.epoch p.next (suc e));
    }

pub span : (k : ℕ) (items : List Item) (tips : List RowTip) (counts : List ℕ) (closings room epoch start end : ℕ) → Each (IsItemOf k) items → KeepsRows items tips counts closings room → epoch < epoch_now items
    → start ≡ get_or (0 ∷ counts) (epoch - 1) 0 → end ≡ get_or (0 ∷ counts) epoch 0 → Span k items tips epoch start end
span k items tips counts closings room zero start end each h lt starts ends = subst (λ n. Span k items tips 0 n end) (sym starts) (subst (λ n. Span k items tips 0 0 n) (sym ends) (span_none k items tips each))
span k items tips counts closings room (suc e) start end each h lt starts ends =
    span_some k items tips e start end each h.tips_are (omega (arith, lt)) (starts ∙ ap (λ n. get_or (0 ∷ counts) n 0) (omega arith) ∙ ap (λ c. get_or (0 ∷ c) e 0) h.counts_are) (ends ∙ ap (λ c. get_or c e 0) h.counts_are)

-- ---- the parts of the lists

slice_between : {A : Type 0} (xs ys zs : List A) (i j : ℕ) → i ≡ length xs → j ≡ i + length ys → slice_range (xs ++ (ys ++ zs)) i j ≡ ys
slice_between xs ys zs i j at until =
    ap (λ n. take (j - n) (drop n (xs ++ (ys ++ zs)))) at ∙ ap (take (j - length xs)) (drop-append_seam xs (ys ++ zs)) ∙ ap (λ n. take n (ys ++ zs)) (omega (arith, at, until)) ∙ take-append_seam ys zs

module _ (k : ℕ) (items : List Item) (tips : List RowTip) (epoch start end before : ℕ) (s : Span k items tips epoch start end) (is : before ≡ epoch - 1) where
  pub in_order : start ≤ end
  in_order = omega (arith, s.until)

  pub in_items : end + before ≤ length items
  in_items = omega (arith, s.until, s.at, is, ap length s.items_are, length-append s.front (s.rows ++ s.rest), length-append s.rows s.rest)

  pub in_tips : end ≤ length tips
  in_tips = omega (arith, s.until, s.tips_at, s.tips_many, ap length s.tips_are, length-append s.earlier (row_tips s.front s.rows ++ s.later), length-append (row_tips s.front s.rows) s.later)

  pub part_gathered : (list : List FrozenBlock) → IsGathered list (slice_range items (start + before) (end + before)) (slice_range tips start end) → map gained_view list ≡ map (frozen_block items epoch) (blocks_in (rows_in items) epoch)
  part_gathered list gathered =
      let rows : slice_range items (start + before) (end + before) ≡ s.rows =
      ap (λ l. slice_range l (start + before) (end + before)) s.items_are ∙ slice_between s.front s.rows s.rest (start + before) (end + before) (omega (arith, s.at, is)) (omega (arith, s.until)) in
      let kept : slice_range tips start end ≡ row_tips s.front s.rows =
      ap (λ l. slice_range l start end) s.tips_are ∙ slice_between s.earlier (row_tips s.front s.rows) s.later start end (sym s.tips_at) (omega (arith, s.until, s.tips_many)) in
      subst (λ l. IsGathered list l (row_tips s.front s.rows)) rows (subst (IsGathered list (slice_range items (start + before) (end + before))) kept gathered) k epoch s.front s.next s.fresh ∙ sym s.same

pub counts_many : (items : List Item) (tips : List RowTip) (counts : List ℕ) (closings room : ℕ) → KeepsRows items tips counts closings room → length counts ≡ freezes items
counts_many items tips counts closings room h = ap length h.counts_are ∙ length-row_counts 0 items
