-- The frame of evidence against an honest life: its tables are the tips at the ends of two epochs.
use Rattle.std.proofs.Common.{◌≡◌, ℕ, ◌-◌, ◌<◌, ◌≤◌, Bool, true, false, cond, not, ◌&&◌, eqb, ltb, leb, List, [], ◌∷◌, ◌++◌, length, get_or, Option, Some, None, Ok, inl, inr, refl, sym, ap, ◌∙◌, arith}
use Rattle.std.specs.List.{list_all}
use Rattle.std.proofs.lemmas.Bool.{and_parts, and_from, or_cases, eqb-true, eqb-false, eq-eqb, ne_eqb, ltb-true, le-leb, false≢true}
use Rattle.std.proofs.lemmas.List.{append-nil, length-map, nil_from_length}
use Rattle.std.proofs.lemmas.Slice.Eq.{bytes_eq-Decides}
use Rattle.sha2.specs.Sha256.{sha256}
use Rattle.cp_bytes.specs.Hashes.{CollisionFree}
use Rattle.cp_bytes.proofs.FieldLemmas.{ok_is}
use Rattle.lms_tree.specs.Verifying.{leaf_of}
use Rattle.cp_statements.specs.Envelope.{Envelope}
use Rattle.cp_statements.specs.Closing.{Closing, closing_of}
use Rattle.cp_tips.specs.Tip.{Tip, fresh, same_tip}
use Rattle.cp_tips.specs.Table.{TableRow, row_in, tip_or_fresh, row, table_of, all_above, ascends, well_formed, regressed_from, regressed}
use Rattle.cp_chain.specs.Legal.{latest}
use Rattle.cp_core.specs.Store.{Store}
use Rattle.cp_core.specs.Life.{RowItem, in_epoch, up_to, entries, list_text, tip_after, cut, shard_of, items_of}
use Rattle.cp_core.specs.Honest.{Honest, IsSealOf, Signed, Hashed, counted}
use Rattle.cp_core.specs.declared.seal_item.SealItem.{SealItem}
use Rattle.cp_core.specs.declared.chronicle.Chronicle.{Chronicle}
use Rattle.cp_core.proofs.EpochLemmas.{Ordered, ordered, count_law, count_after}
use Rattle.cp_evidence.specs.Evidence.{ClosingTable, Given, WentBack}
use Rattle.cp_evidence.specs.Evidence.Evidence.{K4, K6}
use Rattle.cp_evidence.specs.Conditions.{signed_by, is_table_before, rows_for, rows_before, Framed, framed, k4_tried, k6_tried}
use Rattle.cp_evidence.specs.Presented.{presented}
use Rattle.cp_evidence.proofs.Trying.{some_is}
use Rattle.cp_evidence.proofs.Showing.{ShowsBefore, rows_for_is, rows_for_from, shows_k4, ShowsFramed, shows_framed, shows_k6}
use Rattle.cp_guilt.specs.Framing.{HolderSigned, PresentedOrHashed, NoneCollide}
use Rattle.cp_guilt.proofs.SignedTexts.{signed_closing}
use Rattle.cp_guilt.proofs.Members.{first_of_list, second_of_list}

-- ---- one table

shard_below : (b : ℕ) → shard_of b < 16
shard_below b = omega arith

pub ordered_in : (s : Store) (r : Chronicle) → Honest s r → (b : ℕ) → Ordered (items_of r b) b
ordered_in s r h b = ordered (shard_of b) (items_of r b) b (h.shards (shard_of b) (shard_below b)).each

pub nothing_counted : (s : Store) (r : Chronicle) → Honest s r → (b n : ℕ) → n ≡ 0 → None ≡ counted (cut (items_of r b) b n)
unfolding tip_after
nothing_counted s r h b n z = rw (z, (ordered_in s r h b).nothing) refl

same_rows : (bytes : List ℕ) (a b : List TableRow) → table_of bytes ≡ Ok a → table_of bytes ≡ Ok b → a ≡ b
same_rows bytes a b p q = let both : Ok a ≡ Ok b = sym p ∙ q in ok_is a b both

pub hashed_seal : (r : Chronicle) (front : List SealItem) (x : SealItem) (back : List SealItem) → r.seals ≡ front ++ x ∷ back → (Hashed r x.text) × (Hashed r x.table) × (Hashed r x.families)
hashed_seal r front x back at = (
  inr (record { front = front; seal = x; back = back; at = at; which = inl refl }),
  inr (record { front = front; seal = x; back = back; at = at; which = inr (inl refl) }),
  inr (record { front = front; seal = x; back = back; at = at; which = inr (inr refl) }),
)

-- bytes that a signed closing names as its table are the table of its seal
pub record HonestTable (s : Store) (r : Chronicle) (c : Closing) (bytes : List ℕ) : Type 0 where
  pub front : List SealItem
  pub seal : SealItem
  pub back : List SealItem
  pub at : r.seals ≡ front ++ seal ∷ back
  pub fits : IsSealOf s r front seal
  pub closing : c ≡ fits.closing
  pub table : bytes ≡ seal.table

-- a signed closing is its seal's, and so is what is the table of each such seal
pub signed_table : (s : Store) (r : Chronicle) → Honest s r → length s.id ≡ 32 → (x : Envelope) (c : Closing) (bytes : List ℕ) → Signed s r (leaf_of x.signature) x.text → closing_of x.text ≡ Ok c
    → ((front : List SealItem) (y : SealItem) (back : List SealItem) → r.seals ≡ front ++ y ∷ back → c.epoch ≡ y.epoch → c.table ≡ sha256 y.table → bytes ≡ y.table) → HonestTable s r c bytes
signed_table s r h id x c bytes signed reads own =
    let k = signed_closing s r h id (leaf_of x.signature) x.text c signed reads in
    let w = k.0 in
    let f : IsSealOf s r w.front w.seal = k.1 in
    let is = k.2 ∙ f.closing_is in
    record { front = w.front; seal = w.seal; back = w.back; at = w.at; fits = f; closing = k.2; table = own w.front w.seal w.back w.at (ap (λ (z : Closing). z.epoch) is) (ap (λ (z : Closing). z.table) is) }

pub honest_table : (s : Store) (r : Chronicle) → Honest s r → length s.id ≡ 32 → (P : List ℕ → Type 0) → CollisionFree P → ((t : List ℕ) → Hashed r t → P t) → (x : Envelope) (c : Closing) (bytes : List ℕ)
    → Signed s r (leaf_of x.signature) x.text → closing_of x.text ≡ Ok c → P bytes → sha256 bytes ≡ c.table → HonestTable s r c bytes
honest_table s r h id P apart hashed x c bytes signed reads given e =
    signed_table s r h id x c bytes signed reads (λ front y back at epoch named. apart bytes y.table given (hashed y.table (hashed_seal r front y back at).1) (e ∙ named))

pub table_epoch : (s : Store) (r : Chronicle) (c : Closing) (bytes : List ℕ) (t : HonestTable s r c bytes) → c.epoch ≡ t.seal.epoch
table_epoch s r c bytes t = ap (λ (z : Closing). z.epoch) (t.closing ∙ t.fits.closing_is)

pub table_reads : (s : Store) (r : Chronicle) (c : Closing) (bytes : List ℕ) (t : HonestTable s r c bytes) → table_of bytes ≡ Ok t.fits.rows
table_reads s r c bytes t = ap table_of t.table ∙ t.fits.table

-- its rows are the tips at the end of its epoch
pub table_rows : (s : Store) (r : Chronicle) (c : Closing) (bytes : List ℕ) (t : HonestTable s r c bytes) (rows : List TableRow) → table_of bytes ≡ Ok rows → (b : ℕ) → row_in rows b ≡ counted (cut (items_of r b) b c.epoch)
table_rows s r c bytes t rows reads b =
    let same : rows ≡ t.fits.rows = same_rows bytes rows t.fits.rows reads (table_reads s r c bytes t) in
    ap (λ (v : List TableRow). row_in v b) same ∙ t.fits.is_table.each b ∙ ap (λ (n : ℕ). counted (cut (items_of r b) b n)) (sym (table_epoch s r c bytes t))

-- ---- the frame

-- the two tables are the tips at the ends of two epochs
pub record HonestFrame (s : Store) (r : Chronicle) (w : Framed) : Type 0 where
  pub now : (b : ℕ) → row_in w.rows b ≡ counted (cut (items_of r b) b w.closing.epoch)
  pub old : (b : ℕ) → row_in w.rows_before b ≡ counted (cut (items_of r b) b (w.closing.epoch - 1))
  pub seal : SealItem
  pub front : List SealItem
  pub back : List SealItem
  pub at : r.seals ≡ front ++ seal ∷ back
  pub families : w.closing.families ≡ sha256 seal.families
  pub lists : (k : ℕ) → k < 16 → seal.families ≡ list_text s.families (get_or r.shards k []) w.closing.epoch

-- the table before, in epoch 1 and later
old_rows : (s : Store) (r : Chronicle) (key : List ℕ) → Honest s r → length s.id ≡ 32 → (P : List ℕ → Type 0) → CollisionFree P → ((t : List ℕ) → Hashed r t → P t) → (g : Given) (w : Framed) → ShowsFramed key g w
    → (signed_by key g.before ≡ true → Signed s r (leaf_of g.before.signature) g.before.text) → P g.table_before → (b : ℕ) → row_in w.rows_before b ≡ counted (cut (items_of r b) b (w.closing.epoch - 1))
old_rows s r key h id P apart hashed g w v signed given b =
    elim v.before_is [
      | inl n ↦
          let none : rows_before g.table_before None ≡ Some w.rows_before = ap (rows_before g.table_before) (sym n.1) ∙ v.rows_before_is in
          let empty : [] ≡ w.rows_before = some_is [] w.rows_before none in
          ap (λ (l : List TableRow). row_in l b) (sym empty) ∙ nothing_counted s r h b (w.closing.epoch - 1) (omega (arith, n.0))
      | inr n ↦
          let d = n.0 in
          let m : ShowsBefore key w.closing g.before d = n.2 in
          let rows : rows_for g.table_before d ≡ Some w.rows_before = ap (rows_before g.table_before) (sym n.1) ∙ v.rows_before_is in
          let e : is_table_before g.table_before (Some d) ≡ true = ap (is_table_before g.table_before) (sym n.1) ∙ v.table_before in
          let t = honest_table s r h id P apart hashed g.before d g.table_before (signed m.signed) m.closing_is given ((bytes_eq-Decides _ _).0 e) in
          let epochs : d.epoch ≡ w.closing.epoch - 1 = omega (arith, m.epochs) in
          table_rows s r d g.table_before t w.rows_before (rows_for_is g.table_before d w.rows_before rows).0 b ∙ ap (λ (k : ℕ). counted (cut (items_of r b) b k)) epochs
    ]

pub honest_frame : (s : Store) (r : Chronicle) (key : List ℕ) → Honest s r → length s.id ≡ 32 → (P : List ℕ → Type 0) → CollisionFree P → ((t : List ℕ) → Hashed r t → P t) → (g : Given) (w : Framed) → framed key g ≡ Ok w
    → (signed_by key g.closing ≡ true → Signed s r (leaf_of g.closing.signature) g.closing.text) → (signed_by key g.before ≡ true → Signed s r (leaf_of g.before.signature) g.before.text) → P g.table → P g.table_before → HonestFrame s r w
honest_frame s r key h id P apart hashed g w e x_in y_in pt ps =
    let v = shows_framed key g w e in
    let t = honest_table s r h id P apart hashed g.closing w.closing g.table (x_in v.signed) v.closing_is pt v.table in
    record {
      now = table_rows s r w.closing g.table t w.rows v.rows_is;
      old = old_rows s r key h id P apart hashed g w v y_in ps;
      seal = t.seal;
      front = t.front;
      back = t.back;
      at = t.at;
      families = ap (λ (z : Closing). z.families) (t.closing ∙ t.fits.closing_is);
      lists = λ k lt. t.fits.families k lt ∙ ap (λ (n : ℕ). list_text s.families (get_or r.shards k []) n) (sym (table_epoch s r w.closing g.table t));
    }

-- ---- rows that are tips

no_texts : (b : ℕ) → tip_after b [] ≡ fresh b
unfolding tip_after latest
no_texts b = refl

pub row_is_tip : (b : ℕ) (ts : List (List ℕ)) → tip_or_fresh b (counted (tip_after b ts)) ≡ tip_after b ts
row_is_tip b ts = go (eqb (tip_after b ts).count 0) refl
  where
    go : (t : Bool) → eqb (tip_after b ts).count 0 ≡ t → tip_or_fresh b (cond t None (Some (tip_after b ts))) ≡ tip_after b ts
    go true t =
        let none : ts ≡ [] = nil_from_length ts (sym (count_after b ts) ∙ eqb-true _ _ t) in
        sym (no_texts b) ∙ ap (tip_after b) (sym none)
    go false t = refl

pub row_now : (s : Store) (r : Chronicle) (w : Framed) → HonestFrame s r w → (b : ℕ) → row w.rows b ≡ cut (items_of r b) b w.closing.epoch
row_now s r w v b = ap (tip_or_fresh b) (v.now b) ∙ row_is_tip b _

pub row_old : (s : Store) (r : Chronicle) (w : Framed) → HonestFrame s r w → (b : ℕ) → row w.rows_before b ≡ cut (items_of r b) b (w.closing.epoch - 1)
row_old s r w v b = ap (tip_or_fresh b) (v.old b) ∙ row_is_tip b _

-- ---- a block that went back

same_tip_is : (t : Tip) → same_tip t t ≡ true
same_tip_is t = rw (eq-eqb t.count t.count refl, eq-eqb t.version t.version refl, (bytes_eq-Decides t.content t.content).1 refl, (bytes_eq-Decides t.head t.head).1 refl) refl

-- a later tip whose count is no less, and that is the same where the counts are equal
not_back : (a c : Tip) → a.count ≤ c.count → (a.count ≡ c.count → a ≡ c) → regressed_from (counted a) (counted c) ≡ true → ⊥
not_back a c le same h = go (eqb a.count 0) (eqb c.count 0) refl refl h
  where
    kept : (t : Bool) → eqb c.count a.count ≡ t → (t && not (same_tip a c)) ≡ true → ⊥
    kept true t e = differs (same_tip a c) (ap (same_tip a) (sym (same (sym (eqb-true _ _ t)))) ∙ same_tip_is a) e
      where
        differs : (b : Bool) → b ≡ true → not b ≡ true → ⊥
        differs true p q = false≢true q
        differs false p q = false≢true p
    kept false t e = false≢true e

    go : (t u : Bool) → eqb a.count 0 ≡ t → eqb c.count 0 ≡ u → regressed_from (cond t None (Some a)) (cond u None (Some c)) ≡ true → ⊥
    go true u t v e = false≢true e
    go false true t v e = absurd (eqb-false _ _ t (omega (arith, eqb-true _ _ v, le)))
    go false false t v e = elim (or_cases (ltb c.count a.count) (eqb c.count a.count && not (same_tip a c)) e) [
      | inl less ↦ (let lt = ltb-true _ _ less in omega (arith, lt, le))
      | inr e ↦ kept (eqb c.count a.count) refl e
    ]

tips_grow : (s : Store) (r : Chronicle) → Honest s r → (b n : ℕ) → ((cut (items_of r b) b (n - 1)).count ≤ (cut (items_of r b) b n).count) × ((cut (items_of r b) b (n - 1)).count ≡ (cut (items_of r b) b n).count → cut (items_of r b) b (n - 1) ≡ cut (items_of r b) b n)
tips_grow s r h b n =
    let o = ordered_in s r h b in
    let e = count_law (items_of r b) b n o in (
      omega (arith, e),
      λ same.
          let none : length (entries (in_epoch (items_of r b) b n)) ≡ 0 = omega (arith, e, same) in
          let nil : in_epoch (items_of r b) b n ≡ [] = nil_from_length _ (sym (length-map (in_epoch (items_of r b) b n) (λ (x : RowItem). x.entry)) ∙ none) in
          ap (λ (rs : List RowItem). tip_after b (entries rs)) (sym (o.parts n ∙ ap (λ (l : List RowItem). up_to (items_of r b) b (n - 1) ++ l) nil ∙ append-nil _)),
    )

-- rows that are the tips at the ends of two epochs don't go back
pub never_back : (s : Store) (r : Chronicle) → Honest s r → (before after : List TableRow) (n b : ℕ) → row_in before b ≡ counted (cut (items_of r b) b (n - 1)) → row_in after b ≡ counted (cut (items_of r b) b n) → regressed before after b ≡ true → ⊥
unfolding regressed
never_back s r h before after n b old now back =
    let c = tips_grow s r h b n in
    let tips : regressed_from (counted (cut (items_of r b) b (n - 1))) (counted (cut (items_of r b) b n)) ≡ true =
    ap (λ (o : Option Tip). regressed_from o (counted (cut (items_of r b) b n))) (sym old) ∙ ap (regressed_from (row_in before b)) (sym now) ∙ back in
    not_back _ _ c.0 c.1 tips

pub not_k6 : (s : Store) (r : Chronicle) (key : List ℕ) (e : WentBack) → Honest s r → length s.id ≡ 32 → HolderSigned s r key (K6 e) → NoneCollide r key (K6 e) → k6_tried key e ≡ Ok tt → ⊥
unfolding presented
not_k6 s r key e h id holder apart p =
    let g = e.given in
    let k = shows_k6 key e p in
    let w = k.w in
    let v = honest_frame s r key h id (PresentedOrHashed r key (K6 e)) apart (λ t x. inr x) g w k.framed_is holder.0 holder.1.0 (inl (first_of_list g.table (g.table_before ∷ g.before.text ∷ []))) (inl (second_of_list g.table g.table_before (g.before.text ∷ []))) in
    never_back s r h w.rows_before w.rows w.closing.epoch e.block (v.old e.block) (v.now e.block) k.back

-- ---- a table that is not well formed

-- the rows of a rising table are found at their blocks
found_here : (block : ℕ) (tip : Tip) (rows : List TableRow) → row_in (record { block = block; tip = tip } ∷ rows) block ≡ Some tip
found_here block tip rows = rw (eq-eqb block block refl) refl

not_here : (r : TableRow) (rows : List TableRow) (b : ℕ) → r.block < b → row_in (r ∷ rows) b ≡ row_in rows b
not_here r rows b lt = rw (ne_eqb r.block b (omega (arith, lt))) refl

-- what holds of each tip that is found holds of each row
all_found : (rows : List TableRow) → ascends rows ≡ true → (p : Tip → Bool) → ((b : ℕ) (tip : Tip) → row_in rows b ≡ Some tip → p tip ≡ true) → list_all (λ r. p r.tip) rows ≡ true
unfolding ascends
all_found [] up p h = refl
all_found (r ∷ rows) up p h =
    let u = and_parts (all_above r.block rows) (ascends rows) up in
    and_from (p r.tip) (list_all (λ r. p r.tip) rows) (h r.block r.tip (found_here r.block r.tip rows)) (all_found rows u.1 p (λ b tip e. h b tip (found_later b tip e u.0)))
  where
    above : (xs : List TableRow) (b : ℕ) (tip : Tip) → all_above r.block xs ≡ true → row_in xs b ≡ Some tip → r.block < b
    above [] b tip a e = absurd cc
    above (x ∷ xs) b tip a e = go (eqb x.block b) refl e (above xs b tip)
      where
        go : (t : Bool) → eqb x.block b ≡ t → cond t (Some x.tip) (row_in xs b) ≡ Some tip → (all_above r.block xs ≡ true → row_in xs b ≡ Some tip → r.block < b) → r.block < b
        go true t e rest = omega (arith, ltb-true _ _ (and_parts (ltb r.block x.block) (all_above r.block xs) a).0, eqb-true _ _ t)
        go false t e rest = rest (and_parts (ltb r.block x.block) (all_above r.block xs) a).1 e

    found_later : (b : ℕ) (tip : Tip) → row_in rows b ≡ Some tip → all_above r.block rows ≡ true → row_in (r ∷ rows) b ≡ Some tip
    found_later b tip e a = not_here r rows b (above rows b tip a e) ∙ e

counted_some : (c tip : Tip) → counted c ≡ Some tip → leb 1 tip.count ≡ true
counted_some c tip e = go (eqb c.count 0) refl e
  where
    go : (t : Bool) → eqb c.count 0 ≡ t → cond t None (Some c) ≡ Some tip → leb 1 tip.count ≡ true
    go true t e = absurd cc
    go false t e = le-leb 1 tip.count (let ne = eqb-false _ _ t in let same : c ≡ tip = cc in omega (arith, ne, ap (λ (x : Tip). x.count) same))

honest_is_formed : (s : Store) (r : Chronicle) (front : List SealItem) (x : SealItem) (f : IsSealOf s r front x) → well_formed f.rows f.closing.rows f.closing.entries ≡ true
unfolding well_formed
honest_is_formed s r front x f =
    and_from _ _ f.is_table.ascending (and_from _ _ (all_found f.rows f.is_table.ascending (λ t. leb 1 t.count) (λ b tip e. counted_some _ tip (sym (f.is_table.each b) ∙ e)))
    (and_from _ _ (eq-eqb _ _ (ap (λ (c : Closing). c.rows) (sym f.closing_is))) (eq-eqb _ _ (ap (λ (c : Closing). c.entries) (sym f.closing_is)))))

-- so a table of an honest store is well formed for its closing
pub table_formed : (s : Store) (r : Chronicle) (c : Closing) (bytes : List ℕ) (t : HonestTable s r c bytes) → rows_for bytes c ≡ Some t.fits.rows
table_formed s r c bytes t =
    let formed : well_formed t.fits.rows c.rows c.entries ≡ true = ap (λ (z : Closing). well_formed t.fits.rows z.rows z.entries) t.closing ∙ honest_is_formed s r t.front t.seal t.fits in
    rows_for_from bytes c t.fits.rows (table_reads s r c bytes t) formed

pub not_k4 : (s : Store) (r : Chronicle) (key : List ℕ) (e : ClosingTable) → Honest s r → length s.id ≡ 32 → HolderSigned s r key (K4 e) → NoneCollide r key (K4 e) → k4_tried key e ≡ Ok tt → ⊥
unfolding presented
not_k4 s r key e h id holder apart p =
    let k = shows_k4 key e p in
    let t = honest_table s r h id (PresentedOrHashed r key (K4 e)) apart (λ u y. inr y) e.closing k.c e.table (holder.0 k.signed) k.c_is (inl (first_of_list e.table [])) k.table in
    k.not_formed t.fits.rows (table_formed s r k.c e.table t)
