-- All parts of a shard stay right together.
use Rattle.std.proofs.Common.{◌≡◌, ℕ, zero, suc, ◌+◌, ◌-◌, ◌≤◌, cond, eqb, List, [], ◌∷◌, ◌++◌, length, replicate, Some, None, Ok, refl, sym, ap, subst, ◌∙◌, arith}
use Rattle.std.specs.BTreeMap.{BTreeMap, get, is_at}
use Rattle.std.proofs.lemmas.List.{length-append, length-replicate}
use Rattle.std.proofs.lemmas.Bool.{eq-eqb, ne_eqb}
use Rattle.sha2.specs.Sha256.{sha256}
use Rattle.cp_statements.specs.Attestation.{Attestation}
use Rattle.cp_statements.specs.Entry.{Entry, entry_of}
use Rattle.cp_statements.specs.View.{attestation_view}
use Rattle.cp_tips.specs.Tip.{fresh}
use Rattle.cp_tips.specs.View.{tip_view}
use Rattle.cp_chain.specs.Legal.{latest}
use Rattle.cp_chain.proofs.Each.{each_nil, each_push}
use Rattle.cp_core.specs.Life.{RowItem, row_item, rows_of, in_epoch, freezes, tip_after}
use Rattle.cp_core.specs.Calls.{epoch_now, head_of, attested}
use Rattle.cp_core.specs.Frozen.{tip_from}
use Rattle.cp_core.specs.Honest.{IsItemOf, IsRowOf}
use Rattle.cp_core.specs.Store.{SpellsFamilies}
use Rattle.cp_core.specs.declared.item.Item.{Item}
use Rattle.cp_core.specs.declared.item.Item.TheVariants.{Frozen}
use Rattle.cp_core.proofs.RowLemmas.{spells_reads}
use Rattle.cp_core.proofs.EpochLemmas.{freezes_row, freezes_more}
use Rattle.cp_pages.specs.Extent.{Extent}
use Rattle.cp_pages.specs.Pages.{Pages, pages_for, taken_pages}
use Rattle.cp_shard.specs.declared.key.Key.{Key}
use Rattle.cp_shard.specs.declared.call.Call.{Call}
use Rattle.cp_shard.specs.declared.row_tip.RowTip.{RowTip}
use Rattle.cp_shard.specs.declared.standing.Standing.{Standing}
use Rattle.cp_shard.specs.Booked.{tip_by, key_by}
use Rattle.cp_shard.specs.Contents.{HasContents}
use Rattle.cp_shard.specs.Kept.{tip_of, ShardKeeps, IsNext, key_of}
use Rattle.cp_shard.specs.Gathered.{block_in, row_block, row_tip}
use Rattle.cp_shard.specs.Places.{key_cmp, found_at, IsPlace}
use Rattle.cp_shard.specs.Standings.{tip_at, run_at, content_in}
use Rattle.cp_shard.proofs.Grows.{places_row, found_frozen, tip_row, tip_frozen}
use Rattle.cp_shard.proofs.Holding.{has_same, has_none, has_frozen, has_get}
use Rattle.cp_shard.proofs.Putting.{IsExchanged, with_content, content_put, has_put}

-- ---- no item

taken_none : (pages : ℕ) → taken_pages (replicate pages None) ≡ 0
taken_none zero = refl
taken_none (suc n) = omega (arith, taken_none n)

no_item : (b : ℕ) → fresh b ≡ tip_of [] b
unfolding tip_after latest rows_of
no_item b = refl

nothing_found : (k : Key) → found_at [] k ≡ None
unfolding in_epoch rows_of
nothing_found k = refl

pub keeps_none : (store : List ℕ) (index pages closings room : ℕ) (standings : BTreeMap ℕ Standing) (places : BTreeMap Key ℕ) (pool : Pages) → standings.entries ≡ [] → places.entries ≡ [] → pool ≡ replicate pages None → closings ≤ room
    → ShardKeeps store index pages closings 1 room [] [] standings places pool
keeps_none store index pages closings room standings places pool no_standing no_place blank fits = record {
  each = each_nil (IsItemOf index);
  epoch_is = refl;
  tips_are = λ b. rw no_standing (no_item b);
  places_are = λ k. rw no_place (nothing_found k);
  has_contents = has_none pages (run_at standings) pool (ap length blank ∙ length-replicate pages None) (ap taken_pages blank ∙ taken_none pages) (λ b. rw no_standing refl);
  froze = omega arith;
  has_room = omega (arith, fits);
}

-- ---- nothing is appended

pub keeps_same : (store : List ℕ) (index pages closings epoch room more : ℕ) (items : List Item) (calls : List Call) (standings now : BTreeMap ℕ Standing) (places moved : BTreeMap Key ℕ) (pool : Pages) → ShardKeeps store index pages closings epoch room items calls standings places pool
    → ((b : ℕ) → tip_at now b ≡ tip_at standings b) → ((b : ℕ) → run_at now b ≡ run_at standings b) → ((k : Key) → get key_cmp moved k ≡ get key_cmp places k) → room ≤ more
    → ShardKeeps store index pages closings epoch more items calls now moved pool
keeps_same store index pages closings epoch room more items calls standings now places moved pool s tips runs same wider = record {
  each = s.each;
  epoch_is = s.epoch_is;
  tips_are = λ b. tips b ∙ s.tips_are b;
  places_are = λ k. subst (IsPlace store items calls k) (sym (same k)) (s.places_are k);
  has_contents = has_same items pages (run_at standings) (run_at now) pool runs s.has_contents;
  froze = s.froze;
  has_room = omega (arith, s.has_room, wider);
}

-- ---- a freeze

pub keeps_frozen : (store : List ℕ) (index pages closings epoch room : ℕ) (items : List Item) (calls : List Call) (standings : BTreeMap ℕ Standing) (places cleared : BTreeMap Key ℕ) (pool : Pages) → ShardKeeps store index pages closings epoch room items calls standings places pool
    → cleared.entries ≡ [] → epoch_now items ≤ closings → (next : List ℕ) → SpellsFamilies next → ShardKeeps store index pages closings (epoch + 1) room (items ++ Frozen epoch next ∷ []) [] standings cleared pool
keeps_frozen store index pages closings epoch room items calls standings places cleared pool s none few next spells = record {
  each = each_push (IsItemOf index) items (Frozen epoch next) s.each (s.epoch_is, spells);
  epoch_is = omega (arith, s.epoch_is, freezes_more items epoch next);
  tips_are = λ b. s.tips_are b ∙ sym (tip_frozen items epoch next b);
  places_are = λ k. rw none (found_frozen index items epoch next k s.each);
  has_contents = has_frozen items epoch next pages (run_at standings) pool s.has_contents;
  froze = omega (arith, few, freezes_more items epoch next);
  has_room = omega (arith, s.has_room, few, freezes_more items epoch next, length-append items (Frozen epoch next ∷ []));
}

-- ---- a row

module _ (store : List ℕ) (index pages closings epoch room : ℕ) (items : List Item) (calls : List Call) (standings : BTreeMap ℕ Standing) (places : BTreeMap Key ℕ) (pool : Pages)
    (s : ShardKeeps store index pages closings epoch room items calls standings places pool)
    (r : RowItem) (a : Attestation) (next : IsNext store index items a r.entry) where
  reads : entry_of r.entry ≡ Ok next.entry
  reads = spells_reads r.entry next.entry next.spells

  is_row : IsRowOf index items r
  is_row = record { entry = next.entry; spells = next.spells; shard = next.shard; epoch = next.epoch; position = next.position }

  key_same : (store prev : List ℕ) (e : Entry) (a : Attestation) → a ≡ attested store prev e → (key_by a ≡ key_of e) × (a.block ≡ e.block)
  unfolding attested
  key_same store prev e a same = (ap key_by same, ap (λ (a : Attestation). a.block) same)

  tips_row : (now : BTreeMap ℕ Standing) → ((b : ℕ) → tip_at now b ≡ cond (eqb a.block b) (tip_by a) (tip_at standings b)) → (b : ℕ) → tip_at now b ≡ tip_of (items ++ row_item r ∷ []) b
  tips_row now changed b =
      let block : a.block ≡ next.entry.block = (key_same store (head_of items next.entry.block) next.entry a next.attestation).1 in
      changed b ∙ ap (λ c. cond (eqb c b) (tip_by a) (tip_at standings b)) block ∙ ap (cond (eqb next.entry.block b) (tip_by a)) (s.tips_are b)
      ∙ sym (tip_row store items r next.entry a b next.spells.spelled reads next.spells.fits next.position next.attestation next.get)

  places_now : (c : Call) (now : BTreeMap Key ℕ) → c.leaf ≡ r.leaf → attestation_view c.attestation ≡ a → ((k : Key) → get key_cmp now k ≡ cond (is_at (key_cmp (key_by a)) k) (Some (length calls)) (get key_cmp places k))
      → (k : Key) → IsPlace store (items ++ row_item r ∷ []) (calls ++ c ∷ []) k (get key_cmp now k)
  places_now c now leaf same changed =
      let key : key_by a ≡ key_of next.entry = (key_same store (head_of items next.entry.block) next.entry a next.attestation).0 in
      places_row store items r next.entry a calls c places now reads next.epoch next.position next.is_new leaf (same ∙ next.attestation) s.places_are
      (λ k. changed k ∙ ap (λ (q : Key). cond (is_at (key_cmp q) k) (Some (length calls)) (get key_cmp places k)) key)

  pub keeps_row : (more : ℕ) (c : Call) (now : BTreeMap ℕ Standing) (moved : BTreeMap Key ℕ) (after : Pages) → c.leaf ≡ r.leaf → attestation_view c.attestation ≡ a
      → ((b : ℕ) → tip_at now b ≡ cond (eqb a.block b) (tip_by a) (tip_at standings b)) → ((k : Key) → get key_cmp moved k ≡ cond (is_at (key_cmp (key_by a)) k) (Some (length calls)) (get key_cmp places k))
      → length items + (closings - freezes items + 1) ≤ more → HasContents (items ++ row_item r ∷ []) pages (run_at now) after
      → ShardKeeps store index pages closings epoch more (items ++ row_item r ∷ []) (calls ++ c ∷ []) now moved after
  keeps_row more c now moved after leaf same tips places fits contents = record {
    each = each_push (IsItemOf index) items (row_item r) s.each is_row;
    epoch_is = omega (arith, s.epoch_is, freezes_row items r);
    tips_are = tips_row now tips;
    places_are = places_now c moved leaf same places;
    has_contents = contents;
    froze = omega (arith, s.froze, freezes_row items r);
    has_room = omega (arith, fits, freezes_row items r, length-append items (row_item r ∷ []));
  }

  kind_is : (store prev : List ℕ) (e : Entry) (a : Attestation) → a ≡ attested store prev e → (a.kind ≡ e.kind) × (a.version ≡ e.version) × (a.content ≡ e.content)
  unfolding attested
  kind_is store prev e a same = (ap (λ (a : Attestation). a.kind) same, ap (λ (a : Attestation). a.version) same, ap (λ (a : Attestation). a.content) same)

  -- what is kept of the row
  pub tip_kept : (t : RowTip) → t.block ≡ a.block → tip_view t.tip ≡ tip_by a → t ≡ row_tip items r
  tip_kept t block tip =
      let b : ℕ = next.entry.block in
      let at : a.block ≡ b = (key_same store (head_of items b) next.entry a next.attestation).1 in
      let read : row_block r ≡ b = ap block_in reads in
      let after : tip_of (items ++ row_item r ∷ []) b ≡ tip_by a =
      tip_row store items r next.entry a b next.spells.spelled reads next.spells.fits next.position next.attestation next.get ∙ ap (λ u. cond u (tip_by a) (tip_of items b)) (eq-eqb b b refl) in
      let now : t.tip ≡ tip_from (tip_of (items ++ row_item r ∷ []) (row_block r)) = ap tip_from (tip ∙ sym after) ∙ ap (λ c. tip_from (tip_of (items ++ row_item r ∷ []) c)) (sym read) in
      ap (λ n. (let x : RowTip = record { block = n; tip = t.tip } in x)) (block ∙ at ∙ sym read) ∙ ap (λ y. (let x : RowTip = record { block = row_block r; tip = y } in x)) now

  -- a get's
  pub get_contents : (now : BTreeMap ℕ Standing) → a.kind ≡ 2 → ((b : ℕ) → run_at now b ≡ run_at standings b) → HasContents (items ++ row_item r ∷ []) pages (run_at now) pool
  get_contents now kind runs =
      let same : a.kind ≡ next.entry.kind = (kind_is store (head_of items next.entry.block) next.entry a next.attestation).0 in
      has_same (items ++ row_item r ∷ []) pages (run_at standings) (run_at now) pool runs
      (has_get items r next.entry pages (run_at standings) pool reads (ne_eqb next.entry.kind 1 (λ one. absurd (omega (arith, one, same, kind)))) s.has_contents)

  -- a put's
  pub put_contents : (now : BTreeMap ℕ Standing) (after : Pages) (bytes : List ℕ) (run : Extent) → a.kind ≡ 1 → 1 ≤ a.version → sha256 bytes ≡ a.content → r.pages ≡ pages_for (length bytes)
      → ((b : ℕ) → run_at now b ≡ cond (eqb a.block b) (Some run) (run_at standings b)) → IsExchanged pool after bytes run (run_at standings a.block) → HasContents (items ++ row_item r ∷ []) pages (run_at now) after
  put_contents now after bytes run kind some hashed room runs exchanged =
      let e : Entry = next.entry in
      let same = kind_is store (head_of items e.block) e a next.attestation in
      let block : a.block ≡ e.block = (key_same store (head_of items e.block) e a next.attestation).1 in
      has_same (items ++ row_item r ∷ []) pages (with_content e.block run (run_at standings)) (run_at now) after (λ b. runs b ∙ ap (λ c. cond (eqb c b) (Some run) (run_at standings b)) block)
      (has_put items r e pages (run_at standings) pool after bytes run reads (eq-eqb e.kind 1 (sym same.0 ∙ kind)) s.has_contents (subst (λ c. IsExchanged pool after bytes run (run_at standings c)) block exchanged) room (omega (arith, some, same.1)) (hashed ∙ same.2))

  -- what each block reads as after it
  pub put_reads : (now : BTreeMap ℕ Standing) (after : Pages) (bytes : List ℕ) (run : Extent) → a.kind ≡ 1 → 1 ≤ a.version → sha256 bytes ≡ a.content → r.pages ≡ pages_for (length bytes)
      → ((b : ℕ) → run_at now b ≡ cond (eqb a.block b) (Some run) (run_at standings b)) → IsExchanged pool after bytes run (run_at standings a.block) → (b : ℕ) → content_in after (run_at now b) ≡ cond (eqb a.block b) bytes (content_in pool (run_at standings b))
  put_reads now after bytes run kind some hashed room runs exchanged b =
      let e : Entry = next.entry in
      let same = kind_is store (head_of items e.block) e a next.attestation in
      let block : a.block ≡ e.block = (key_same store (head_of items e.block) e a next.attestation).1 in
      ap (content_in after) (runs b ∙ ap (λ c. cond (eqb c b) (Some run) (run_at standings b)) block)
      ∙ content_put items r e pages (run_at standings) pool after bytes run reads (eq-eqb e.kind 1 (sym same.0 ∙ kind)) s.has_contents (subst (λ c. IsExchanged pool after bytes run (run_at standings c)) block exchanged) room (omega (arith, some, same.1)) (hashed ∙ same.2) b
      ∙ ap (λ c. cond (eqb c b) bytes (content_in pool (run_at standings b))) (sym block)
