-- A shard stays honest where an item is added.
use Rattle.std.proofs.Common.{◌≡◌, ℕ, ◌+◌, ◌-◌, ◌≤◌, List, [], ◌∷◌, ◌++◌, Ok, inl, inr, refl, sym, ap, subst, ◌∙◌, arith}
use Rattle.std.proofs.lemmas.List.{map-append}
use Rattle.std.proofs.lemmas.Bool.{cases_eq, cases_lt}
use Rattle.cp_chain.proofs.Chain.{legal_nil, legal_push}
use Rattle.cp_chain.proofs.Each.{each_nil, each_push}
use Rattle.cp_chain.specs.Each.{Each}
use Rattle.cp_chain.specs.Legal.{Follows, LegalFrom}
use Rattle.cp_core.proofs.EpochLemmas.{freezes_row, in_freeze, in_later, in_other, in_push, ordered, put_law, up_to_freeze, up_to_later, up_to_other}
use Rattle.cp_core.proofs.ListLemmas.{list_front, list_row}
use Rattle.cp_core.proofs.RowLemmas.{spells_reads}
use Rattle.cp_core.specs.Honest.{HonestShard, IsItemOf, IsRowOf, epoch_side}
use Rattle.cp_core.specs.Life.{RowItem, cut, entries, freezes, in_epoch, row_item, rows_of, tip_after}
use Rattle.cp_core.specs.Store.{Store, SpellsFamilies, list_at}
use Rattle.cp_core.specs.declared.item.Item.{Item}
use Rattle.cp_core.specs.declared.item.Item.TheVariants.{Frozen}
use Rattle.cp_families.specs.Families.{FamilyRow}
use Rattle.cp_statements.specs.Entry.{Entry, entry_of}
use Rattle.cp_tips.specs.Tip.{Tip}

-- a segment that is legal before stays so where neither it nor its tip before changes
legal_moved : (s : Store) (items more : List Item) (b n : ℕ) → list_at s.families items n ≡ list_at s.families more n → cut items b (n - 1) ≡ cut more b (n - 1) → entries (in_epoch items b n) ≡ entries (in_epoch more b n)
    → LegalFrom (epoch_side s items b n) (entries (in_epoch items b n)) → LegalFrom (epoch_side s more b n) (entries (in_epoch more b n))
legal_moved s items more b n lists tips texts legal =
    let l : LegalFrom (record { store = s.id; families = list_at s.families more n; epoch = n; block = b; before = cut items b (n - 1) }) (entries (in_epoch items b n)) = subst (λ (l : List FamilyRow). LegalFrom (record { store = s.id; families = l; epoch = n; block = b; before = cut items b (n - 1) }) (entries (in_epoch items b n))) lists legal in
    let c : LegalFrom (epoch_side s more b n) (entries (in_epoch items b n)) = subst (λ (t : Tip). LegalFrom (record { store = s.id; families = list_at s.families more n; epoch = n; block = b; before = t }) (entries (in_epoch items b n))) tips l in
    subst (λ (ts : List (List ℕ)). LegalFrom (epoch_side s more b n) ts) texts c

legal_empty : (s : Store) (more : List Item) (b n : ℕ) → in_epoch more b n ≡ [] → LegalFrom (epoch_side s more b n) (entries (in_epoch more b n))
legal_empty s more b n e = subst (λ (rs : List RowItem). LegalFrom (epoch_side s more b n) (entries rs)) (sym e) (legal_nil (epoch_side s more b n))

-- the entry that is added, in its own epoch
legal_here : (s : Store) (items : List Item) (r : RowItem) (e : Entry) → entry_of r.entry ≡ Ok e → 1 ≤ e.epoch
    → LegalFrom (epoch_side s items e.block e.epoch) (entries (in_epoch items e.block e.epoch))
    → Follows (epoch_side s items e.block e.epoch) (entries (in_epoch items e.block e.epoch)) e
    → LegalFrom (epoch_side s (items ++ row_item r ∷ []) e.block e.epoch) (entries (in_epoch (items ++ row_item r ∷ []) e.block e.epoch))
legal_here s items r e h pos legal follows =
    let b = e.block in
    let n = e.epoch in
    let more = items ++ row_item r ∷ [] in
    let tips : cut items b (n - 1) ≡ cut more b (n - 1) = ap (λ (rs : List RowItem). tip_after b (entries rs)) (sym (up_to_later items r e b (n - 1) h refl (omega (arith, pos)))) in
    let texts : entries (in_epoch items b n) ++ r.entry ∷ [] ≡ entries (in_epoch more b n) = sym (map-append (λ (x : RowItem). x.entry) (in_epoch items b n) (r ∷ [])) ∙ ap entries (sym (in_push items r e b n h refl refl)) in
    let a : LegalFrom (epoch_side s items b n) (entries (in_epoch items b n) ++ r.entry ∷ []) = legal_push (epoch_side s items b n) (entries (in_epoch items b n)) r.entry legal (e, h, follows) in
    let l : LegalFrom (record { store = s.id; families = list_at s.families more n; epoch = n; block = b; before = cut items b (n - 1) }) (entries (in_epoch items b n) ++ r.entry ∷ []) = subst (λ (l : List FamilyRow). LegalFrom (record { store = s.id; families = l; epoch = n; block = b; before = cut items b (n - 1) }) (entries (in_epoch items b n) ++ r.entry ∷ [])) (sym (list_row s.families items r n)) a in
    let c : LegalFrom (epoch_side s more b n) (entries (in_epoch items b n) ++ r.entry ∷ []) = subst (λ (t : Tip). LegalFrom (record { store = s.id; families = list_at s.families more n; epoch = n; block = b; before = t }) (entries (in_epoch items b n) ++ r.entry ∷ [])) tips l in
    subst (λ (ts : List (List ℕ)). LegalFrom (epoch_side s more b n) ts) texts c

pub honest_nil : (s : Store) (k : ℕ) → HonestShard s k []
unfolding in_epoch rows_of
honest_nil s k = record { each = each_nil (IsItemOf k); legal = λ b n. record { each = legal_nil (epoch_side s [] b n); tip = put_law [] b n (ordered k [] b (each_nil (IsItemOf k))) } }

pub honest_row : (s : Store) (k : ℕ) (items : List Item) (r : RowItem) → HonestShard s k items → (f : IsRowOf k items r)
    → Follows (epoch_side s items f.entry.block f.entry.epoch) (entries (in_epoch items f.entry.block f.entry.epoch)) f.entry → HonestShard s k (items ++ row_item r ∷ [])
honest_row s k items r h f follows = record { each = each; legal = λ b n. record { each = legal b n; tip = put_law (items ++ row_item r ∷ []) b n (ordered k (items ++ row_item r ∷ []) b each) } }
  where
    each : Each (IsItemOf k) (items ++ row_item r ∷ [])
    each = each_push (IsItemOf k) items (row_item r) h.each f

    reads : entry_of r.entry ≡ Ok f.entry
    reads = spells_reads r.entry f.entry f.spells

    same_block : (n : ℕ) → LegalFrom (epoch_side s (items ++ row_item r ∷ []) f.entry.block n) (entries (in_epoch (items ++ row_item r ∷ []) f.entry.block n))
    same_block n =
        elim (cases_eq f.entry.epoch n) [
          | inl at ↦ subst (λ (m : ℕ). LegalFrom (epoch_side s (items ++ row_item r ∷ []) f.entry.block m) (entries (in_epoch (items ++ row_item r ∷ []) f.entry.block m))) at
              (legal_here s items r f.entry reads (omega (arith, f.epoch)) (h.legal f.entry.block f.entry.epoch).each follows)
          | inr ne ↦ elim (cases_lt n f.entry.epoch) [
            | inl lt ↦ legal_moved s items (items ++ row_item r ∷ []) f.entry.block n (sym (list_row s.families items r n))
                (ap (λ (rs : List RowItem). tip_after f.entry.block (entries rs)) (sym (up_to_later items r f.entry f.entry.block (n - 1) reads refl (omega (arith, lt)))))
                (ap entries (sym (in_later items r f.entry f.entry.block n reads refl ne))) (h.legal f.entry.block n).each
            | inr le ↦ legal_empty s (items ++ row_item r ∷ []) f.entry.block n
                ((ordered k (items ++ row_item r ∷ []) f.entry.block each).none n (omega (arith, le, ne, f.epoch, freezes_row items r)))
          ]
        ]

    legal : (b n : ℕ) → LegalFrom (epoch_side s (items ++ row_item r ∷ []) b n) (entries (in_epoch (items ++ row_item r ∷ []) b n))
    legal b n =
        elim (cases_eq f.entry.block b) [
          | inl same ↦ subst (λ (c : ℕ). LegalFrom (epoch_side s (items ++ row_item r ∷ []) c n) (entries (in_epoch (items ++ row_item r ∷ []) c n))) same (same_block n)
          | inr other ↦ legal_moved s items (items ++ row_item r ∷ []) b n (sym (list_row s.families items r n))
              (ap (λ (rs : List RowItem). tip_after b (entries rs)) (sym (up_to_other items r f.entry b (n - 1) reads other)))
              (ap entries (sym (in_other items r f.entry b n reads other))) (h.legal b n).each
        ]

pub honest_freeze : (s : Store) (k : ℕ) (items : List Item) (m : ℕ) (next : List ℕ) → HonestShard s k items → m ≡ freezes items + 1 → SpellsFamilies next → HonestShard s k (items ++ Frozen m next ∷ [])
honest_freeze s k items m next h at spells = record { each = each; legal = λ b n. record { each = legal b n; tip = put_law (items ++ Frozen m next ∷ []) b n (ordered k (items ++ Frozen m next ∷ []) b each) } }
  where
    each : Each (IsItemOf k) (items ++ Frozen m next ∷ [])
    each = each_push (IsItemOf k) items (Frozen m next) h.each (at, spells)

    legal : (b n : ℕ) → LegalFrom (epoch_side s (items ++ Frozen m next ∷ []) b n) (entries (in_epoch (items ++ Frozen m next ∷ []) b n))
    legal b n = elim (cases_lt (freezes items + 1) n) [
      | inl later ↦ legal_empty s (items ++ Frozen m next ∷ []) b n (in_freeze items m next b n ∙ (ordered k items b h.each).none n later)
      | inr le ↦ legal_moved s items (items ++ Frozen m next ∷ []) b n (sym (list_front s.families items (Frozen m next ∷ []) n le))
          (ap (λ (rs : List RowItem). tip_after b (entries rs)) (sym (up_to_freeze items m next b (n - 1))))
          (ap entries (sym (in_freeze items m next b n))) (h.legal b n).each
    ]
