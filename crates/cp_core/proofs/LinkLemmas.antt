-- The last seal's text is the one that the next closing links to.
use Rattle.std.proofs.Common.{◌≡◌, ℕ, zero, suc, ◌+◌, ◌-◌, ◌<◌, ◌^◌, List, [], ◌∷◌, length, refl, ap, subst, arith}
use Rattle.std.specs.Prelude.{get_or, sum_by}
use Rattle.std.proofs.lemmas.List.{length-map}
use Rattle.cp_tips.specs.declared.tip.Tip.{Tip as Held}
use Rattle.cp_tips.specs.Tips.{rows_of}
use Rattle.cp_core.proofs.SealLemmas.{all_rows, entries_sum, honest_stands}
use Rattle.cp_core.specs.Kept.{Keeps}
use Rattle.cp_core.specs.Life.{entries}
use Rattle.cp_core.specs.Machine.{State}
use Rattle.cp_core.specs.Sealing.{closing_at, families_at, link_after, seal_at, table_at}
use Rattle.cp_core.specs.Store.{Store, StoreFits}
use Rattle.cp_core.specs.Tables.{HoldsTips, all_up_to}
use Rattle.cp_core.specs.declared.chronicle.Chronicle.{Chronicle}
use Rattle.cp_core.specs.declared.item.Item.{Item}
use Rattle.cp_core.specs.declared.seal_item.SealItem.{SealItem}
use Rattle.cp_statements.specs.Closing.{Closing, closing_text}
use Rattle.cp_tips.specs.Table.{TableRow, table_text}
use Rattle.cp_tips.specs.View.{tip_view}
use Rattle.sha2.specs.Sha256.{sha256}

pub link_last : (xs : List SealItem) (i : ℕ) (x : SealItem) → i + 1 ≡ length xs → x ≡ get_or xs i x → sha256 x.text ≡ link_after xs
link_last [] i x e is = absurd (omega (arith, e))
link_last (y ∷ []) zero x e is = ap (λ (z : SealItem). sha256 z.text) is
link_last (y ∷ []) (suc i) x e is = absurd (omega (arith, e))
link_last (y ∷ (z ∷ zs)) zero x e is = absurd (omega (arith, e))
link_last (y ∷ (z ∷ zs)) (suc i) x e is = let f : i + 1 ≡ length (z ∷ zs) = omega (arith, e) in link_last (z ∷ zs) i x f is

-- ---- the closing and the seal, part by part

pub closing_is : (s : Store) (r : Chronicle) (n : ℕ) (link families table : List ℕ) (rows entries : ℕ) → link ≡ link_after r.seals → families ≡ sha256 (families_at s r n) → table ≡ sha256 (table_text (table_at r n)) → rows ≡ length (table_at r n) → entries ≡ sum_by (λ x. x.tip.count) (table_at r n)
    → (let c : Closing = record { store = s.id; epoch = n; link = link; families = families; table = table; rows = rows; entries = entries } in c) ≡ closing_at s r n
unfolding closing_at
closing_is s r n link families table rows entries a b c d e = rw (a, b, c, d, e) refl

pub seal_is : (s : Store) (r : Chronicle) (n : ℕ) (text table families : List ℕ) → text ≡ closing_text (closing_at s r n) → table ≡ table_text (table_at r n) → families ≡ families_at s r n
    → (let x : SealItem = record { epoch = n; leaf = s.attestations + (n - 1); text = text; table = table; families = families } in x) ≡ seal_at s r n
unfolding seal_at
seal_is s r n text table families a b c = rw (a, b, c) refl

pub table_holds : (r : Chronicle) (n : ℕ) (shards : List (List Item)) (entries : List (ℕ × Held)) → shards ≡ r.shards → HoldsTips shards n (all_up_to n shards) entries → rows_of entries ≡ table_at r n
unfolding table_at
table_holds r n shards entries same holds = subst (λ (l : List (List Item)). HoldsTips l n (all_up_to n l) entries) same holds

pub rows_are : (entries : List (ℕ × Held)) (rows : List TableRow) (n : ℕ) → rows_of entries ≡ rows → n ≡ length entries → n ≡ length rows
rows_are entries rows n same long = omega (arith, long, ap length same, length-map entries (λ e. (let r : TableRow = record { block = e.0; tip = tip_view e.1 } in r)))

pub sum_small : (s : Store) (st : State) (n : ℕ) → Keeps s st → StoreFits s → sum_by (λ x. x.tip.count) (table_at st.life n) < 2 ^ 64
sum_small s st n keeps small = omega (arith, entries_sum st.life (honest_stands s st.life keeps.honest) n, all_rows s st keeps, keeps.drawn_within, small.leaves)
