-- The pages that a shard's puts hold, from its items.
use Rattle.std.proofs.Common.{◌≡◌, ℕ, ◌+◌, ◌<◌, Bool, true, false, cond, ◌||◌, List, ◌∷◌, length, refl, sym, ap, ◌∙◌, arith, drop}
use Rattle.std.specs.Prelude.{get_or}
use Rattle.std.specs.List.{list_any}
use Rattle.std.proofs.lemmas.List.{drop_more}
use Rattle.cp_core.specs.Calls.{is_last_put, pages_taken, puts_block}
use Rattle.cp_core.specs.Life.{RowItem, rows_in}
use Rattle.cp_core.specs.Running.{item_puts_block}
use Rattle.cp_core.specs.declared.item.Item.{Item}
use Rattle.cp_core.specs.declared.item.Item.TheVariants.{Frozen, Row}

pub any_item : (b : ℕ) (x : Item) (xs : List Item) → list_any (puts_block b) (rows_in (x ∷ xs)) ≡ (item_puts_block b x || list_any (puts_block b) (rows_in xs))
any_item b (Row pass leaf pages entry) xs = refl
any_item b (Frozen n next) xs = refl

any_at : (b i : ℕ) (items : List Item) (x : Item) → x ≡ get_or items i x → i < length items → list_any (puts_block b) (rows_in (drop i items)) ≡ (item_puts_block b x || list_any (puts_block b) (rows_in (drop (i + 1) items)))
any_at b i items x is lt = ap (λ (xs : List Item). list_any (puts_block b) (rows_in xs)) (drop_more items i x lt) ∙ any_item b (get_or items i x) (drop (i + 1) items) ∙ ap (λ (y : Item). item_puts_block b y || list_any (puts_block b) (rows_in (drop (i + 1) items))) (sym is)

-- an item that is no put of the block may be left out
pub any_more : (b i : ℕ) (items : List Item) (x : Item) → x ≡ get_or items i x → i < length items → item_puts_block b x ≡ false → list_any (puts_block b) (rows_in (drop (i + 1) items)) ≡ list_any (puts_block b) (rows_in (drop i items))
any_more b i items x is lt none = sym (any_at b i items x is lt ∙ ap (λ (t : Bool). t || list_any (puts_block b) (rows_in (drop (i + 1) items))) none)

-- one that is settles it
pub any_here : (b i : ℕ) (items : List Item) (x : Item) → x ≡ get_or items i x → i < length items → item_puts_block b x ≡ true → list_any (puts_block b) (rows_in (drop i items)) ≡ true
any_here b i items x is lt some = any_at b i items x is lt ∙ ap (λ (t : Bool). t || list_any (puts_block b) (rows_in (drop (i + 1) items))) some

-- the pages of an item that is the last put of its block among the later items
abbrev pub pages_in : Item → List RowItem → ℕ
pages_in (Row pass leaf pages entry) later = cond (is_last_put (record { pass = pass; leaf = leaf; pages = pages; entry = entry }) later) pages 0
pages_in (Frozen n next) later = 0

taken_item : (x : Item) (xs : List Item) → pages_taken (rows_in (x ∷ xs)) ≡ pages_in x (rows_in xs) + pages_taken (rows_in xs)
taken_item (Row pass leaf pages entry) xs = refl
taken_item (Frozen n next) xs = omega arith

pub taken_more : (i : ℕ) (items : List Item) (x : Item) → x ≡ get_or items i x → i < length items → pages_taken (rows_in (drop i items)) ≡ pages_in x (rows_in (drop (i + 1) items)) + pages_taken (rows_in (drop (i + 1) items))
taken_more i items x is lt = ap (λ (xs : List Item). pages_taken (rows_in xs)) (drop_more items i x lt) ∙ taken_item (get_or items i x) (drop (i + 1) items) ∙ ap (λ (y : Item). pages_in y (rows_in (drop (i + 1) items)) + pages_taken (rows_in (drop (i + 1) items))) (sym is)
