-- What is seen of a shard.
use Rattle.std.proofs.Common.{◌≡◌, ℕ, ◌+◌, List, [], ◌∷◌, ◌++◌, sym, ap, subst, ◌∙◌}
use Rattle.cp_core.specs.Calls.{epoch_now}
use Rattle.cp_core.specs.declared.content.Content.{Content}
use Rattle.cp_core.specs.declared.item.Item.{Item}
use Rattle.cp_core.specs.declared.item.Item.TheVariants.{Frozen}
use Rattle.cp_shard.specs.Model.{ShardModel}
use Rattle.cp_shard.specs.Contents.{contents_of, put_blocks}
use Rattle.cp_shard.proofs.Holding.{view_same, view_frozen}

-- what holds of the value holds of the fields
pub carried : (P : ShardModel → Type 0) (v w : ShardModel) → v ≡ w → P w → P v
carried P v w e h = subst P (sym e) h

pub frozen_view : (store : List ℕ) (index pages closings epoch : ℕ) (first next : List ℕ) (items now : List Item) (f : ℕ → List ℕ) → now ≡ items ++ Frozen epoch next ∷ [] → epoch ≡ epoch_now items
    → ◌≡◌ {A = ShardModel} (record { store = store; index = index; pages = pages; closings = closings; first = first; items = now; contents = contents_of (put_blocks now) f })
    (record { store = store; index = index; pages = pages; closings = closings; first = first; items = items ++ Frozen (epoch_now items) next ∷ []; contents = contents_of (put_blocks items) f })
frozen_view store index pages closings epoch first next items now f is at =
    ap (λ (xs : List Item). record { store = store; index = index; pages = pages; closings = closings; first = first; items = xs; contents = contents_of (put_blocks xs) f }) (is ∙ ap (λ e. items ++ Frozen e next ∷ []) at)
    ∙ ap (λ (cs : List Content). record { store = store; index = index; pages = pages; closings = closings; first = first; items = items ++ Frozen (epoch_now items) next ∷ []; contents = cs }) (view_frozen items (epoch_now items) next f)

-- where the contents read the same
pub same_view : (store : List ℕ) (index pages closings : ℕ) (first : List ℕ) (items now : List Item) (f g : ℕ → List ℕ) → now ≡ items → ((b : ℕ) → g b ≡ f b)
    → ◌≡◌ {A = ShardModel} (record { store = store; index = index; pages = pages; closings = closings; first = first; items = now; contents = contents_of (put_blocks now) g })
    (record { store = store; index = index; pages = pages; closings = closings; first = first; items = items; contents = contents_of (put_blocks items) f })
same_view store index pages closings first items now f g is same =
    ap (λ (xs : List Item). record { store = store; index = index; pages = pages; closings = closings; first = first; items = xs; contents = contents_of (put_blocks xs) g }) is
    ∙ ap (λ (cs : List Content). record { store = store; index = index; pages = pages; closings = closings; first = first; items = items; contents = cs }) (view_same items g f same)
