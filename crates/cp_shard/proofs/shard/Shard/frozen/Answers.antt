use Rattle.std.proofs.Common.{◌≡◌, ℕ, ◌+◌, ◌-◌, ◌<◌, ◌≤◌, List, ◌∷◌, get_or, length, map, refl, sym, ap, subst, ◌∙◌, arith}
use Rattle.std.specs.Vec.{vec_capacity}
use Rattle.cp_core.specs.Calls.{epoch_now}
use Rattle.cp_core.specs.Frozen.{Part, blocks_in, frozen_block, frozen_part, gained_view}
use Rattle.cp_core.specs.Honest.{IsItemOf}
use Rattle.cp_core.specs.Life.{rows_in}
use Rattle.cp_chain.specs.Each.{Each}
use Rattle.cp_shard.specs.Gathered.{KeepsRows}
use Rattle.cp_core.specs.declared.item.Item.{Item}
use Rattle.cp_shard.specs.Model.{ShardModel}
use Rattle.cp_shard.specs.declared.row_tip.RowTip.{RowTip}
use Rattle.cp_shard.proofs.Spans.{Span, span, counts_many, in_order, in_items, in_tips, part_gathered}
use Rattle.cp_shard.proofs.Views.{carried}
use Rattle.cp_shard.proofs.shard.Shard.frozen.Goals as goal

-- the number that is found among the kept ones
found : (counts given : List ℕ) (e n m : ℕ) → m ≡ get_or (0 ∷ given) n 0 → given ≡ counts → n ≡ e → m ≡ get_or (0 ∷ counts) e 0
found counts given e n m is same at = is ∙ ap (λ l. get_or (0 ∷ l) n 0) same ∙ ap (λ i. get_or (0 ∷ counts) i 0) at

spanned : (k : ℕ) (items : List Item) (tips : List RowTip) (counts first last : List ℕ) (closings room epoch before start end : ℕ) → Each (IsItemOf k) items → KeepsRows items tips counts closings room → epoch < epoch_now items → before ≡ epoch - 1
    → start ≡ get_or (0 ∷ first) before 0 → first ≡ counts → end ≡ get_or (0 ∷ last) epoch 0 → last ≡ counts → Span k items tips epoch start end
spanned k items tips counts first last closings room epoch before start end each h past at starts one ends two =
    span k items tips counts closings room epoch start end each h past (found counts first (epoch - 1) before start starts one at) (found counts last epoch epoch end ends two refl)

pub rows_through-start-requires : goal.rows_through-start-requires
rows_through-start-requires c =
    let s = c.self.inside in
    let past : c.args.epoch < epoch_now s.items.items = carried (λ v. c.args.epoch < epoch_now v.items) _ _ c.self.view_is c.requires in
    omega (arith, past, c.saturating_sub-before.ensures, c.deref.ensures.len, counts_many s.items.items s.row_tips.items s.row_counts.items s.closings (vec_capacity s.row_counts) c.self.invariant.1, ap length c.deref.ensures.value)

pub rows_through-end-requires : goal.rows_through-end-requires
rows_through-end-requires c =
    let s = c.self.inside in
    let past : c.args.epoch < epoch_now s.items.items = carried (λ v. c.args.epoch < epoch_now v.items) _ _ c.self.view_is c.requires in
    omega (arith, past, counts_many s.items.items s.row_tips.items s.row_counts.items s.closings (vec_capacity s.row_counts) c.self.invariant.1, ap length c.deref-2.ensures.value)

pub gather-requires-clause-order : goal.gather-requires-clause-order
gather-requires-clause-order c =
    let s = c.self.inside in
    let past : c.args.epoch < epoch_now s.items.items = carried (λ v. c.args.epoch < epoch_now v.items) _ _ c.self.view_is c.requires in
    let at : Span s.index s.items.items s.row_tips.items c.args.epoch c.rows_through-start.result c.rows_through-end.result =
    spanned s.index s.items.items s.row_tips.items s.row_counts.items c.deref.result.now c.deref-2.result.now s.closings (vec_capacity s.row_counts) c.args.epoch c.saturating_sub-before.result c.rows_through-start.result c.rows_through-end.result
    c.self.invariant.0.each c.self.invariant.1 past c.saturating_sub-before.ensures c.rows_through-start.ensures c.deref.ensures.value c.rows_through-end.ensures c.deref-2.ensures.value in
    in_order s.index s.items.items s.row_tips.items c.args.epoch c.rows_through-start.result c.rows_through-end.result c.saturating_sub-before.result at c.saturating_sub-before.ensures

pub gather-requires-clause-items : goal.gather-requires-clause-items
gather-requires-clause-items c =
    let s = c.self.inside in
    let past : c.args.epoch < epoch_now s.items.items = carried (λ v. c.args.epoch < epoch_now v.items) _ _ c.self.view_is c.requires in
    let at : Span s.index s.items.items s.row_tips.items c.args.epoch c.rows_through-start.result c.rows_through-end.result =
    spanned s.index s.items.items s.row_tips.items s.row_counts.items c.deref.result.now c.deref-2.result.now s.closings (vec_capacity s.row_counts) c.args.epoch c.saturating_sub-before.result c.rows_through-start.result c.rows_through-end.result
    c.self.invariant.0.each c.self.invariant.1 past c.saturating_sub-before.ensures c.rows_through-start.ensures c.deref.ensures.value c.rows_through-end.ensures c.deref-2.ensures.value in
    subst (λ l. c.rows_through-end.result + c.saturating_sub-before.result ≤ length l) (sym c.deref-3.ensures.value) (in_items s.index s.items.items s.row_tips.items c.args.epoch c.rows_through-start.result c.rows_through-end.result c.saturating_sub-before.result at c.saturating_sub-before.ensures)

pub gather-requires-clause-row_tips : goal.gather-requires-clause-row_tips
gather-requires-clause-row_tips c =
    let s = c.self.inside in
    let past : c.args.epoch < epoch_now s.items.items = carried (λ v. c.args.epoch < epoch_now v.items) _ _ c.self.view_is c.requires in
    let at : Span s.index s.items.items s.row_tips.items c.args.epoch c.rows_through-start.result c.rows_through-end.result =
    spanned s.index s.items.items s.row_tips.items s.row_counts.items c.deref.result.now c.deref-2.result.now s.closings (vec_capacity s.row_counts) c.args.epoch c.saturating_sub-before.result c.rows_through-start.result c.rows_through-end.result
    c.self.invariant.0.each c.self.invariant.1 past c.saturating_sub-before.ensures c.rows_through-start.ensures c.deref.ensures.value c.rows_through-end.ensures c.deref-2.ensures.value in
    subst (λ l. c.rows_through-end.result ≤ length l) (sym c.deref-4.ensures.value) (in_tips s.index s.items.items s.row_tips.items c.args.epoch c.rows_through-start.result c.rows_through-end.result c.saturating_sub-before.result at c.saturating_sub-before.ensures)

pub returns : goal.returns
returns c =
    let s = c.self.inside in
    let past : c.args.epoch < epoch_now s.items.items = carried (λ v. c.args.epoch < epoch_now v.items) _ _ c.self.view_is c.requires in
    let at : Span s.index s.items.items s.row_tips.items c.args.epoch c.rows_through-start.result c.rows_through-end.result =
    spanned s.index s.items.items s.row_tips.items s.row_counts.items c.deref.result.now c.deref-2.result.now s.closings (vec_capacity s.row_counts) c.args.epoch c.saturating_sub-before.result c.rows_through-start.result c.rows_through-end.result
    c.self.invariant.0.each c.self.invariant.1 past c.saturating_sub-before.ensures c.rows_through-start.ensures c.deref.ensures.value c.rows_through-end.ensures c.deref-2.ensures.value in
    let gathered : map gained_view c.in_ok-blocks.blocks.items ≡ map (frozen_block s.items.items c.args.epoch) (blocks_in (rows_in s.items.items) c.args.epoch) =
    part_gathered s.index s.items.items s.row_tips.items c.args.epoch c.rows_through-start.result c.rows_through-end.result c.saturating_sub-before.result at c.saturating_sub-before.ensures c.in_ok-blocks.blocks.items
    (rw (c.deref-3.ensures.value, c.deref-4.ensures.value) at c.in_ok-blocks.ensures) in
    ap (λ bs. (let p : Part = record { shard = s.index; epoch = c.args.epoch; blocks = bs } in p)) gathered
    ∙ ap (λ (v : ShardModel). frozen_part v.index v.items c.args.epoch) c.self.view_is
