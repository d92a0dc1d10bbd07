use Rattle.std.proofs.Common.{◌≡◌, ℕ, ◌+◌, ◌-◌, List, length, sym, ap, ◌∙◌, arith}
use Rattle.std.specs.Vec.{vec_capacity}
use Rattle.cp_core.specs.Life.{list_text}
use Rattle.cp_core.specs.Calls.{epoch_now}
use Rattle.cp_core.specs.declared.item.Item.{Item}
use Rattle.cp_core.specs.declared.item.Item.TheVariants.{Row, Frozen}
use Rattle.cp_shard.specs.Model.{ShardModel}
use Rattle.cp_shard.proofs.Spans.{LastFreeze, last_freeze, no_freeze}
use Rattle.cp_shard.proofs.shard.Shard.list.Goals as goal

pub returns-then-freezes-eq0 : goal.returns-then-freezes-eq0
returns-then-freezes-eq0 c =
    let s = c.self.inside in
    sym (no_freeze s.first s.items.items s.row_tips.items s.row_counts.items s.closings (vec_capacity s.row_counts) c.len-freezes.result c.self.invariant.1 (omega (arith, c.len-freezes.ensures, s.row_counts.ok)) c.if-freezes-eq0.true)
    ∙ ap (λ (v : ShardModel). list_text v.first v.items (epoch_now v.items)) c.self.view_is

pub overflow_add-index : goal.overflow_add-index
overflow_add-index c =
    let s = c.self.inside in
    let f = last_freeze s.first s.items.items s.row_tips.items s.row_counts.items s.closings (vec_capacity s.row_counts) c.len-freezes.result c.index.result.now c.self.invariant.1 (omega (arith, c.len-freezes.ensures, s.row_counts.ok)) c.if-freezes-eq0.false c.index.ensures in
    omega (arith, f.within, s.items.ok)

pub index-requires-2 : goal.index-requires-2
index-requires-2 c =
    let s = c.self.inside in
    let f = last_freeze s.first s.items.items s.row_tips.items s.row_counts.items s.closings (vec_capacity s.row_counts) c.len-freezes.result c.index.result.now c.self.invariant.1 (omega (arith, c.len-freezes.ensures, s.row_counts.ok)) c.if-freezes-eq0.false c.index.ensures in
    omega (arith, f.within, s.items.ok)

pub unreachable-requires : goal.unreachable-requires
unreachable-requires c =
    let s = c.self.inside in
    let f = last_freeze s.first s.items.items s.row_tips.items s.row_counts.items s.closings (vec_capacity s.row_counts) c.len-freezes.result c.index.result.now c.self.invariant.1 (omega (arith, c.len-freezes.ensures, s.row_counts.ok)) c.if-freezes-eq0.false c.index.ensures in
    let differs : Row c.in-Row.pass c.in-Row.leaf c.in-Row.pages c.in-Row.entry ≡ Frozen f.epoch f.next = sym c.in-Row.is ∙ c.index-2.ensures ∙ f.is c.index-2.result.now in
    cc

pub returns : goal.returns
returns c =
    let s = c.self.inside in
    let f = last_freeze s.first s.items.items s.row_tips.items s.row_counts.items s.closings (vec_capacity s.row_counts) c.len-freezes.result c.index.result.now c.self.invariant.1 (omega (arith, c.len-freezes.ensures, s.row_counts.ok)) c.if-freezes-eq0.false c.index.ensures in
    let same : Frozen c.in-Frozen.epoch c.in-Frozen.next ≡ Frozen f.epoch f.next = sym c.in-Frozen.is ∙ c.index-2.ensures ∙ f.is c.index-2.result.now in
    let next : c.in-Frozen.next ≡ f.next = cc in
    next ∙ sym f.list ∙ ap (λ (v : ShardModel). list_text v.first v.items (epoch_now v.items)) c.self.view_is
