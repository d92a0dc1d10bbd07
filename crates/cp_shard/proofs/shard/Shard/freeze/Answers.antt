use Rattle.std.proofs.Common.{◌≤◌, ◌++◌, ◌∷◌, [], ap, ◌∙◌, arith}
use Rattle.std.specs.Vec.{vec_capacity}
use Rattle.cp_core.specs.Calls.{epoch_now}
use Rattle.cp_core.specs.declared.item.Item.TheVariants.{Frozen}
use Rattle.cp_shard.specs.Model.{ShardModel}
use Rattle.cp_shard.specs.Standings.{run_at, content_in}
use Rattle.cp_shard.proofs.Keeping.{keeps_frozen}
use Rattle.cp_shard.proofs.Spans.{rows_frozen_more, count_fits}
use Rattle.cp_shard.proofs.Views.{carried, frozen_view}
use Rattle.cp_shard.proofs.shard.Shard.freeze.Goals as goal

pub invariant_of-self : goal.invariant_of-self
invariant_of-self c =
    let s = c.self.inside in
    rw (c.push_reserved.ensures.items, c.push_reserved.ensures.capacity, c.clear-2.ensures.items, c.push_reserved-2.ensures.items, c.push_reserved-2.ensures.capacity) (
      keeps_frozen s.store s.index s.pages s.closings s.epoch _ s.items.items s.calls.items s.standings s.places c.clear.new.self s.pool c.self.invariant.0 c.clear.ensures.empty
          (carried (λ v. epoch_now v.items ≤ v.closings) _ _ c.self.view_is c.requires) c.args.next c.as_slice.ensures.reads,
      rows_frozen_more s.items.items s.row_tips.items s.row_counts.items s.closings (vec_capacity s.row_counts) s.epoch c.args.next c.len.result c.self.invariant.1 (omega (arith, c.len.ensures, s.row_tips.ok)),
    )

pub returns : goal.returns
returns c =
    let s = c.self.inside in
    frozen_view s.store s.index s.pages s.closings s.epoch s.first c.args.next s.items.items c.push_reserved.new.self.items (λ b. content_in s.pool (run_at s.standings b)) c.push_reserved.ensures.items c.self.invariant.0.epoch_is
    ∙ ap (λ (v : ShardModel). record v { items = v.items ++ Frozen (epoch_now v.items) c.args.next ∷ [] }) c.self.view_is

pub push_reserved-requires-2 : goal.push_reserved-requires-2
push_reserved-requires-2 c =
    let s = c.self.inside in
    omega (arith, s.row_counts.ok, count_fits s.items.items s.row_tips.items s.row_counts.items s.closings (vec_capacity s.row_counts) c.self.invariant.1 (carried (λ v. epoch_now v.items ≤ v.closings) _ _ c.self.view_is c.requires))
