use Rattle.std.proofs.Common.{sym, ap, subst, ◌∙◌, arith}
use Rattle.cp_closer.specs.Closer.{CloserState, IsNextPart, after_take}
use Rattle.cp_core.specs.Frozen.{part_view}
use Rattle.cp_closer.specs.Inside.{closer_view}
use Rattle.cp_closer.proofs.Views.{NextPhase, turn_below, last_part, one_part, part_seen, part_right}
use Rattle.cp_closer.proofs.closer.Closer.take.Goals as goal
use Rattle.cp_closer.proofs.closer.Closer.take.Goals.{then-shard-eq15, else-shard-eq15}

pub invariant_of-self : goal.invariant_of-self
invariant_of-self c =
    let next : NextPhase c.if-shard-eq15.self c.args.part.epoch c.args.part.shard = elim c.if-shard-eq15.branch [
      | then-shard-eq15 w ↦ last_part _ _ _ w.if-shard-eq15.true w.self-is
      | else-shard-eq15 w ↦ one_part _ _ _ w.if-shard-eq15.false w.self-is
    ] in
    let turn : IsNextPart (closer_view c.self.inside) (part_view c.args.part) = subst (λ (v : CloserState). IsNextPart v (part_view c.args.part)) (sym c.self.view_is) c.requires in
    part_right c.self.inside c.args.part c.if-shard-eq15.self c.self.invariant turn next (omega (arith, turn_below c.self.inside c.args.part.epoch c.args.part.shard c.self.invariant turn.turn))

pub returns : goal.returns
returns c =
    let next : NextPhase c.if-shard-eq15.self c.args.part.epoch c.args.part.shard = elim c.if-shard-eq15.branch [
      | then-shard-eq15 w ↦ last_part _ _ _ w.if-shard-eq15.true w.self-is
      | else-shard-eq15 w ↦ one_part _ _ _ w.if-shard-eq15.false w.self-is
    ] in
    let turn : IsNextPart (closer_view c.self.inside) (part_view c.args.part) = subst (λ (v : CloserState). IsNextPart v (part_view c.args.part)) (sym c.self.view_is) c.requires in
    part_seen c.self.inside c.args.part c.if-shard-eq15.self turn.turn next (omega (arith, turn_below c.self.inside c.args.part.epoch c.args.part.shard c.self.invariant turn.turn)) ∙ ap (λ (v : CloserState). after_take v (part_view c.args.part)) c.self.view_is
