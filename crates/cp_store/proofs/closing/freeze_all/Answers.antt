use Rattle.std.proofs.Common.{ℕ, ◌≡◌, ◌≤◌, ◌∙◌, ◌∷◌, ◌++◌, [], sym, ap, subst, arith}
use Rattle.std.proofs.lemmas.List.{length-set}
use Rattle.cp_closer.specs.Closer.{IsNextPart, after_take}
use Rattle.cp_core.specs.Calls.{epoch_now}
use Rattle.cp_core.specs.Frozen.{frozen_part}
use Rattle.cp_core.specs.declared.item.Item.TheVariants.{Frozen}
use Rattle.cp_shard.specs.Model.{ShardModel}
use Rattle.cp_store.specs.Freezes.{IsFrozenTo, frozen_shard}
use Rattle.cp_store.proofs.Freezing.{shard_now, shard_room, part_next, may_half, next_may, frozen_next}
use Rattle.cp_store.proofs.closing.freeze_all.Goals as goal

pub freeze_one-requires-clause-now : goal.freeze_one-requires-clause-now
freeze_one-requires-clause-now c = ap (λ (z : ShardModel). epoch_now z.items) c.index_mut.ensures.value ∙ shard_now c.loop-shard.invariant.1.store c.loop-shard.shards.items c.loop-shard.closer c.loop-shard.invariant.1.drawn c.args.epoch c.loop-shard.shard c.index_mut.result.now (may_half c.loop-shard.shards.items c.loop-shard.closer c.args.epoch c.loop-shard.shard c.loop-shard.invariant.1 c.loop-shard-test.true)

pub freeze_one-requires-clause-room : goal.freeze_one-requires-clause-room
freeze_one-requires-clause-room c = subst (λ (z : ShardModel). epoch_now z.items ≤ z.closings) (sym c.index_mut.ensures.value) (shard_room c.loop-shard.invariant.1.store c.loop-shard.shards.items c.loop-shard.closer c.loop-shard.invariant.1.drawn c.args.epoch c.loop-shard.shard c.index_mut.result.now (may_half c.loop-shard.shards.items c.loop-shard.closer c.args.epoch c.loop-shard.shard c.loop-shard.invariant.1 c.loop-shard-test.true))

pub freeze_one-requires-clause-next : goal.freeze_one-requires-clause-next
freeze_one-requires-clause-next c = subst (λ (z : ShardModel). IsNextPart c.loop-shard.closer (frozen_part z.index (z.items ++ Frozen c.args.epoch c.loop-shard.closer.next ∷ []) c.args.epoch)) (sym c.index_mut.ensures.value) (part_next c.loop-shard.invariant.1.store c.loop-shard.shards.items c.loop-shard.closer c.loop-shard.invariant.1.drawn c.args.epoch c.loop-shard.shard c.index_mut.result.now (may_half c.loop-shard.shards.items c.loop-shard.closer c.args.epoch c.loop-shard.shard c.loop-shard.invariant.1 c.loop-shard-test.true))

pub loop-shard-preserved : goal.loop-shard-preserved
loop-shard-preserved c = (
  length-set _ _ _ ∙ c.loop-shard.invariant.0,
  next_may c.loop-shard.shards.items c.loop-shard.closer c.args.epoch c.loop-shard.shard c.index_mut.result.now c.freeze_one.new.shard c.freeze_one.new.closer c.loop-shard.invariant.1 c.loop-shard-test.true (c.in_ok-freeze_one.ensures.shard ∙ ap (λ (z : ShardModel). frozen_shard z c.args.epoch c.loop-shard.closer.next) c.index_mut.ensures.value) (c.in_ok-freeze_one.ensures.closer ∙ ap (λ (z : ShardModel). after_take c.loop-shard.closer (frozen_part z.index (z.items ++ Frozen c.args.epoch c.loop-shard.closer.next ∷ []) c.args.epoch)) c.index_mut.ensures.value),
  λ s st n fits few start. frozen_next s st c.loop-shard.shards.items c.loop-shard.closer n c.args.epoch c.loop-shard.shard c.index_mut.result.now c.freeze_one.new.shard c.freeze_one.new.closer fits few (c.loop-shard.invariant.2 s st n fits few start) c.loop-shard-test.true (c.in_ok-freeze_one.ensures.shard ∙ ap (λ (z : ShardModel). frozen_shard z c.args.epoch c.loop-shard.closer.next) c.index_mut.ensures.value) (c.in_ok-freeze_one.ensures.closer ∙ ap (λ (z : ShardModel). after_take c.loop-shard.closer (frozen_part z.index (z.items ++ Frozen c.args.epoch c.loop-shard.closer.next ∷ []) c.args.epoch)) c.index_mut.ensures.value),
)

pub returns : goal.returns
returns c = λ s st n fits few start.
    let last : c.loop-shard.shard ≡ 16 = omega (arith, c.loop-shard-test.false, c.loop-shard.auto.shard-end) in
    subst (λ (m : ℕ). IsFrozenTo s st c.loop-shard.shards.items c.loop-shard.closer n c.args.epoch m) last (c.loop-shard.invariant.2 s st n fits few start)
