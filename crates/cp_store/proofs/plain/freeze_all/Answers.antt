use Rattle.std.proofs.Common.{◌∙◌}
use Rattle.cp_store.proofs.Closings.{freeze_step}
use Rattle.cp_store.proofs.plain.freeze_all.Goals as goal

pub loop-shard-preserved : goal.loop-shard-preserved
loop-shard-preserved c = (
  c.in_ok-step.ensures.store ∙ c.loop-shard.invariant.0,
  freeze_step c.args.core.now.store c.loop-shard.core.store c.args.core.now.state c.loop-shard.core.state c.step.new.self.state c.in_ok-step.field-0 c.loop-shard.shard c.loop-shard.invariant.0 c.loop-shard.invariant.1 c.in_ok-step.ensures.stepped,
)
