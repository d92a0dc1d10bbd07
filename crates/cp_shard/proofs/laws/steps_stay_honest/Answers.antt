use Rattle.std.proofs.Common.{refl}
use Rattle.cp_core.proofs.ShardLemmas.{honest_freeze}
use Rattle.cp_core.proofs.CallLemmas.{honest_call, step_new}
use Rattle.cp_core.specs.Calls.{epoch_now}
use Rattle.cp_shard.proofs.laws.steps_stay_honest.Goals as goal

pub returns : goal.returns
returns c = (
  λ s k items contents pages pass request leaf answer row honest at fits names room step.
      honest_call s k items pass request contents leaf answer row honest at fits names room (step_new s.id pages s.families items contents pass request leaf answer row step),
  λ s k items next honest spells. honest_freeze s k items (epoch_now items) next honest refl spells,
)
