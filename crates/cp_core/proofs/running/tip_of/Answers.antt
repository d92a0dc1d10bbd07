use Rattle.std.proofs.Common.{◌∙◌, arith}
use Rattle.cp_core.proofs.RunningLemmas.{cut_now}
use Rattle.cp_core.proofs.running.tip_of.Goals as goal

pub returns : goal.returns
returns c = c.tip_at.ensures ∙ cut_now c.args.items.now c.args.block c.epoch_now.result c.requires (omega (arith, c.epoch_now.ensures))
