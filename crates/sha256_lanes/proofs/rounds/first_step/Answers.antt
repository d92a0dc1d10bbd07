use Rattle.std.proofs.Common.{refl, sym}
use Rattle.sha2.proofs.Schedule256.{rounds_first}
use Rattle.sha256_lanes.specs.Lanes.{lane}
use Rattle.sha256_lanes.proofs.LaneLemmas.{word_of}
use Rattle.sha256_lanes.proofs.rounds.first_step.Goals as goal

pub returns : goal.returns
returns c = λ b h j lt window held.
    rounds_first b h (lane j c.args.w.now) (lane j c.args.v) c.args.t _ _ _ c.requires window held refl (sym (word_of j c.args.t c.args.w.now)) (c.round.ensures j lt)
