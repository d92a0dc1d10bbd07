use Rattle.sha2.specs.Sha256.{rounds}
use Rattle.sha256_lanes.proofs.rounds.first_turn.Goals as goal

pub returns : goal.returns
unfolding rounds
returns c = λ b h j lt window held.
    let s1 = c.first_four_steps-v.ensures b h j lt window held in
    let s2 = c.first_four_steps-v-2.ensures b h j lt window s1 in
    let s3 = c.first_four_steps-v-3.ensures b h j lt window s2 in
    c.first_four_steps.ensures b h j lt window s3
