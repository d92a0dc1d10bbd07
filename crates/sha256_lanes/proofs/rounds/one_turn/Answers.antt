use Rattle.std.proofs.Common.{arith}
use Rattle.sha2.proofs.Schedule256.{IsRoundsAt_at}
use Rattle.sha256_lanes.proofs.rounds.one_turn.Goals as goal

pub returns : goal.returns
returns c = λ b h j lt held.
    let s1 = c.four_steps-v.ensures b h j lt (IsRoundsAt_at b h _ _ _ _ (omega arith) held) in
    let s2 = c.four_steps-v-2.ensures b h j lt s1 in
    let s3 = c.four_steps-v-3.ensures b h j lt s2 in
    IsRoundsAt_at b h _ _ _ _ (omega arith) (c.four_steps.ensures b h j lt s3)
