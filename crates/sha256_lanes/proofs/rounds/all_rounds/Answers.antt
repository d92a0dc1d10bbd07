use Rattle.sha256_lanes.proofs.rounds.all_rounds.Goals as goal

pub returns : goal.returns
returns c = λ b h j lt window held.
    let s1 = c.first_turn-v.ensures b h j lt window held in
    let s2 = c.one_turn-v.ensures b h j lt (window, s1) in
    let s3 = c.one_turn-v-2.ensures b h j lt s2 in
    (c.one_turn.ensures b h j lt s3).1
