use Rattle.std.proofs.Common.{◌≡◌, ◌∙◌, ap, length, refl, arith}
use Rattle.std.proofs.lemmas.List.{length-map}
use Rattle.sha2.specs.Sha256.{add_state, compress}
use Rattle.sha2.proofs.Schedule256.{IsWindow_first}
use Rattle.sha256_lanes.specs.Lanes.{lane}
use Rattle.sha256_lanes.proofs.rounds.compress.Goals as goal

pub returns : goal.returns
unfolding compress
returns c = λ b j lt words.
    let long : length (lane j c.args.block) ≡ 16 = length-map c.args.block _ ∙ omega arith in
    let window = IsWindow_first b (lane j c.args.block) long words in
    let ended = c.all_rounds-v.ensures b (lane j c.args.state) j lt window refl in
    c.sums.ensures j lt ∙ ap (add_state (lane j c.args.state)) ended
