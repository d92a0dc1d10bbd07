use Rattle.std.proofs.Common.{refl}
use Rattle.sha256_lanes.proofs.LaneLemmas.{word_of}
use Rattle.sha256_lanes.proofs.rounds.round.Goals as goal

pub returns : goal.returns
returns c j h =
    rw (
      word_of j 0 c.args.v,
      word_of j 1 c.args.v,
      word_of j 2 c.args.v,
      word_of j 3 c.args.v,
      word_of j 4 c.args.v,
      word_of j 5 c.args.v,
      word_of j 6 c.args.v,
      word_of j 7 c.args.v,
      c.add-5.ensures j h,
      c.add-4.ensures j h,
      c.add-temp2.ensures j h,
      c.maj.ensures j h,
      c.big_sigma0.ensures j h,
      c.add-temp1.ensures j h,
      c.add-3.ensures j h,
      c.splat.ensures j h,
      c.add-2.ensures j h,
      c.ch.ensures j h,
      c.add.ensures j h,
      c.big_sigma1.ensures j h,
    ) refl
