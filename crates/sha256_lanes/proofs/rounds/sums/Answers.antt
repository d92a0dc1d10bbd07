use Rattle.std.proofs.Common.{refl}
use Rattle.sha256_lanes.proofs.LaneLemmas.{word_of}
use Rattle.sha256_lanes.proofs.rounds.sums.Goals as goal

pub returns : goal.returns
returns c j h =
    rw (
      word_of j 0 c.args.a,
      word_of j 1 c.args.a,
      word_of j 2 c.args.a,
      word_of j 3 c.args.a,
      word_of j 4 c.args.a,
      word_of j 5 c.args.a,
      word_of j 6 c.args.a,
      word_of j 7 c.args.a,
      word_of j 0 c.args.b,
      word_of j 1 c.args.b,
      word_of j 2 c.args.b,
      word_of j 3 c.args.b,
      word_of j 4 c.args.b,
      word_of j 5 c.args.b,
      word_of j 6 c.args.b,
      word_of j 7 c.args.b,
      c.add.ensures j h,
      c.add-2.ensures j h,
      c.add-3.ensures j h,
      c.add-4.ensures j h,
      c.add-5.ensures j h,
      c.add-6.ensures j h,
      c.add-7.ensures j h,
      c.add-8.ensures j h,
    ) refl
