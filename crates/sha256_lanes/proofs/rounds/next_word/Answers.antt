use Rattle.std.proofs.Common.{◌≡◌, ◌%◌, ◌+◌, arith, refl}
use Rattle.sha256_lanes.proofs.LaneLemmas.{word_of, word_set}
use Rattle.sha256_lanes.proofs.rounds.next_word.Goals as goal

pub returns-clause-value : goal.returns-clause-value
returns-clause-value c j h =
    let at : c.args.place % 16 ≡ c.args.place = omega arith in
    rw (
      at,
      word_of j ((c.args.place + 14) % 16) c.args.w.now,
      word_of j ((c.args.place + 9) % 16) c.args.w.now,
      word_of j ((c.args.place + 1) % 16) c.args.w.now,
      word_of j c.args.place c.args.w.now,
      c.add-word.ensures j h,
      c.add-2.ensures j h,
      c.small_sigma0.ensures j h,
      c.add.ensures j h,
      c.small_sigma1.ensures j h,
    ) refl

pub returns-clause-window : goal.returns-clause-window
returns-clause-window c j h = word_set j c.args.place c.args.w.now c.add-word.result
