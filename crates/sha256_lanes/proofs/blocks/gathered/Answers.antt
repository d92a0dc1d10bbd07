use Rattle.std.proofs.Common.{refl}
use Rattle.sha2.specs.Sha256.{first_words}
use Rattle.sha256_lanes.proofs.blocks.gathered.Goals as goal

pub returns : goal.returns
unfolding first_words
returns c j h =
    rw (
      c.row.ensures j h,
      c.row-2.ensures j h,
      c.row-3.ensures j h,
      c.row-4.ensures j h,
      c.row-5.ensures j h,
      c.row-6.ensures j h,
      c.row-7.ensures j h,
      c.row-8.ensures j h,
      c.row-9.ensures j h,
      c.row-10.ensures j h,
      c.row-11.ensures j h,
      c.row-12.ensures j h,
      c.row-13.ensures j h,
      c.row-14.ensures j h,
      c.row-15.ensures j h,
      c.row-16.ensures j h,
    ) refl
