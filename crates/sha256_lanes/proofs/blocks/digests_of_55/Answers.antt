use Rattle.std.proofs.Common.{arith}
use Rattle.sha256_lanes.proofs.LaneLemmas.{below_four}
use Rattle.sha256_lanes.proofs.blocks.digests_of_55.Goals as goal

pub returns : goal.returns
returns c =
    below_four _
    (c.digests.ensures _ 0 (omega arith) (omega (arith, c.padded.ensures.long)) c.padded.ensures.bytes)
    (c.digests.ensures _ 1 (omega arith) (omega (arith, c.padded-2.ensures.long)) c.padded-2.ensures.bytes)
    (c.digests.ensures _ 2 (omega arith) (omega (arith, c.padded-3.ensures.long)) c.padded-3.ensures.bytes)
    (c.digests.ensures _ 3 (omega arith) (omega (arith, c.padded-4.ensures.long)) c.padded-4.ensures.bytes)
