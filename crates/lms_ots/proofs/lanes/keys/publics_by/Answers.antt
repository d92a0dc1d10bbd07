use Rattle.std.proofs.Common.{◌+◌, arith}
use Rattle.sha256_lanes.proofs.LaneLemmas.{below_four}
use Rattle.lms_ots.proofs.SideBySide.{key-of_text}
use Rattle.lms_ots.proofs.lanes.keys.publics_by.Goals as goal

pub returns : goal.returns
returns c =
    let q = c.args.q in
    let texts = c.put_texts.ensures in
    below_four _
    (key-of_text _ _ q (q + 0) _ _ _ (omega arith) texts.first (c.digests_of_four.ensures 0 (omega arith)))
    (key-of_text _ _ (q + 1) (q + 1) _ _ _ (omega arith) texts.second (c.digests_of_four.ensures 1 (omega arith)))
    (key-of_text _ _ (q + 2) (q + 2) _ _ _ (omega arith) texts.third (c.digests_of_four.ensures 2 (omega arith)))
    (key-of_text _ _ (q + 3) (q + 3) _ _ _ (omega arith) texts.fourth (c.digests_of_four.ensures 3 (omega arith)))
