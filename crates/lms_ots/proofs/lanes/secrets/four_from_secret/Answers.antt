use Rattle.std.proofs.Common.{◌+◌, arith}
use Rattle.sha256_lanes.proofs.LaneLemmas.{below_four}
use Rattle.lms_ots.proofs.SideBySide.{chain-secret}
use Rattle.lms_ots.proofs.lanes.secrets.four_from_secret.Goals as goal

pub returns : goal.returns
returns c =
    let i = c.args.i in
    below_four _
    (chain-secret _ _ i (i + 0) _ _ _ _ (omega arith) (c.steps_of_four-starts.ensures 0 (omega arith)) (c.steps_of_four.ensures 0 (omega arith)))
    (chain-secret _ _ (i + 1) (i + 1) _ _ _ _ (omega arith) (c.steps_of_four-starts.ensures 1 (omega arith)) (c.steps_of_four.ensures 1 (omega arith)))
    (chain-secret _ _ (i + 2) (i + 2) _ _ _ _ (omega arith) (c.steps_of_four-starts.ensures 2 (omega arith)) (c.steps_of_four.ensures 2 (omega arith)))
    (chain-secret _ _ (i + 3) (i + 3) _ _ _ _ (omega arith) (c.steps_of_four-starts.ensures 3 (omega arith)) (c.steps_of_four.ensures 3 (omega arith)))
