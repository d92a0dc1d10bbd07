use Rattle.std.proofs.Common.{◌≡◌, ◌+◌, [], slice_index_or, refl, arith}
use Rattle.sha256_lanes.proofs.LaneLemmas.{below_four}
use Rattle.lms_ots.specs.Ots.{chain}
use Rattle.lms_ots.specs.Signing.{secret_start}
use Rattle.lms_ots.proofs.SideBySide.{chain-secret}
use Rattle.lms_ots.proofs.lanes.keys.chain_of_four.Goals as goal

pub returns : goal.returns
returns c =
    let id = c.args.id.now in
    let q = c.args.q in
    let i = c.args.i in
    let long = c.told-id in
    let same : q + 0 ≡ q = omega arith in
    let begun = c.steps_of_texts-starts.ensures id in
    let ended = c.steps_of_texts.ensures id in
    below_four (λ j. slice_index_or c.steps_of_texts.result j [] ≡ chain id (q + j) i 0 c.args.count (secret_start id (q + j) i c.args.secret.now))
    (rw same
    (chain-secret _ q i i _ _ _ _ refl (begun q i 0 long (omega arith) c.step_message.ensures) (ended q i 0 long (omega arith) c.step_message.ensures)))
    (chain-secret _ (q + 1) i i _ _ _ _ refl (begun (q + 1) i 1 long (omega arith) c.step_message-2.ensures) (ended (q + 1) i 1 long (omega arith) c.step_message-2.ensures))
    (chain-secret _ (q + 2) i i _ _ _ _ refl (begun (q + 2) i 2 long (omega arith) c.step_message-3.ensures) (ended (q + 2) i 2 long (omega arith) c.step_message-3.ensures))
    (chain-secret _ (q + 3) i i _ _ _ _ refl (begun (q + 3) i 3 long (omega arith) c.step_message-4.ensures) (ended (q + 3) i 3 long (omega arith) c.step_message-4.ensures))
