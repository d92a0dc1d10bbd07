use Rattle.std.proofs.Common.{◌≡◌, ◌∙◌, ◌<◌, [], length, slice_index_or, sym, arith}
use Rattle.lms_ots.specs.Signing.{secret_start}
use Rattle.lms_ots.proofs.Types.{few_chains}
use Rattle.lms_ots.proofs.SideBySide.{chain_done}
use Rattle.lms_ots.proofs.lanes.put_signed.Goals as goal

pub run-requires-clause-within : goal.run-requires-clause-within
run-requires-clause-within c = λ i lt.
    let few = few_chains c.args.t in
    omega (arith, c.all_at-at.ensures i (omega (arith, few, c.chains_from_secret.auto.values)))

pub returns : goal.returns
returns c = λ i lt.
    let id = c.args.id.now in
    let secret = c.args.secret.now in
    let few = few_chains c.args.t in
    let within : i < length c.chains_from_secret.new.values = omega (arith, c.chains_from_secret.auto.values) in
    let start : slice_index_or c.chains_from_secret.new.values i [] ≡ secret_start id c.args.q i secret
    = c.chains_from_secret.ensures i (omega arith) ∙ sym (chain_done id c.args.q i 0 0 _ (omega arith)) in
    let zero = c.all_at-at.ensures i (omega (arith, few)) in
    let top = c.digits_of-to.ensures i lt in
    cc (c.run.ensures i within, start, zero, top)
