use Rattle.std.proofs.Common.{◌<◌, length, arith}
use Rattle.lms_ots.specs.Parameters.{chains_of, width_of}
use Rattle.lms_ots.proofs.Signed.{coef-max_digit}
use Rattle.lms_ots.proofs.Types.{few_chains}
use Rattle.lms_ots.proofs.lanes.put_ends.Goals as goal

pub run-requires-clause-within : goal.run-requires-clause-within
run-requires-clause-within c = λ i lt.
    let few = few_chains c.args.t in
    let chain : i < chains_of c.args.t = omega (arith, c.values.auto.values) in
    omega (arith, c.digits_of-at.ensures i chain, c.all_at-to.ensures i (omega (arith, few)), c.max_digit.ensures, coef-max_digit c.args.s.now i (width_of c.args.t))

pub returns : goal.returns
returns c = λ i lt.
    let few = few_chains c.args.t in
    let in_values : i < length c.values.values = omega (arith, c.values.auto.values) in
    cc (c.run.ensures i in_values, c.digits_of-at.ensures i lt, c.all_at-to.ensures i (omega (arith, few)), c.max_digit.ensures, c.values.invariant i (omega arith))
