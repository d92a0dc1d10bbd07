use Rattle.std.proofs.Common.{ap, arith, ◌<◌, length, Some}
use Rattle.std.specs.Ordering.{nat_cmp}
use Rattle.cp_audit.specs.Firsts.{kept_in, leaf_key, same_by}
use Rattle.cp_audit.proofs.KeyLemmas.{leaf_laws}
use Rattle.cp_audit.proofs.PassLemmas.{pass_goes_on, pass_stops}
use Rattle.cp_audit.proofs.clash.leaf_clash.Goals as goal

pub returns-in-Some-clause-found : goal.returns-in-Some-clause-found
returns-in-Some-clause-found c = λ earlier keeps.
    let lt : c.loop-x.x-index < length c.args.xs.now = omega (arith, c.loop-x-test.true) in
    pass_stops (same_by nat_cmp) leaf_laws leaf_key earlier c.args.xs.now c.loop-x.x-index (kept_in nat_cmp c.loop-x.firsts) (c.loop-x.invariant earlier keeps) _ _ c.in-Some.first _ lt (ap Some c.leaf.ensures) c.in-Some.is c.in_ok-first.ensures.found

pub loop-x-preserved : goal.loop-x-preserved
loop-x-preserved c = λ earlier keeps.
    let lt : c.loop-x.x-index < length c.args.xs.now = omega (arith, c.loop-x-test.true) in
    pass_goes_on (same_by nat_cmp) leaf_laws leaf_key earlier c.args.xs.now c.loop-x.x-index (kept_in nat_cmp c.loop-x.firsts) (c.loop-x.invariant earlier keeps) _ _ _ _ lt (ap Some c.leaf.ensures) c.in_default.is c.in_ok-first.ensures.found c.in_ok-first.ensures.kept
