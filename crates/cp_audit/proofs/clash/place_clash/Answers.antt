use Rattle.std.proofs.Common.{[], arith, ◌<◌, ◌≤◌, length, ◌∙◌}
use Rattle.std.specs.Prelude.{map}
use Rattle.sha2.specs.Sha256.{sha256}
use Rattle.cp_statements.specs.View.{envelope_view}
use Rattle.cp_audit.specs.Firsts.{kept_in, place_cmp, place_key, same_by}
use Rattle.cp_audit.proofs.KeyLemmas.{place_clash_is, place_laws}
use Rattle.cp_audit.proofs.PassLemmas.{pass_ends, pass_goes_on, pass_stops}
use Rattle.cp_audit.proofs.clash.place_clash.Goals as goal

pub returns-in-Some : goal.returns-in-Some
returns-in-Some c =
    let lt : c.loop-x.x-index < length c.args.xs.now = omega (arith, c.loop-x-test.true) in
    pass_stops (same_by place_cmp) place_laws (place_key (sha256 c.args.store.now.key)) [] c.args.xs.now c.loop-x.x-index (kept_in place_cmp c.loop-x.firsts) c.loop-x.invariant _ _ c.in-Some.first _ lt c.place_of.ensures c.in-Some.is c.in_ok-first.ensures.found
    ∙ place_clash_is (sha256 c.args.store.now.key) [] (map envelope_view c.args.xs.now)

pub loop-x-preserved : goal.loop-x-preserved
loop-x-preserved c =
    let lt : c.loop-x.x-index < length c.args.xs.now = omega (arith, c.loop-x-test.true) in
    pass_goes_on (same_by place_cmp) place_laws (place_key (sha256 c.args.store.now.key)) [] c.args.xs.now c.loop-x.x-index (kept_in place_cmp c.loop-x.firsts) c.loop-x.invariant _ _ _ _ lt c.place_of.ensures c.in_default.is c.in_ok-first.ensures.found c.in_ok-first.ensures.kept

pub returns : goal.returns
returns c =
    let past : length c.args.xs.now ≤ c.loop-x.x-index = omega (arith, c.loop-x-test.false) in
    pass_ends (same_by place_cmp) place_laws (place_key (sha256 c.args.store.now.key)) [] c.args.xs.now c.loop-x.x-index (kept_in place_cmp c.loop-x.firsts) c.loop-x.invariant past
    ∙ place_clash_is (sha256 c.args.store.now.key) [] (map envelope_view c.args.xs.now)
