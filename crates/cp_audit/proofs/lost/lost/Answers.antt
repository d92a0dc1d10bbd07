use Rattle.std.proofs.Common.{◌<◌, ◌≤◌, List, length, ap, sym, ◌∙◌, arith}
use Rattle.std.specs.Prelude.{map, option_map}
use Rattle.std.specs.List.{find}
use Rattle.std.proofs.lemmas.List.{drop_all}
use Rattle.cp_statements.specs.View.{envelope_view}
use Rattle.cp_statements.specs.declared.envelope.Envelope.{Envelope}
use Rattle.cp_evidence.specs.Verdict.{is_lost, lost_evidence}
use Rattle.cp_audit.specs.Given.{given_view}
use Rattle.cp_audit.proofs.RowLemmas.{found_at, passed_over}
use Rattle.cp_audit.proofs.lost.lost.Goals as goal

pub returns-then-is_lost : goal.returns-then-is_lost
returns-then-is_lost c =
    let o = given_view c.args.o.now in
    let xs = c.args.xs.now in
    let lt : c.loop-x.x-index < length xs = omega (arith, c.loop-x-test.true) in
    found_at (lost_evidence o) (is_lost o) xs c.loop-x.x-index _ c.in_ok-written.written lt c.loop-x.invariant (sym c.is_lost.ensures ∙ c.if-is_lost.true) c.in_ok-written.ensures

pub loop-x-preserved : goal.loop-x-preserved
loop-x-preserved c =
    let o = given_view c.args.o.now in
    let xs = c.args.xs.now in
    let lt : c.loop-x.x-index < length xs = omega (arith, c.loop-x-test.true) in
    c.loop-x.invariant ∙ passed_over (is_lost o) xs c.loop-x.x-index _ lt (sym c.is_lost.ensures ∙ c.if-is_lost.false)

pub returns : goal.returns
returns c =
    let o = given_view c.args.o.now in
    let xs = c.args.xs.now in
    let past : length xs ≤ c.loop-x.x-index = omega (arith, c.loop-x-test.false) in
    ap (option_map (lost_evidence o)) (c.loop-x.invariant ∙ ap (λ (l : List Envelope). find (is_lost o) (map envelope_view l)) (drop_all c.loop-x.x-index xs past))
