use Rattle.std.proofs.Common.{◌<◌, ◌≤◌, List, Option, length, ap, subst, sym, ◌∙◌, arith}
use Rattle.std.specs.Prelude.{map}
use Rattle.std.proofs.lemmas.List.{drop_all}
use Rattle.cp_statements.specs.View.{envelope_view}
use Rattle.cp_statements.specs.declared.envelope.Envelope.{Envelope}
use Rattle.cp_chain.specs.Rules.{first_of}
use Rattle.cp_evidence.specs.Evidence.{Evidence}
use Rattle.cp_evidence.specs.Verdict.{other_closing}
use Rattle.cp_audit.specs.Given.{given_view}
use Rattle.cp_audit.proofs.RowLemmas.{WritesOut, row_at, map_map}
use Rattle.cp_audit.proofs.beside.another_closing.Goals as goal

pub returns-in-Some : goal.returns-in-Some
returns-in-Some c =
    let o = given_view c.args.o.now in
    let row : Envelope → Option Evidence = λ x. other_closing o (envelope_view x) in
    let xs = c.args.xs.now in
    let lt : c.loop-x.x-index < length xs = omega (arith, c.loop-x-test.true) in
    let found = row_at row xs c.loop-x.x-index _ _ _ c.write_k3.new.out lt c.loop-x.invariant c.in-Some.ensures c.in_ok-write_k3.ensures.written c.new-out.ensures.items tt in
    subst (λ (r : Option Evidence). WritesOut r c.write_k3.new.out) (sym (ap first_of (map_map (other_closing o) envelope_view xs))) found

pub returns : goal.returns
returns c =
    let o = given_view c.args.o.now in
    let row : Envelope → Option Evidence = λ x. other_closing o (envelope_view x) in
    let xs = c.args.xs.now in
    let past : length xs ≤ c.loop-x.x-index = omega (arith, c.loop-x-test.false) in
    ap first_of (map_map (other_closing o) envelope_view xs) ∙ c.loop-x.invariant ∙ ap (λ (l : List Envelope). first_of (map row l)) (drop_all c.loop-x.x-index xs past)
