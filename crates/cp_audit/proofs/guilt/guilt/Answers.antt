use Rattle.std.proofs.Common.{◌≡◌, None, Option, subst, sym}
use Rattle.std.specs.Prelude.{map}
use Rattle.cp_statements.specs.View.{envelope_view}
use Rattle.cp_chain.specs.Rules.{first_of, or_else}
use Rattle.cp_evidence.specs.Evidence.{Evidence}
use Rattle.cp_evidence.specs.Verdict.{by_one, by_two, by_tables, by_log}
use Rattle.cp_audit.specs.Given.{given_view}
use Rattle.cp_audit.specs.Rows.{Writes}
use Rattle.cp_audit.proofs.GuiltLemmas.{here, there, grouped}
use Rattle.cp_audit.proofs.RowLemmas.{WritesOut}
use Rattle.cp_audit.proofs.guilt.guilt.Goals as goal

pub returns-in-Some-3 : goal.returns-in-Some-3
returns-in-Some-3 c =
    let o = given_view c.args.o.now in
    let xs = map envelope_view c.args.xs.now in
    let one : first_of (by_one o xs) ≡ None = rw c.in_default.is at c.in_ok-found.ensures in
    let two : first_of (by_two o xs) ≡ None = rw c.in_default-2.is at c.in_ok-found-2.ensures in
    let three : WritesOut (first_of (by_tables o)) c.in-Some-3.found = rw c.in-Some-3.is at c.in_ok-found-3.ensures in
    let found : WritesOut (or_else (first_of (by_one o xs)) (or_else (first_of (by_two o xs)) (or_else (first_of (by_tables o)) (first_of (by_log o xs))))) c.in-Some-3.found = rw (one, two) (here (first_of (by_tables o)) (first_of (by_log o xs)) c.in-Some-3.found three) in
    subst (λ (r : Option Evidence). WritesOut r c.in-Some-3.found) (sym (grouped o xs)) found

pub returns : goal.returns
returns c =
    let o = given_view c.args.o.now in
    let xs = map envelope_view c.args.xs.now in
    let one : first_of (by_one o xs) ≡ None = rw c.in_default.is at c.in_ok-found.ensures in
    let two : first_of (by_two o xs) ≡ None = rw c.in_default-2.is at c.in_ok-found-2.ensures in
    let three : first_of (by_tables o) ≡ None = rw c.in_default-3.is at c.in_ok-found-3.ensures in
    let found = there _ _ c.by_log.result one (there _ _ c.by_log.result two (there _ _ c.by_log.result three c.by_log.ensures)) in
    subst (λ (r : Option Evidence). Writes r c.by_log.result) (sym (grouped o xs)) found
