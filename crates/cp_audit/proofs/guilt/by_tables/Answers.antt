use Rattle.std.proofs.Common.{◌≡◌, None, ap}
use Rattle.cp_evidence.specs.Evidence.Evidence.{K5}
use Rattle.cp_evidence.specs.Material.{envelope_before}
use Rattle.cp_evidence.specs.Verdict.{evidence_if, link_is_wrong}
use Rattle.cp_audit.specs.Given.{given_view, seen}
use Rattle.cp_audit.proofs.GuiltLemmas.{none_by_tables}
use Rattle.cp_audit.proofs.guilt.by_tables.Goals as goal

pub returns-in-Some-log : goal.returns-in-Some-log
returns-in-Some-log c =
    let o = given_view c.args.o.now in
    let link : evidence_if (link_is_wrong o) (K5 (record { x = o.closing.envelope; y = envelope_before o.before })) ≡ None = rw c.in_default.is at c.in_ok-found.ensures in
    none_by_tables o (c.requires _ (ap seen c.in-Some-log.is)) link
