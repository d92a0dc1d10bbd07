use Rattle.std.proofs.Common.{true, false, ap}
use Rattle.std.proofs.lemmas.Bool.{eq-eqb, ne_eqb}
use Rattle.cp_statements.specs.View.{entry_view, kind_byte}
use Rattle.cp_tips.specs.View.{tip_view}
use Rattle.cp_core.proofs.RuleLemmas.{get_overtaken, version_now}
use Rattle.cp_core.proofs.rules.overtaken.Goals as goal

pub returns-then-entry-latest : goal.returns-then-entry-latest
returns-then-entry-latest c =
    let e = entry_view c.args.entry.now in
    get_overtaken c.args.items.now e c.tip_of-latest.result.version true (ap kind_byte c.in-Get.is) (version_now c.args.items.now e.block (tip_view c.tip_of-latest.result) c.tip_of-latest.ensures) (eq-eqb e.version c.tip_of-latest.result.version c.if-entry-latest.true)

pub returns-else-entry-latest : goal.returns-else-entry-latest
returns-else-entry-latest c =
    let e = entry_view c.args.entry.now in
    get_overtaken c.args.items.now e c.tip_of-latest.result.version false (ap kind_byte c.in-Get.is) (version_now c.args.items.now e.block (tip_view c.tip_of-latest.result) c.tip_of-latest.ensures) (ne_eqb e.version c.tip_of-latest.result.version c.if-entry-latest.false)
