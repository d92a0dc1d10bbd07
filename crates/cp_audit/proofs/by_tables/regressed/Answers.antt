use Rattle.std.proofs.Common.{ap, ◌∙◌}
use Rattle.cp_tips.specs.Table.{ascends}
use Rattle.cp_evidence.specs.Material.{before_in}
use Rattle.cp_evidence.specs.View.{before_view, signed_closing_view}
use Rattle.cp_audit.proofs.TableLemmas.{formed_ascends, formed_before_ascends}
use Rattle.cp_audit.proofs.by_tables.regressed.Goals as goal

pub went_back-requires-clause-before : goal.went_back-requires-clause-before
went_back-requires-clause-before c = ap ascends c.table_in-before.ensures ∙ formed_before_ascends c.args.o.now.table_before.now (before_in (before_view c.args.o.now.before)) c.requires.before

pub went_back-requires-clause-after : goal.went_back-requires-clause-after
went_back-requires-clause-after c = ap ascends c.table_in-after.ensures ∙ formed_ascends c.args.o.now.table.now (signed_closing_view c.args.o.now.closing).closing c.requires.after
