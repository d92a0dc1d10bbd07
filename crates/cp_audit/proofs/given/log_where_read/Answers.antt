use Rattle.std.proofs.Common.{ap, sym, ◌∙◌}
use Rattle.cp_tips.specs.Table.{ascends}
use Rattle.std.specs.Result.{result_ok}
use Rattle.cp_chain.specs.Log.{log_of}
use Rattle.cp_evidence.specs.Material.{before_in, rows_in_table, log_given, frame_between}
use Rattle.cp_evidence.specs.View.{before_view, signed_closing_view}
use Rattle.cp_audit.specs.View.{material_view}
use Rattle.cp_audit.proofs.TableLemmas.{formed_ascends, formed_before_ascends}
use Rattle.cp_audit.proofs.GivenLemmas.{none_found, same_refusal, read_between}
use Rattle.cp_audit.proofs.given.log_where_read.Goals as goal

pub invariant_of-frames : goal.invariant_of-frames
invariant_of-frames c = record {
  before_ascends = ap ascends c.table_in.ensures ∙ formed_before_ascends c.args.m.now.table_before.now (before_in (before_view c.args.before.now)) (sym c.is_formed_before.ensures ∙ c.if-not-is_formed_before.false);
  after_ascends = ap ascends c.table_in-2.ensures ∙ formed_ascends c.args.m.now.table.now (signed_closing_view c.args.closing.now).closing (sym c.is_formed.ensures ∙ c.if-not-is_formed.false);
}

pub returns-in-Err : goal.returns-in-Err
returns-in-Err c =
    let m = material_view c.args.m.now in
    let none = none_found c.went_back.result c.is_some.result c.table_in.result c.table_in-2.result (rows_in_table m.table_before) (rows_in_table m.table) c.is_some.ensures c.if-is_some.false c.went_back.ensures c.table_in.ensures c.table_in-2.ensures in
    let between = read_between (λ families before after. log_given m.epoch (frame_between c.args.store.now.id families m.epoch before after) before after (result_ok (log_of m.log))) c.args.families.now c.copy.result (rows_in_table m.table_before) c.table_in.result (rows_in_table m.table) c.table_in-2.result
    _ _ _ c.copy.ensures c.table_in.ensures c.table_in-2.ensures (sym c.is_formed_before.ensures ∙ c.if-not-is_formed_before.false) (sym c.is_formed.ensures ∙ c.if-not-is_formed.false) none in
    same_refusal _ _ c.in-Err.refusal between c.in-Err.ensures
