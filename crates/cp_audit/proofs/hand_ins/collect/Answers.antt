use Rattle.std.proofs.Common.{◌≡◌, ℕ, [], List, subst, ◌∙◌}
use Rattle.std.specs.Prelude.{map}
use Rattle.cp_statements.specs.View.{envelope_view}
use Rattle.cp_evidence.specs.Conditions.{signed_by}
use Rattle.cp_audit.proofs.HandInLemmas.{SoFar, step, all_read, refused, envelope_left}
use Rattle.cp_audit.proofs.ViewLemmas.{view_kept, went_well, not_empty, is_empty}
use Rattle.cp_audit.proofs.hand_ins.collect.Goals as goal

pub returns-in-Err : goal.returns-in-Err
returns-in-Err c =
    let some = not_empty c.rest.result.now c.loop-cut.cut.rest c.is_empty.result c.rest.ensures c.is_empty.ensures c.loop-cut-test.true in
    refused c.args.store.now.key c.args.bytes.now c.loop-cut.cut.rest c.loop-cut.count _ c.loop-cut.cut.total c.in-Err.short.at c.loop-cut.invariant.so_far some c.loop-cut.invariant.whole c.in-Err.ensures.0 c.in-Err.ensures.1

pub loop-cut-smaller : goal.loop-cut-smaller
loop-cut-smaller c = envelope_left c.loop-cut.cut.rest (envelope_view c.in-Ok.x, c.take.new.cut.rest) c.in-Ok.ensures.0

pub loop-cut-preserved : goal.loop-cut-preserved
loop-cut-preserved c =
    let some = not_empty c.rest.result.now c.loop-cut.cut.rest c.is_empty.result c.rest.ensures c.is_empty.ensures c.loop-cut-test.true in
    let kept = went_well c.keep.result c.is_err.result c.is_err.ensures.value c.if-is_err.false c.keep.ensures in
    let seen = view_kept (signed_by c.args.store.now.key (envelope_view c.in-Ok.x)) c.keep.new.verified.items c.loop-cut.verified.items c.in-Ok.x kept in
    record {
      whole = c.in-Ok.ensures.1 ∙ c.loop-cut.invariant.whole;
      so_far = step c.args.store.now.key c.args.bytes.now c.loop-cut.cut.rest c.take.new.cut.rest c.loop-cut.count _ _ (envelope_view c.in-Ok.x) c.loop-cut.invariant.so_far some c.in-Ok.ensures.0 seen;
    }

pub returns : goal.returns
returns c =
    let done : c.loop-cut.cut.rest ≡ [] = is_empty c.rest.result.now c.loop-cut.cut.rest c.is_empty.result c.rest.ensures c.is_empty.ensures c.loop-cut-test.false in
    let so : SoFar c.args.store.now.key c.args.bytes.now [] c.loop-cut.count (map envelope_view c.loop-cut.verified.items) = subst (λ (r : List ℕ). SoFar c.args.store.now.key c.args.bytes.now r c.loop-cut.count (map envelope_view c.loop-cut.verified.items)) done c.loop-cut.invariant.so_far in
    (so.front, all_read c.args.store.now.key c.args.bytes.now c.loop-cut.count _ so, record { count = so.many; verified = so.kept })
