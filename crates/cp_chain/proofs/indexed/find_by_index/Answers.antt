use Rattle.std.proofs.Common.{◌∙◌, [], Some, None, sym}
use Rattle.cp_statements.specs.View.{entry_view}
use Rattle.cp_chain.specs.Legal.{put_at}
use Rattle.cp_chain.specs.View.{fault_view, frame_view, put_view}
use Rattle.cp_chain.proofs.Cursors.{turn}
use Rattle.cp_chain.proofs.Going.{gone_none, gone_one, gone_stops, gone_ends}
use Rattle.cp_chain.proofs.Indexes.{call_of, index_none, index_more}
use Rattle.cp_chain.proofs.Passes.{at_fault_alone, at_sound, put_behind}
use Rattle.cp_chain.proofs.indexed.find_by_index.Goals as goal

pub loop-text-init : goal.loop-text-init
loop-text-init c = record {
  gone = gone_none (frame_view c.args.frame.now) c.args.segment.now _ _ (c.into_iter-text-iterator.ensures.into_iter_gives ∙ c.texts-text-items.ensures) c.at-put.ensures;
  index = index_none c.new-calls.result c.new-calls.ensures.empty;
}

pub loop-text-preserved : goal.loop-text-preserved
loop-text-preserved c =
    let f = frame_view c.args.frame.now in
    let ts = c.args.segment.now in
    let i = c.loop-text.place in
    let e = entry_view c.in-Ok.entry in
    let put = put_view c.loop-text.put in
    let t = turn ts i c.in-Some.text.now c.next.new.self (sym c.loop-text.invariant.gone.left ∙ c.in-Some.ensures.steps) in
    let absent = sym c.in_default.is ∙ c.in_ok-other.ensures.found ∙ c.loop-text.invariant.index (call_of e) in
    record {
      gone = gone_one f ts i _ c.next.new.self c.in-Some.text.now put _ c.loop-text.invariant.gone c.in-Some.ensures.steps
          (at_sound f ts i e c.in-Some.text.now put None t.within (sym (t.here [])) c.in-Ok.ensures.0 c.loop-text.invariant.gone.put c.in-Ok.ensures.1 absent)
          (c.behind_entry-put.ensures ∙ put_behind (put_at f.side.before) put ts i e c.in-Some.text.now t.within (sym (t.here [])) c.in-Ok.ensures.0 c.loop-text.invariant.gone.put);
      index = index_more ts i c.in-Some.text.now e c.loop-text.calls c.earlier_place.new.calls t.within (sym (t.here [])) c.in-Ok.ensures.0 c.loop-text.invariant.index absent (c.in_ok-other.ensures.kept c.in_default.is);
    }

pub returns-in-Err : goal.returns-in-Err
returns-in-Err c =
    let f = frame_view c.args.frame.now in
    let ts = c.args.segment.now in
    let i = c.loop-text.place in
    let put = put_view c.loop-text.put in
    let t = turn ts i c.in-Some.text.now c.next.new.self (sym c.loop-text.invariant.gone.left ∙ c.in-Some.ensures.steps) in
    gone_stops f ts i _ _ (fault_view c.in-Err.fault) c.loop-text.invariant.gone
    (at_fault_alone f ts i c.in-Some.text.now put (fault_view c.in-Err.fault) t.within (sym (t.here [])) c.loop-text.invariant.gone.put c.in-Err.ensures)

pub returns-in-Some-2 : goal.returns-in-Some-2
returns-in-Some-2 c =
    let f = frame_view c.args.frame.now in
    let ts = c.args.segment.now in
    let i = c.loop-text.place in
    let e = entry_view c.in-Ok.entry in
    let put = put_view c.loop-text.put in
    let t = turn ts i c.in-Some.text.now c.next.new.self (sym c.loop-text.invariant.gone.left ∙ c.in-Some.ensures.steps) in
    let again = sym c.in-Some-2.is ∙ c.in_ok-other.ensures.found ∙ c.loop-text.invariant.index (call_of e) in
    gone_stops f ts i _ _ _ c.loop-text.invariant.gone
    (at_sound f ts i e c.in-Some.text.now put (Some c.in-Some-2.other) t.within (sym (t.here [])) c.in-Ok.ensures.0 c.loop-text.invariant.gone.put c.in-Ok.ensures.1 again)

pub returns : goal.returns
returns c = c.end_fault.ensures ∙ gone_ends (frame_view c.args.frame.now) c.args.segment.now c.loop-text.place _ (put_view c.loop-text.put) c.from-end.result c.loop-text.invariant.gone c.in-None.ensures.steps.0 (c.from-end.ensures ∙ c.count.ensures)
