use Rattle.std.proofs.Common.{◌∙◌}
use Rattle.cp_chain.specs.View.{fault_view, frame_view, put_view}
use Rattle.cp_chain.proofs.Going.{gone_none, gone_one, gone_stops, gone_ends}
use Rattle.cp_chain.proofs.first.find_fault.Goals as goal

pub loop-text-init : goal.loop-text-init
loop-text-init c = record {
  gone = gone_none (frame_view c.args.frame.now) c.args.segment.now _ _ (c.into_iter-text-iterator.ensures.into_iter_gives ∙ c.texts-text-items.ensures) c.at.ensures;
  nonces = tt;
}

pub loop-text-preserved : goal.loop-text-preserved
loop-text-preserved c = record {
  gone = gone_one (frame_view c.args.frame.now) c.args.segment.now c.loop-text.place _ c.next.new.self c.in-Some.text.now (put_view c.loop-text.passed.put) _ c.loop-text.invariant.gone c.in-Some.ensures.steps c.in-Ok.ensures.0 c.in-Ok.ensures.1;
  nonces = c.in-Ok.ensures.2;
}

pub returns-in-Err : goal.returns-in-Err
returns-in-Err c = gone_stops (frame_view c.args.frame.now) c.args.segment.now c.loop-text.place _ _ (fault_view c.in-Err.fault) c.loop-text.invariant.gone c.in-Err.ensures

pub returns : goal.returns
returns c = c.end_fault.ensures ∙ gone_ends (frame_view c.args.frame.now) c.args.segment.now c.loop-text.place _ (put_view c.loop-text.passed.put) c.from-end.result c.loop-text.invariant.gone c.in-None.ensures.steps.0 (c.from-end.ensures ∙ c.count.ensures)
