use Rattle.std.proofs.Common.{◌∙◌, ℕ, ap, drop}
use Rattle.std.proofs.lemmas.List.{drop_more}
use Rattle.cp_outside.proofs.MemDiskLemmas.{rest_on, loop_on}
use Rattle.cp_outside.proofs.tearing.torn_image.Goals as goal

pub loop-call-preserved : goal.loop-call-preserved
loop-call-preserved c = record {
  rest = rest_on c.args.calls.now c.loop-call.call-index _ c.loop-call.rest.now c.split_at.result.1.now (drop_more c.args.calls.now c.loop-call.call-index _ c.loop-call-test.true)
      (c.split_at.ensures.back ∙ ap (λ (n : ℕ). drop n c.loop-call.rest.now) c.in_ok-size.ensures.size) c.loop-call.invariant.rest;
  images = λ image left. c.loop-call.invariant.images image
      (loop_on c.args.calls.now c.loop-call.call-index _ c.loop-call.content.items c.loop-call.image.items c.replay.new.content.items c.replay.new.image.items c.loop-call.rest.now c.split_at.result.1.now image
      (drop_more c.args.calls.now c.loop-call.call-index _ c.loop-call-test.true) c.in_ok-size.ensures.content c.in_ok-size.ensures.image
      (c.split_at.ensures.back ∙ ap (λ (n : ℕ). drop n c.loop-call.rest.now) c.in_ok-size.ensures.size) left);
}
