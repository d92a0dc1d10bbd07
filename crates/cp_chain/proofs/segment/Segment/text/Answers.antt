use Rattle.std.proofs.Common.{◌≡◌, ℕ, List, [], Bor, ap, ◌∙◌, arith}
use Rattle.cp_chain.proofs.Cursors.{steps_on, given_at}
use Rattle.cp_chain.proofs.segment.Segment.text.Goals as goal

pub loop-preserved : goal.loop-preserved
loop-preserved c = steps_on c.args.self.now c.loop.texts c.next.new.self c.loop.counter c.next.result c.next.ensures.steps c.loop.invariant

pub returns : goal.returns
returns c =
    let same : c.loop.counter ≡ c.args.i = omega arith in
    ap (λ (x : Bor (List ℕ)). x.now) c.unwrap_or.ensures ∙ given_at c.args.self.now c.loop.texts c.next-2.new.self c.args.i c.loop.counter [] c.next-2.result _ c.next-2.ensures.steps c.loop.invariant same c.requires
