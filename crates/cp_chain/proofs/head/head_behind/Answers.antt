use Rattle.std.proofs.Common.{ℕ, List, take, sym, ap, ◌∙◌}
use Rattle.cp_bytes.specs.Hashes.{head_after}
use Rattle.cp_chain.proofs.Cursors.{take_turn}
use Rattle.cp_chain.proofs.head.head_behind.Goals as goal

pub loop-text-preserved : goal.loop-text-preserved
loop-text-preserved c =
    let left = take_turn c.loop-text.text-iterator.n c.next.new.self.n c.loop-text.text-iterator.iter c.next.new.self.iter c.in-Some.text.now c.in-Some.ensures.steps.0 c.in-Some.ensures.steps.1 in
    ap (λ (h : List ℕ). head_after h (take c.next.new.self.n c.next.new.self.iter)) c.head-last.ensures ∙ ap (head_after c.loop-text.last) (sym left) ∙ c.loop-text.invariant
