use Rattle.std.proofs.Common.{◌∷◌, [], take, sym, ap, ◌∙◌}
use Rattle.cp_chain.specs.Legal.{Put, latest}
use Rattle.cp_chain.specs.View.{put_view}
use Rattle.cp_chain.proofs.Chain.{latest-append, latest-one, latest_nil}
use Rattle.cp_chain.proofs.Cursors.{take_turn, take_over}
use Rattle.cp_chain.proofs.put.Put.latest.Goals as goal

pub loop-text-preserved : goal.loop-text-preserved
loop-text-preserved c =
    let more = take c.next.new.self.n c.next.new.self.iter in
    let left = take_turn c.loop-text.text-iterator.n c.next.new.self.n c.loop-text.text-iterator.iter c.next.new.self.iter c.in-Some.text.now c.in-Some.ensures.steps.0 c.in-Some.ensures.steps.1 in
    ap (λ (p : Put). latest p more) (c.behind-latest.ensures ∙ sym (latest-one (put_view c.loop-text.latest) c.in-Some.text.now)) ∙ sym (latest-append (put_view c.loop-text.latest) (c.in-Some.text.now ∷ []) more) ∙ ap (latest (put_view c.loop-text.latest)) (sym left) ∙ c.loop-text.invariant

pub returns : goal.returns
returns c =
    let none = take_over c.loop-text.text-iterator.n c.loop-text.text-iterator.iter (λ some. (c.in-None.ensures.steps some).0) in
    sym (latest_nil (put_view c.loop-text.latest)) ∙ ap (latest (put_view c.loop-text.latest)) (sym none) ∙ c.loop-text.invariant
