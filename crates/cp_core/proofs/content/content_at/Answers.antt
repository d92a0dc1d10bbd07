use Rattle.std.proofs.Common.{cond, nat_eq, refl, sym, ap, ◌∙◌}
use Rattle.cp_core.specs.Calls.{content_at}
use Rattle.cp_core.proofs.ContentLemmas.{content_more}
use Rattle.cp_core.proofs.content.content_at.Goals as goal

pub loop-content-init : goal.loop-content-init
unfolding content_at
loop-content-init c = refl

pub loop-content-preserved : goal.loop-content-preserved
loop-content-preserved c =
    c.newer-found.ensures ∙ ap (cond (nat_eq c.content-item.result.block c.args.block) c.content-item.result.bytes) c.loop-content.invariant
    ∙ sym (content_more c.args.contents.now c.loop-content.content-index c.content-item.result c.args.block c.content-item.is c.loop-content-test.true)
