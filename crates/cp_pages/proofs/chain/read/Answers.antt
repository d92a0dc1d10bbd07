use Rattle.std.proofs.Common.{◌≡◌, ◌*◌, ◌-◌, ◌<◌, length, take, ap, ◌∙◌, arith, add-one}
use Rattle.cp_pages.specs.Chain.{page_at}
use Rattle.cp_pages.specs.Pages.{pages_for}
use Rattle.cp_pages.proofs.Chains.{read_more}
use Rattle.cp_pages.proofs.chain.read.Goals as goal

pub loop-i-preserved : goal.loop-i-preserved
loop-i-preserved c =
    let more : c.loop-i.i < pages_for (length c.loop-i.out) = omega arith in
    let start : c.loop-i.i * 1024 ≡ 1024 * c.loop-i.i = omega arith in
    let piece = c.copy_from_slice.ensures.after ∙ ap (λ k. take (c.min-end.result - k) (page_at c.args.pages.now c.loop-i.page)) start in
    rw (add-one, start) (read_more c.args.pages.now c.args.next.now c.args.first c.loop-i.out c.loop-i.i c.loop-i.page
    (c.min-end.result - 1024 * c.loop-i.i) c.copy_from_slice.new.self c.loop-i.invariant c.requires.pages c.requires.whole
    (λ i h. c.requires.inside i (omega arith)) more (omega arith) piece)
