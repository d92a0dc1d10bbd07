use Rattle.std.proofs.Common.{◌≡◌, ◌*◌, ◌-◌, ◌<◌, length, take, drop, ap, arith, add-one}
use Rattle.cp_pages.specs.Pages.{pages_for}
use Rattle.cp_pages.proofs.Chains.{written_more}
use Rattle.cp_pages.proofs.chain.write.Goals as goal

pub loop-i-preserved : goal.loop-i-preserved
loop-i-preserved c =
    let more : c.loop-i.i < pages_for (length c.args.content.now) = omega arith in
    let start : c.loop-i.i * 1024 ≡ 1024 * c.loop-i.i = omega arith in
    rw add-one (written_more c.args.pages.now c.loop-i.pages c.args.next.now c.args.first c.args.content.now c.loop-i.i
    c.loop-i.page (c.min-end.result - c.loop-i.i * 1024) _ c.write_front.new.page c.loop-i.invariant
    (omega arith) c.requires.inside c.requires.apart more (omega arith)
    (ap (λ k. take (c.min-end.result - c.loop-i.i * 1024) (drop k c.args.content.now)) start) c.write_front.ensures)
