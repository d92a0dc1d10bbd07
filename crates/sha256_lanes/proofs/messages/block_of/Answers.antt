use Rattle.std.proofs.Common.{◌≡◌, ◌∙◌, ◌+◌, ◌-◌, ◌*◌, ◌/◌, sym, ap, take, drop, length, arith}
use Rattle.sha256_lanes.proofs.BlockLemmas.{block_whole, block_behind}
use Rattle.sha256_lanes.proofs.messages.block_of.Goals as goal

pub returns-then-n-whole : goal.returns-then-n-whole
returns-then-n-whole c =
    let n = c.args.n in
    let width : n * 64 + 64 - n * 64 ≡ 64 = omega arith in
    c.copy_from_slice.ensures.after ∙ ap (λ k. take k (drop (n * 64) c.args.message.now)) width ∙ sym (block_whole c.args.message.now n c.if-n-whole.true)

pub returns-else-n-whole : goal.returns-else-n-whole
returns-else-n-whole c =
    let at = (c.args.n - length c.args.message.now / 64) * 64 in
    let width : at + 64 - at ≡ 64 = omega arith in
    c.copy_from_slice-else-n-whole.ensures.after ∙ ap (λ k. take k (drop at c.args.tail.now)) width
    ∙ sym (block_behind c.args.message.now c.args.tail.now c.args.n (omega arith) c.requires.within c.requires.tail)
