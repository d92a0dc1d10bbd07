use Rattle.std.proofs.Common.{◌<◌, length, sym, ◌∙◌, arith}
use Rattle.cp_audit.proofs.WalkLemmas.{count_there, count_absent}
use Rattle.cp_audit.proofs.walk.count_at_place.Goals as goal

pub returns-then-place-count : goal.returns-then-place-count
returns-then-place-count c =
    sym (count_absent c.args.table.now c.args.block c.args.place c.requires.up c.requires.place (λ lt is. omega (arith, lt, c.if-place-count.true, c.count.ensures)))

pub returns-then-block : goal.returns-then-block
returns-then-block c =
    let lt : c.args.place < length c.args.table.now = omega (arith, c.requires.place.within, c.if-place-count.false, c.count.ensures) in
    c.count_at.ensures ∙ sym (count_there c.args.table.now c.args.block c.args.place c.requires.up lt (sym c.block.ensures ∙ c.if-block.true))

pub returns : goal.returns
returns c =
    sym (count_absent c.args.table.now c.args.block c.args.place c.requires.up c.requires.place (λ lt is. c.if-block.false (c.block.ensures ∙ is)))
