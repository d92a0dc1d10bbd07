use Rattle.std.proofs.Common.{rules, arith, IsTrue, sym, ap, ◌∙◌}
use Rattle.atomic_table.proofs.Lists.{at_index}
use Rattle.cp_bulletin.specs.Texts.{arc_contents, contents_of}
use Rattle.cp_bulletin.proofs.Steps.{agree_known, agree_next, starts_agree}
use Rattle.cp_bulletin.proofs.board.begins.Goals as goal

pub loop-i-init : goal.loop-i-init
loop-i-init c = (omega arith, agree_known arc_contents c.args.list.now c.args.texts.now c.args.met c.requires.1)

pub loop-i-preserved : goal.loop-i-preserved
loop-i-preserved c = let low = c.loop-i-test.true in let le = c.if-texts-list.false in
    let a = at_index c.args.list.now c.loop-i.i c.index-list-i.result (omega (arith, low)) c.index-list-i.is in
    let b = at_index c.args.texts.now c.loop-i.i c.index-texts-i.result (omega (arith, low, le)) c.index-texts-i.is in
    let yes : IsTrue c.says_as.result = search rules in
    let met = c.loop-i.invariant.0 in (omega (arith, met), agree_next arc_contents c.args.list.now c.args.texts.now c.loop-i.i _ _ a b (ap contents_of (sym c.deref.ensures) ∙ (c.says_as.ensures yes ∙ ap contents_of c.deref-in-loop-i.ensures)) c.loop-i.invariant.1)

pub returns : goal.returns
returns c _ = let end = c.loop-i-test.false in let le = c.if-texts-list.false in starts_agree arc_contents c.args.list.now c.args.texts.now (omega (arith, le)) (λ k x y low ex ey. c.loop-i.invariant.1 k x y (omega (arith, low, end)) ex ey)
