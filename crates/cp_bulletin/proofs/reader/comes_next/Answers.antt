use Rattle.std.proofs.Common.{rules, arith, ap, ◌∙◌}
use Rattle.atomic_table.proofs.Lists.{at_index}
use Rattle.cp_bulletin.specs.Texts.{arc_contents, contents_of}
use Rattle.cp_bulletin.proofs.Steps.{next_word}
use Rattle.cp_bulletin.proofs.reader.comes_next.Goals as goal

pub returns-then-next-texts : goal.returns-then-next-texts
returns-then-next-texts c same = let low = c.if-next-texts.true in let n = c.len-next.ensures in
    let at = at_index c.args.texts.now c.len-next.result c.index-texts-next.result (omega (arith, low)) c.index-texts-next.is in
    next_word arc_contents c.args.texts.now c.args.list.now.items _ (contents_of c.args.text.now) c.len-next.result (search rules) at (c.says_as.ensures same ∙ ap contents_of c.deref.ensures) c.requires
