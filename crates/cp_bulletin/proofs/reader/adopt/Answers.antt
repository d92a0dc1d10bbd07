use Rattle.std.proofs.Common.{◌∷◌, [], length, arith, sym, ap, ◌∙◌, subst}
use Rattle.std.proofs.lemmas.List.{length-append}
use Rattle.atomic_table.proofs.Lists.{at_index}
use Rattle.cp_bulletin.specs.Texts.{texts_of, arc_contents, contents_of, StartsWith}
use Rattle.cp_bulletin.proofs.Steps.{next_of, starts_more, map_snoc}
use Rattle.cp_bulletin.proofs.reader.adopt.Goals as goal

pub loop-i-preserved : goal.loop-i-preserved
loop-i-preserved c = let i = c.loop-i.invariant in let more = c.in_ok-push.ensures.items in let low = c.loop-i-test.true in let a = c.in_ok-try_clone.field-0 in
    let at = at_index c.args.texts.now c.loop-i.i c.index-texts-i.result (omega (arith, low)) c.index-texts-i.is in (
      (let e = ap (λ l. length l) more in let i0 = i.0 in omega (arith, e, i0, length-append c.loop-i.list.items (a ∷ []))),
      subst (λ l. StartsWith (texts_of c.args.texts.now) (texts_of l)) (sym more) (next_of arc_contents c.args.texts.now c.loop-i.list.items c.index-texts-i.result a c.loop-i.i i.0 at (ap contents_of c.in_ok-try_clone.ensures) i.1),
      starts_more _ _ _ i.2 (arc_contents a ∷ [], ap texts_of more ∙ map_snoc arc_contents c.loop-i.list.items a),
    )
