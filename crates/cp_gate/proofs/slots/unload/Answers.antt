use Rattle.std.proofs.Common.{rules, arith, sym, ap, ◌∙◌}
use mathlib.Core.Option.{some}
use Rattle.std.proofs.lemmas.Grind.{common_steps}
use Rattle.cp_gate.proofs.Unloads.{within_list, is_there, one_more}
use Rattle.cp_gate.proofs.slots.unload.Goals as goal

pub unwrap-value-requires : goal.unwrap-value-requires
unwrap-value-requires g c = is_there _ _ _ _ _ c.loop-i.invariant.0 (c.requires.values c.loop-i.i (omega arith)) (c.take.ensures.value ∙ ap some (sym c.into_held.ensures))

pub loop-i-preserved : goal.loop-i-preserved
loop-i-preserved g c = let i = c.loop-i.invariant in let t = c.take.ensures.others in (
  t.0 ∙ i.0,
  t.2 ∙ i.1,
  (first_of (search rules, grind (arith, common_steps))),
  (first_of (search rules, grind (arith, common_steps))),
  (first_of (search rules, grind (arith, common_steps))),
  (first_of (search rules, grind (arith, common_steps))),
  (first_of (search rules, grind (arith, common_steps))),
  one_more _ _ _ _ _ c.loop-i.i c.into_held.result _ i.5 c.push_reserved.ensures.items (c.take.ensures.value ∙ ap some (sym c.into_held.ensures)) c.unwrap-value.ensures t.0 i.7,
)

pub returns-clause-values : goal.returns-clause-values
returns-clause-values g c p x e = let i = c.loop-i.invariant in let l = within_list _ p _ e in i.7 p x (omega (arith, l)) (ap (λ l. lib.ListN.get_elem? l p) i.0 ∙ e)
