use Rattle.std.proofs.Common.{◌≡◌, ◌*◌, ◌∷◌, ◌++◌, [], replicate, arith, length, sym, ap, ◌∙◌}
use mathlib.Core.Option.{some, some-injective}
use lib.ListN.{get_elem?}
use Rattle.std.proofs.lemmas.List.{length-append}
use Rattle.atomic_table.proofs.Lists.{at_index}
use Rattle.cp_gate.proofs.Unloads.{within_list}
use Rattle.cp_gate.proofs.Words.{words_more}
use Rattle.cp_gate.proofs.slots.words_of.Goals as goal

pub overflow_mul-items : goal.overflow_mul-items
overflow_mul-items g c = let at = at_index c.args.values.now c.loop-value.value-index c.value-item.result (omega arith) c.value-item.is in let r = c.requires c.loop-value.value-index c.value-item.result at in
    let e = c.items.ensures c.args._key.now c.loop-value.value-index r.0 in let b = r.1 in record { fits = omega (arith, e, b) }

pub loop-value-preserved : goal.loop-value-preserved
loop-value-preserved g c = let i = c.loop-value.invariant in let at = at_index c.args.values.now c.loop-value.value-index c.value-item.result (omega arith) c.value-item.is in let r = c.requires c.loop-value.value-index c.value-item.result at in
    let e = c.items.ensures c.args._key.now c.loop-value.value-index r.0 in let more = c.in_ok-extend_from_slice.ensures.items ∙ ap (λ l. l ++ replicate 15 0) c.in_ok-push.ensures.items in (
      (let l = ap (λ l. length l) more in let i0 = i.0 in omega (arith, l, i0, length-append (c.loop-value.words.items ++ (2 * c.items.result) ∷ []) (replicate 15 0), length-append c.loop-value.words.items ((2 * c.items.result) ∷ []))),
      λ p x low at_p. words_more _ _ c.loop-value.value-index (2 * c.items.result) (λ p n. (x : _) → get_elem? c.args.values.now p ≡ some x → n ≡ 2 * length (g.T.StandsFor.history c.args._key.now p x)) i.0 more (λ p l x h. i.1 p x l h)
          (λ x h. ap (λ n. 2 * n) (sym e) ∙ ap (λ z. 2 * length (g.T.StandsFor.history c.args._key.now c.loop-value.value-index z)) (some-injective _ _ (sym at ∙ h))) p low x at_p,
    )

pub returns : goal.returns
returns g c = let i = c.loop-value.invariant in ((let i0 = i.0 in omega (arith, i0)), λ p x e. let l = within_list _ p x e in i.1 p x (omega (arith, l)) e)
