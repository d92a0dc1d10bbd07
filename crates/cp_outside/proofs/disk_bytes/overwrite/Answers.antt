use Rattle.std.proofs.Common.{◌∙◌, ◌+◌, ◌-◌, ◌++◌, ℕ, List, length, take, drop, replicate, ap, arith}
use Rattle.std.proofs.lemmas.Grind.{common_steps}
use Rattle.cp_outside.proofs.OverwriteLemmas.{over_grown, whole_back}
use Rattle.cp_outside.proofs.disk_bytes.overwrite.Goals as goal

pub returns-clause-items : goal.returns-clause-items
returns-clause-items c =
    whole_back c.grow.new.content.len c.grow.new.content.items c.put.new.bytes
    (omega (arith, c.put.auto.bytes, ap length c.deref_mut.ensures.value, c.grow.new.content.ok.0)) (omega (arith, c.grow.new.content.ok.0))
    ∙ over_grown c.args.at c.args.bytes.now c.args.content.now.items c.grow.new.content.items c.put.new.bytes (let e = c.is_empty.ensures in let f = c.if-is_empty.false in grind (arith, common_steps))
    (c.in_ok-grow.ensures.items ∙ ap (λ (n : ℕ). c.args.content.now.items ++ replicate (c.args.at + length c.args.bytes.now - n) 0) c.args.content.now.ok.0)
    (c.put.ensures ∙ ap (λ (l : List ℕ). take c.args.at l ++ c.args.bytes.now ++ drop (c.args.at + length c.args.bytes.now) l) c.deref_mut.ensures.value)
