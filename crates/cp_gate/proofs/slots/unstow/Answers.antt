use Rattle.std.proofs.Common.{rules, arith, [], ◌++◌, ◌≡◌, sym, ap, ◌∙◌, subst}
use Rattle.std.specs.Option.{IsSome}
use Rattle.std.proofs.lemmas.Grind.{common_steps}
use Rattle.cp_gate.proofs.Unloads.{is_some_at, all_back}
use Rattle.cp_gate.proofs.slots.unstow.Goals as goal

pub unwrap-requires : goal.unwrap-requires
unwrap-requires g c = subst IsSome (sym c.into_held.ensures) (is_some_at c.pop.new.self.items _ c.in-Some.slot c.loop-slot.slots.items _ (c.pop.ensures.items ∙ ap (λ o. c.pop.new.self.items ++ Rattle.std.specs.Option.option_to_list o) c.in-Some.is) c.loop-slot.invariant.0)

pub returns : goal.returns
returns g c = let none : c.loop-slot.slots.items ≡ [] = first_of (search rules, grind (arith, common_steps)) in
    all_back c.loop-slot.slots.items c.loop-slot.room.items c.reverse.new.self c.args._values.value.items _ none c.loop-slot.invariant.0 (c.reverse.ensures.after ∙ ap (λ l. Rattle.std.proofs.Common.reverse l) c.as_mut_slice.ensures.value) (search rules)
