use Rattle.std.proofs.Common.{refl, sym, subst, arith, rules}
use Rattle.cp_store.specs.Running.{IsOpen}
use Rattle.cp_store.proofs.plain.Plain.open.Goals as goal

pub invariant_of-result : goal.invariant_of-result
invariant_of-result c =
    subst IsOpen (sym c.in_ok-core.ensures)
    (record { running = (1, refl); fits = record { id = search rules; leaves = omega (arith, c.requires.leaves); list = c.requires.families }; few = record { leaves = c.requires.leaves; few = c.requires.few } })
