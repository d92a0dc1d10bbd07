use Rattle.std.proofs.Common.{ℕ, List, ◌+◌, ◌≡◌, ◌∙◌, sym, ap, subst, map, arith, rules}
use Rattle.cp_closer.specs.Closer.{opening}
use Rattle.cp_core.specs.Leaves.{numbers_below}
use Rattle.cp_core.specs.Store.{SpellsFamilies}
use Rattle.cp_store.specs.Shards.{blank_shard}
use Rattle.cp_store.specs.declared.sharded.Sharded.TheInside.{Inside}
use Rattle.cp_store.proofs.Opening.{new_sharded}
use Rattle.cp_store.proofs.sharded.Sharded.open.Goals as goal

pub invariant_of-result : goal.invariant_of-result
invariant_of-result c =
    let a : Inside = record { store = c.args.store; families = c.in_ok-families.families; attestations = c.args.attestations; closings = c.args.closings; pages = c.args.pages; shards = c.in_ok-shards.shards; leaves = c.new.result; closer = c.new-closer.result } in
    new_sharded a c.in_ok-shards.ensures (search rules) c.new.ensures
    (record { id = search rules; leaves = omega (arith, c.requires.leaves); list = subst SpellsFamilies (sym c.in_ok-families.ensures) c.requires.families })
    (record { leaves = omega (arith, c.requires.leaves); few = omega (arith, c.requires.few) })
