use Rattle.std.proofs.Common.{ap, sym, ◌∙◌}
use Rattle.cp_families.specs.Families.{key_of, families_of}
use Rattle.cp_core.specs.Store.{list_at, or_nil}
use Rattle.cp_shard.proofs.shard.Shard.key_of.Goals as goal

pub returns : goal.returns
unfolding list_at
returns c =
    c.key_of.ensures ∙ ap (λ rows. key_of (or_nil rows) c.args.family c.args.client) (sym c.families.ensures ∙ ap families_of c.list.ensures)
