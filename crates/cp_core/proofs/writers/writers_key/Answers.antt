use Rattle.cp_core.proofs.ListLemmas.{key_listed}
use Rattle.cp_core.proofs.writers.writers_key.Goals as goal

pub returns : goal.returns
returns c =
    key_listed c.args.first.now c.args.items.now c.list_at.result.now c.families-families.result c.epoch_now.result _ c.family_of.result c.args.request.now.block c.args.request.now.client c.key_of.result
    c.families-families.ensures c.list_at.ensures c.epoch_now.ensures c.family_of.ensures c.key_of.ensures
