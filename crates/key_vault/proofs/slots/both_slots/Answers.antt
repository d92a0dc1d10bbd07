use Rattle.std.proofs.Common.{refl, ◌∙◌}
use Rattle.key_vault.proofs.SlotLemmas.{fresh_put}
use Rattle.key_vault.proofs.slots.both_slots.Goals as goal

pub returns-clause-bytes : goal.returns-clause-bytes
returns-clause-bytes c = c.put-2.ensures ∙ fresh_put c.args.id.now _ c.put.new.bytes c.told-id refl c.put.ensures
