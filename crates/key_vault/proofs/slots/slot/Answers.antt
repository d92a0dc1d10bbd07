use Rattle.std.proofs.Common.{refl, ap, ◌∙◌, ◌++◌, List, ℕ, length}
use Rattle.key_vault.proofs.SlotLemmas.{slot_put}
use Rattle.key_vault.proofs.slots.slot.Goals as goal

pub returns : goal.returns
returns c =
    c.put-2.ensures ∙ slot_put c.args.id.now c.to_be_bytes.result _ c.put.new.bytes c.told-id (ap length c.to_be_bytes.ensures) refl c.put.ensures
    ∙ ap (λ (l : List ℕ). c.args.id.now ++ l) c.to_be_bytes.ensures
