use Rattle.key_vault.specs.Vaults.{disk_of, vault_number}
use Rattle.cp_tool.proofs.DrawLemmas.{open_loaded, open_unmade}
use Rattle.cp_tool.proofs.drawing.open_vault.Goals as goal

pub returns-in-Ok-clause-opens : goal.returns-in-Ok-clause-opens
returns-in-Ok-clause-opens g c =
    open_loaded g.K.Disk g.met.K.Disk.seen_is_image g.met.K.Disk.counts_now c.args.id c.args.leaves c.args.disk.now (disk_of c.in-Ok.vault) (vault_number c.in-Ok.vault) c.in-Ok.ensures.loads c.in-Ok.ensures.within

pub returns-in-Err-format-clause-opens : goal.returns-in-Err-format-clause-opens
returns-in-Err-format-clause-opens g c =
    open_unmade g.K.Disk g.met.K.Disk.seen_is_image g.met.K.Disk.counts_now c.args.id c.args.leaves c.args.disk.now c.in-Err.field-0.disk.now _ _ _ (rw c.in-Blank.is at c.in-Err.ensures.loads) c.in-Err-format.ensures.formats
