use Rattle.std.proofs.Common.{subst, sym, Ok}
use Rattle.cp_tool.specs.PutRuns.{DrawsLeaf}
use Rattle.key_vault.specs.Vaults.{disk_of, vault_id, vault_leaves, vault_number}
use Rattle.cp_tool.proofs.DrawLemmas.{draw_unopened, draw_reserved, draw_over, draw_failed}
use Rattle.cp_tool.proofs.drawing.draw_from.Goals as goal

pub returns-in-Err-clause-draws : goal.returns-in-Err-clause-draws
returns-in-Err-clause-draws g c =
    draw_unopened g.K.Disk g.met.K.Disk.seen_is_image g.met.K.Disk.counts_now c.args.id c.args.leaves c.args.disk.now c.in-Err.field-0.disk.now _ c.requires c.in-Err.ensures.opens

pub returns-in-Ok-reserve-clause-draws : goal.returns-in-Ok-reserve-clause-draws
returns-in-Ok-reserve-clause-draws g c =
    subst (λ d. DrawsLeaf g.K.Disk c.args.id c.args.leaves c.args.disk.now d (Ok c.reserved-leaf.result)) (sym c.into_disk.ensures.kept)
    (draw_reserved g.K.Disk g.met.K.Disk.seen_is_image g.met.K.Disk.counts_now c.args.id c.args.leaves c.args.disk.now (disk_of c.in-Ok.vault) (vault_number c.in-Ok.vault) (vault_id c.in-Ok.vault) (vault_leaves c.in-Ok.vault) (disk_of c.in-Ok-reserve.vault) c.in-Ok.ensures.opens c.in-Ok.ensures.key.0 c.in-Ok.ensures.key.1
    c.reserved-leaf.result c.in-Ok-reserve.range c.reserved-leaf.ensures c.in-Ok-reserve.ensures.reserves)

pub returns-in-Over-clause-draws : goal.returns-in-Over-clause-draws
returns-in-Over-clause-draws g c =
    draw_over g.K.Disk g.met.K.Disk.seen_is_image g.met.K.Disk.counts_now c.args.id c.args.leaves c.args.disk.now (disk_of c.in-Ok.vault) (vault_number c.in-Ok.vault) (vault_id c.in-Ok.vault) (vault_leaves c.in-Ok.vault) c.in-Err-reserve.field-0.disk.now c.in-Ok.ensures.opens c.in-Ok.ensures.key.0 c.in-Ok.ensures.key.1
    c.in-Over.reserved c.in-Over.leaves c.requires (rw c.in-Over.is at c.in-Err-reserve.ensures.reserves)

pub returns-in-DiskFault-clause-draws : goal.returns-in-DiskFault-clause-draws
returns-in-DiskFault-clause-draws g c =
    draw_failed g.K.Disk g.met.K.Disk.seen_is_image g.met.K.Disk.counts_now c.args.id c.args.leaves c.args.disk.now (disk_of c.in-Ok.vault) (vault_number c.in-Ok.vault) (vault_id c.in-Ok.vault) (vault_leaves c.in-Ok.vault) c.in-Err-reserve.field-0.disk.now c.in-Ok.ensures.opens c.in-Ok.ensures.key.0 c.in-Ok.ensures.key.1
    (rw c.in-DiskFault.is at c.in-Err-reserve.ensures.reserves)
