use Rattle.std.proofs.Common.{ap, ◌∙◌}
use Rattle.std.specs.Prelude.{List, sum_by}
use Rattle.sha2.specs.Sha256.{sha256}
use Rattle.cp_tips.specs.Table.{TableRow}
use Rattle.cp_core.specs.Sealing.{link_after, table_at}
use Rattle.cp_core.specs.View.{store_view}
use Rattle.cp_core.proofs.LinkLemmas.{closing_is, rows_are}
use Rattle.cp_core.proofs.sealing.closing_of.Goals as goal

pub returns : goal.returns
returns c =
    closing_is (store_view c.args.machine.now) c.args.machine.now.life c.args.epoch c.link_after.result c.digest.result c.digest-2.result c.len.result c.entries_in.result
    (c.link_after.ensures ∙ ap link_after c.as_slice.ensures) (c.digest.ensures ∙ ap sha256 c.requires.families) (c.digest-2.ensures ∙ ap sha256 c.requires.table)
    (rows_are c.args.tips.now.entries (table_at c.args.machine.now.life c.args.epoch) c.len.result c.requires.tips c.len.ensures.len) (c.entries_in.ensures ∙ ap (λ (rows : List TableRow). sum_by (λ row. row.tip.count) rows) c.requires.tips)
