use Rattle.std.proofs.Common.{ap, sym, subst, ◌∙◌, ◌<◌, ◌^◌}
use Rattle.std.specs.Prelude.{List, sum_by}
use Rattle.cp_statements.specs.Closing.{closing_text}
use Rattle.cp_tips.specs.Table.{TableRow, table_text}
use Rattle.cp_core.specs.Life.{list_text}
use Rattle.cp_core.specs.declared.item.Item.{Item}
use Rattle.cp_core.specs.View.{state_view, store_view}
use Rattle.cp_core.proofs.LinkLemmas.{seal_is, sum_small, table_holds}
use Rattle.cp_core.proofs.sealing.seal_at.Goals as goal

pub closing_of-requires-clause-tips : goal.closing_of-requires-clause-tips
closing_of-requires-clause-tips c = table_holds c.args.machine.now.life c.args.epoch c.as_slice.result.now c.in_ok-tips.tips.entries c.as_slice.ensures c.in_ok-tips.ensures

pub closing_of-requires-clause-table : goal.closing_of-requires-clause-table
closing_of-requires-clause-table c = c.deref.ensures.value ∙ c.in_ok-table.ensures.text ∙ ap table_text (table_holds c.args.machine.now.life c.args.epoch c.as_slice.result.now c.in_ok-tips.tips.entries c.as_slice.ensures c.in_ok-tips.ensures)

pub closing_of-requires-clause-entries : goal.closing_of-requires-clause-entries
closing_of-requires-clause-entries c =
    subst (λ (rows : List TableRow). sum_by (λ row. row.tip.count) rows < 2 ^ 64) (sym (table_holds c.args.machine.now.life c.args.epoch c.as_slice.result.now c.in_ok-tips.tips.entries c.as_slice.ensures c.in_ok-tips.ensures))
    (sum_small (store_view c.args.machine.now) (state_view c.args.machine.now) c.args.epoch c.requires.keeps c.requires.fits)

pub returns : goal.returns
returns c =
    seal_is (store_view c.args.machine.now) c.args.machine.now.life c.args.epoch c.from_vec.result c.from_vec-2.result c.from_vec-3.result
    (c.from_vec.ensures ∙ c.in_ok-text.ensures.items ∙ c.text-closing.ensures ∙ ap closing_text c.closing_of.ensures)
    (c.from_vec-2.ensures ∙ c.in_ok-table.ensures.text ∙ ap table_text (table_holds c.args.machine.now.life c.args.epoch c.as_slice.result.now c.in_ok-tips.tips.entries c.as_slice.ensures c.in_ok-tips.ensures))
    (c.from_vec-3.ensures ∙ c.in_ok-families.ensures.items ∙ c.as_slice-families.ensures.bytes ∙ c.list_at.ensures ∙ ap (λ (xs : List Item). list_text c.args.machine.now.families xs c.args.epoch) c.first_items.ensures)
