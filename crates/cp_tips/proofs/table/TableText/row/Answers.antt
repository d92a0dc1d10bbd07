use Rattle.std.proofs.Common.{rules, [], sym, ◌∙◌}
use Rattle.std.proofs.lemmas.List.Sorted.{answers_always}
use Rattle.cp_tips.specs.Rows.{row_of}
use Rattle.cp_tips.proofs.Searching.{row_found, row_absent}
use Rattle.cp_tips.proofs.table.TableText.row.Goals as goal

-- the closure gives a row's block
pub returns-in-Ok : goal.returns-in-Ok
returns-in-Ok c =
    let equal = c.in-Ok.ensures.position (λ row. (row_of row).block) (answers_always _ _ _ (λ f a r g called. search rules)) in
    let found = row_found c.self.inside.rows.now (rw c.self.view_is c.requires) c.args.block c.in-Ok.at [] c.in-Ok.ensures.bound (equal []) in
    c.tip_of.ensures ∙ sym (rw (← c.self.view_is) found)

pub returns-in-Err : goal.returns-in-Err
returns-in-Err c =
    let parted = c.in-Err.ensures.position (λ row. (row_of row).block) (answers_always _ _ _ (λ f a r g called. search rules)) in
    let absent = row_absent c.self.inside.rows.now (rw c.self.view_is c.requires) c.args.block c.in-Err.field-0 c.in-Err.ensures.bound parted in
    c.fresh.ensures ∙ sym (rw (← c.self.view_is) absent)
