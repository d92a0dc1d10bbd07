use Rattle.std.proofs.Common.{ℕ, List, ◌≡◌, ◌++◌, ◌∷◌, [], cond, eqb, Some, sym, ap, subst, ◌∙◌}
use Rattle.cp_core.specs.Life.{RowItem, row_item}
use Rattle.cp_core.specs.declared.item.Item.{Item}
use Rattle.cp_shard.specs.Gathered.{Gathers, IsNextRow, held_at, with_text}
use Rattle.cp_shard.proofs.EpochRows.{gathers_row}
use Rattle.cp_shard.proofs.gathering.add_row.Goals as goal

pub returns : goal.returns
returns c = λ k n front next holds.
    let r : RowItem = record { pass = c.in-Row.pass; leaf = c.in-Row.leaf; pages = c.in-Row.pages; entry = c.in-Row.entry } in
    let is : c.args.row.now ≡ row_item r = c.in-Row.is in
    subst (λ (x : Item). Gathers (front ++ x ∷ []) n c.add_text.new.blocks) (sym is)
    (gathers_row k n front r c.args.row_tip.now (subst (λ (x : Item). IsNextRow k n front x c.args.row_tip.now) is next) c.args.blocks.now c.add_text.new.blocks
    (λ b. c.in_ok-add_text.ensures b ∙ ap (λ (l : List ℕ). cond (eqb c.args.row_tip.now.block b) (Some (with_text (held_at c.args.blocks.now b) c.args.row_tip.now l)) (held_at c.args.blocks.now b)) c.in_ok-text.ensures) holds)
