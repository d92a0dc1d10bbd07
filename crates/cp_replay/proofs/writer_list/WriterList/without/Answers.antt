use Rattle.std.proofs.Common.{◌≡◌, List, map, sym, ap, subst, ◌∙◌}
use Rattle.std.specs.Prelude.{IfOk, filter}
use Rattle.cp_families.specs.Families.{FamiliesFit, families_text}
use Rattle.cp_replay.specs.Writers.{is_other, list_without, row_for}
use Rattle.cp_replay.specs.declared.writer.Writer.{Writer}
use Rattle.cp_replay.proofs.Listed.{others_fit, without_is}
use Rattle.cp_replay.proofs.writer_list.WriterList.without.Goals as goal

pub of-requires : goal.of-requires
of-requires c =
    let left : c.in_ok-writers.writers.items ≡ filter (is_other c.args.client) c.self.inside.writers.items = c.in_ok-writers.ensures ∙ ap (filter (is_other c.args.client)) c.as_slice.ensures.value in
    subst (λ (ws : List Writer). FamiliesFit (map (row_for c.self.inside.key) ws)) (sym left) (others_fit c.self.inside.key c.args.client c.self.inside.writers.items c.self.invariant.fits)

pub returns : goal.returns
returns c =
    let left : c.in_ok-writers.writers.items ≡ filter (is_other c.args.client) c.self.inside.writers.items = c.in_ok-writers.ensures ∙ ap (filter (is_other c.args.client)) c.as_slice.ensures.value in
    subst (λ t. IfOk c.of.result (λ list. list ≡ t))
    (ap (λ (ws : List Writer). families_text (map (row_for c.self.inside.key) ws)) left
    ∙ without_is c.self.inside.key c.args.client c.self.inside.writers.items c.self.inside.text.items c.self.invariant
    ∙ ap (list_without c.args.client) c.self.view_is) c.of.ensures
