use Rattle.std.proofs.Common.{[], ap, ◌∙◌}
use Rattle.std.specs.Prelude.{unwrap_or}
use Rattle.cp_tips.specs.Tip.{Tip}
use Rattle.cp_tips.specs.Table.{row}
use Rattle.cp_tips.specs.View.{tip_view}
use Rattle.cp_judge.specs.Rows.{went_back}
use Rattle.cp_judge.proofs.InOrder.{went_back_is_regressed}
use Rattle.cp_judge.proofs.framed.Framed.went_back.Goals as goal

pub returns : goal.returns
returns c =
    let w = c.args.self.now in
    let b = c.args.block in
    c.went_back.ensures
    ∙ ap (λ (t : Tip). went_back t (tip_view c.tip.result)) c.tip_before.ensures
    ∙ ap (went_back (row (unwrap_or w.rows_before []) b)) c.tip.ensures
    ∙ went_back_is_regressed (unwrap_or w.rows_before []) w.rows b w.ordered_before
