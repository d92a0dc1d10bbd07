use Rattle.std.proofs.Common.{◌∙◌}
use Rattle.cp_tips.proofs.RowNumbers.{number_is}
use Rattle.cp_tips.proofs.table.TableText.count_at.Goals as goal

pub returns : goal.returns
returns c = c.count_of.ensures ∙ number_is (λ r. r.tip.count) c.rows.result.now c.args.self.now c.args.i _ c.rows.ensures c.requires
