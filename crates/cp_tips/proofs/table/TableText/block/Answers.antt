use Rattle.std.proofs.Common.{◌∙◌}
use Rattle.cp_tips.proofs.RowNumbers.{number_is}
use Rattle.cp_tips.proofs.table.TableText.block.Goals as goal

pub returns : goal.returns
returns c = c.block_of.ensures ∙ number_is (λ r. r.block) c.rows.result.now c.args.self.now c.args.i _ c.rows.ensures c.requires
