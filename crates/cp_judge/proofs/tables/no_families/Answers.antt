use Rattle.std.proofs.Common.{◌∙◌}
use Rattle.cp_judge.proofs.NoRows.{read_without_rows}
use Rattle.cp_judge.proofs.tables.no_families.Goals as goal

pub returns : goal.returns
returns c = c.ok.ensures.value ∙ read_without_rows c.read.result c.read.ensures
