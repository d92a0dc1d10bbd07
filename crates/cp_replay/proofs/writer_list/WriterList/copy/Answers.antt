use Rattle.std.proofs.Common.{map, subst}
use Rattle.cp_core.specs.Store.{SpellsFamilies}
use Rattle.cp_replay.specs.Writers.{row_for}
use Rattle.cp_replay.proofs.Listed.{list_spells}
use Rattle.cp_replay.proofs.writer_list.WriterList.copy.Goals as goal

pub returns-clause-spells : goal.returns-clause-spells
returns-clause-spells c = subst SpellsFamilies c.self.view_is (list_spells c.self.inside.text.items (map (row_for c.self.inside.key) c.self.inside.writers.items) c.self.invariant)
