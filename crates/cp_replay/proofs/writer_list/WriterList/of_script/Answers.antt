use Rattle.std.proofs.Common.{[], sym, ap, ◌∙◌, rules}
use Rattle.cp_replay.specs.Writers.{with_lines}
use Rattle.cp_replay.proofs.Listed.{writers_fit}
use Rattle.cp_replay.proofs.writer_list.WriterList.of_script.Goals as goal

pub of-requires : goal.of-requires
of-requires c = writers_fit c.args.key c.args.script.now c.in_ok-writers.writers.items (search rules) c.requires c.lines.ensures.fits (c.in_ok-writers.ensures.writers ∙ ap (with_lines []) c.lines.ensures.lines)
