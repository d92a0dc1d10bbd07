use Rattle.std.proofs.Common.{map}
use Rattle.cp_tool.specs.ReplayView.{write_view}
use Rattle.cp_tool.proofs.WriteLemmas.{Listed}
use Rattle.cp_tool.proofs.file_write.add_epochs.Given as goal

-- the epochs that are left bring the rest
abbrev pub invariant-loop-files : goal.invariant-loop-files
invariant-loop-files l = Listed (map write_view l.initial.writes.items) l.epochs (map write_view l.writes.items) l.epoch l.files-index
