use Rattle.std.proofs.Common.{◌≡◌, ◌++◌, drop}
use Rattle.cp_replay.specs.Writers.{rows_text}
use Rattle.cp_replay.proofs.writers.put_rows.Given as goal

-- the writers that are left bring the rest
abbrev pub invariant-loop-writer : goal.invariant-loop-writer
invariant-loop-writer l = l.out.items ++ rows_text l.key (drop l.writer-index l.writers) ≡ l.initial.out.items ++ rows_text l.key l.writers
