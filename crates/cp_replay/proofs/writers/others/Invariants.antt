use Rattle.std.proofs.Common.{◌≡◌, ◌++◌, drop}
use Rattle.std.specs.Prelude.{filter}
use Rattle.cp_replay.specs.Writers.{is_other}
use Rattle.cp_replay.proofs.writers.others.Given as goal

-- the writers that are left bring the rest
abbrev pub invariant-loop-writer : goal.invariant-loop-writer
invariant-loop-writer l = l.others.items ++ filter (is_other l.client) (drop l.writer-index l.writers) ≡ filter (is_other l.client) l.writers
