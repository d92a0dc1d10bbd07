use Rattle.std.proofs.Common.{◌≡◌, [], drop}
use Rattle.cp_replay.specs.Writers.{with_lines}
use Rattle.cp_replay.proofs.writers.writers_of.Given as goal

-- the lines that are left bring the rest
abbrev pub invariant-loop-line : goal.invariant-loop-line
invariant-loop-line l = with_lines [] l.lines ≡ with_lines l.writers.items (drop l.line-index l.lines)
