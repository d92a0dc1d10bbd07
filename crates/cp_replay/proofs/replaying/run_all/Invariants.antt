use Rattle.cp_replay.proofs.Steps.{Reached}
use Rattle.cp_replay.proofs.replaying.run_all.Given as goal

-- the lines that are left bring the rest
abbrev pub invariant-loop-line : goal.invariant-loop-line
invariant-loop-line l = Reached l.fn.run.store.store l.key l.writer l.lines l.now l.number l.line-index
