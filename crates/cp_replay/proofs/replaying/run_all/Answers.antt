use Rattle.std.proofs.Common.{arith}
use Rattle.cp_replay.proofs.Steps.{reached_last, reached_next}
use Rattle.cp_replay.proofs.replaying.run_all.Goals as goal

pub line-requires-clause-signs : goal.line-requires-clause-signs
line-requires-clause-signs c = c.requires.signs c.loop-line.number (omega (arith, c.loop-line.invariant.number_is, c.loop-line-test.true))

pub loop-line-preserved : goal.loop-line-preserved
loop-line-preserved c =
    reached_next c.args.run.store.store c.args.key.now c.args.writer.now c.args.lines.now c.loop-line.now c.in_ok-now.now c.loop-line.number c.loop-line.line-index c.line-item.result c.loop-line.invariant
    (omega (arith, c.loop-line-test.true)) c.line-item.is c.in_ok-now.ensures

pub returns : goal.returns
returns c = reached_last c.args.run.store.store c.args.key.now c.args.writer.now c.args.lines.now c.loop-line.now c.loop-line.number c.loop-line.line-index c.loop-line.invariant (omega (arith, c.loop-line-test.false))
