use Rattle.std.proofs.Common.{arith}
use Rattle.cp_closer.proofs.Bounds.{texts_spelled}
use Rattle.cp_closer.proofs.log.add_texts.Goals as goal

pub returns : goal.returns
returns c = texts_spelled c.args.texts.now c.loop-text.text-index c.args.out.now.items c.loop-text.out.items (omega arith) c.loop-text.invariant
