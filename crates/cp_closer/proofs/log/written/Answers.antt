use Rattle.std.proofs.Common.{rules}
use Rattle.cp_closer.proofs.Bounds.{log_spelled}
use Rattle.cp_closer.proofs.log.written.Goals as goal

pub returns : goal.returns
returns c = log_spelled c.args.epoch c.len-count.result c.args.order.now.entries c.loop-block.block-iterator c.in_ok-out.out.items c.loop-block.out.items (search rules) c.len-count.ensures.len c.in_ok-out.ensures c.loop-block.invariant.1
