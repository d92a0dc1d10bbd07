use Rattle.std.proofs.Common.{arith, ap, length}
use Rattle.cp_store.proofs.Logs.{few_in_log, log_spelled}
use Rattle.cp_store.proofs.log.log.Goals as goal

pub overflow_cast-count : goal.overflow_cast-count
overflow_cast-count c = omega (arith, c.len-count.ensures.len, ap length c.in_ok-blocks.ensures, few_in_log c.args.shards.now c.args.epoch c.requires.sixteen c.requires.few)

pub returns : goal.returns
returns c = log_spelled c.args.shards.now c.args.epoch c.in_ok-blocks.blocks.keys c.len-count.result c.in_ok-out.out.items c.add_segments.new.out.items c.len-count.ensures.len c.in_ok-out.ensures c.in_ok-add_segments.ensures c.in_ok-blocks.ensures
