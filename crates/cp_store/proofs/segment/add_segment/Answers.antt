use Rattle.std.proofs.Common.{arith}
use Rattle.std.proofs.lemmas.Result.{on_ok_weaker}
use Rattle.cp_store.proofs.Rows.{few_texts}
use Rattle.cp_store.proofs.Logs.{segment_spelled}
use Rattle.cp_store.proofs.segment.add_segment.Goals as goal

pub overflow_cast-count : goal.overflow_cast-count
overflow_cast-count c = omega (arith, c.count_in-count.ensures, few_texts c.args.items.now c.args.block c.args.epoch, c.requires.few)

pub returns : goal.returns
returns c = on_ok_weaker c.add_texts.result (λ e. segment_spelled c.args.items.now c.args.block c.args.epoch c.count_in-count.result c.args.out.now.items c.start_segment.new.out.items c.add_texts.new.out.items c.count_in-count.ensures c.in_ok-start_segment.ensures e) c.add_texts.ensures
