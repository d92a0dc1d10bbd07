use Rattle.cp_store.proofs.Freezing.{later_now}
use Rattle.cp_store.proofs.closing.freeze_one.Goals as goal

pub frozen-requires : goal.frozen-requires
frozen-requires c = later_now c.args.shard.now c.freeze.new.self c.args.epoch c.in_ok-next.next c.freeze.ensures c.requires.now
