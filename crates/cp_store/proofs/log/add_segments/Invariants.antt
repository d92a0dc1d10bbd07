use Rattle.std.proofs.Common.{◌≡◌, ◌++◌, map, flat_map}
use Rattle.cp_chain.specs.Log.{log_part_text}
use Rattle.cp_store.specs.Logs.{part_at}
use Rattle.cp_store.proofs.log.add_segments.Given as goal

abbrev pub invariant-loop-block : goal.invariant-loop-block
invariant-loop-block l = l.out.items ++ flat_map log_part_text (map (part_at l.shards l.epoch) l.block-iterator) ≡ l.initial.out.items ++ flat_map log_part_text (map (part_at l.shards l.epoch) l.blocks.keys)
