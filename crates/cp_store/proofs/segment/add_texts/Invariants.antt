use Rattle.std.proofs.Common.{◌≡◌, ◌++◌, take, flat_map}
use Rattle.cp_bytes.specs.Fields.{part}
use Rattle.cp_store.specs.Logs.{texts_at}
use Rattle.cp_store.proofs.segment.add_texts.Given as goal

abbrev pub invariant-loop-item : goal.invariant-loop-item
invariant-loop-item l = l.out.items ≡ l.initial.out.items ++ flat_map part (texts_at (take l.item-index l.items) l.block l.epoch)
