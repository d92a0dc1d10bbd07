use Rattle.std.proofs.Common.{◌≡◌, ◌≤◌, length, take}
use Rattle.cp_store.specs.Logs.{texts_at}
use Rattle.cp_store.proofs.segment.count_in.Given as goal

abbrev pub invariant-loop-item : goal.invariant-loop-item
invariant-loop-item l = (l.count ≡ length (texts_at (take l.item-index l.items) l.block l.epoch)) × (l.count ≤ l.item-index)
