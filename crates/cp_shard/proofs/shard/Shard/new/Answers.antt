use Rattle.cp_shard.proofs.Keeping.{keeps_none}
use Rattle.cp_shard.proofs.Spans.{rows_none}
use Rattle.cp_shard.proofs.shard.Shard.new.Goals as goal

pub invariant_of-result : goal.invariant_of-result
invariant_of-result c =
    rw (c.in_ok-items.ensures.items, c.in_ok-row_counts.ensures.items, c.new-2.ensures.items, c.new-3.ensures.items)
    (keeps_none _ _ _ _ _ _ _ _ c.new-5.ensures.empty c.new-4.ensures.empty c.in_ok-pool.ensures c.in_ok-items.ensures.capacity, rows_none _ _ c.in_ok-row_counts.ensures.capacity)
