use Rattle.std.proofs.Common.{ap, ◌∙◌}
use Rattle.cp_chain.specs.Segment.{segment_at}
use Rattle.cp_audit.proofs.taking.take_part.Goals as goal

pub segment_bytes-bytes-requires : goal.segment_bytes-bytes-requires
segment_bytes-bytes-requires c = ap segment_at c.rest-rest.ensures ∙ (rw c.rest.ensures c.in-Ok.ensures.0)
