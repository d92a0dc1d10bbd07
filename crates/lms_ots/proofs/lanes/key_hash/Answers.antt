use Rattle.std.proofs.Common.{[], slice_index_or, refl}
use Rattle.lms_ots.proofs.SideBySide.{joined-none, joined-more}
use Rattle.lms_ots.proofs.lanes.key_hash.Goals as goal

pub ends-init : goal.ends-init
ends-init c = rw (joined-none, ← c.tagged.ensures) c.new_with_prefix-hasher.ensures

pub ends-preserved : goal.ends-preserved
ends-preserved c = rw (joined-more c.args.ends.now _ c.ends.i (slice_index_or c.args.ends.now c.ends.i []) refl) (c.update.ensures _ c.ends.invariant)
