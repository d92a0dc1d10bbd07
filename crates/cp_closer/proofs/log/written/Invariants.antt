use Rattle.std.proofs.Common.{◌≡◌, ◌++◌, flat_map}
use Rattle.std.specs.List.{AllByRecursion}
use Rattle.cp_chain.specs.Segment.{SegmentFits}
use Rattle.cp_chain.specs.Log.{log_part_text}
use Rattle.cp_closer.specs.Closer.{segments}
use Rattle.cp_closer.specs.View.{texts_shown}
use Rattle.cp_closer.proofs.log.written.Given as goal

abbrev pub invariant-loop-block : goal.invariant-loop-block
invariant-loop-block l = (AllByRecursion (λ e. SegmentFits e.1) (texts_shown l.block-iterator))
    × (l.out.items ++ flat_map log_part_text (segments (texts_shown l.block-iterator)) ≡ l.initial.out.items ++ flat_map log_part_text (segments (texts_shown l.order.entries)))
