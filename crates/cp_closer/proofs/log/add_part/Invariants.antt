use Rattle.std.proofs.Common.{◌≡◌, take}
use Rattle.cp_core.specs.Frozen.{part_view}
use Rattle.cp_closer.specs.Taken.{put_all, texts_of}
use Rattle.cp_closer.specs.View.{texts_shown}
use Rattle.cp_closer.proofs.log.add_part.Given as goal

abbrev pub invariant-loop-x : goal.invariant-loop-x
invariant-loop-x l = texts_shown l.order.entries ≡ put_all (texts_shown l.initial.order.entries) (take l.x-index (texts_of (part_view l.part)))
