use Rattle.std.proofs.Common.{◌≡◌, [], take, map, flat_map}
use Rattle.cp_core.specs.Frozen.{part_view}
use Rattle.cp_closer.specs.Taken.{put_all, texts_of}
use Rattle.cp_closer.specs.View.{texts_shown}
use Rattle.cp_closer.proofs.log.in_order.Given as goal

abbrev pub invariant-loop-part : goal.invariant-loop-part
invariant-loop-part l = texts_shown l.order.entries ≡ put_all [] (flat_map texts_of (map part_view (take l.part-index l.parts)))
