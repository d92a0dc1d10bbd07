use Rattle.std.proofs.Common.{◌≡◌, take, map, flat_map}
use Rattle.cp_core.specs.Frozen.{part_view}
use Rattle.cp_closer.specs.Taken.{put_all, tips_of}
use Rattle.cp_closer.proofs.tips.note_parts.Given as goal

abbrev pub invariant-loop-part : goal.invariant-loop-part
invariant-loop-part l = l.tips.entries ≡ put_all l.initial.tips.entries (flat_map tips_of (map part_view (take l.part-index l.parts)))
