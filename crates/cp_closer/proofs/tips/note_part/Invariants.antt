use Rattle.std.proofs.Common.{◌≡◌, take}
use Rattle.cp_core.specs.Frozen.{part_view}
use Rattle.cp_closer.specs.Taken.{put_all, tips_of}
use Rattle.cp_closer.proofs.tips.note_part.Given as goal

abbrev pub invariant-loop-x : goal.invariant-loop-x
invariant-loop-x l = l.tips.entries ≡ put_all l.initial.tips.entries (take l.x-index (tips_of (part_view l.part)))
