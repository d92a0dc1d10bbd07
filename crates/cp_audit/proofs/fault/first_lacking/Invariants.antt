use Rattle.std.proofs.Common.{◌≡◌, ℕ, ◌<◌, ◌≤◌, false, length, get_or}
use Rattle.std.specs.Prelude.{map}
use Rattle.cp_evidence.specs.Material.{blocks_in}
use Rattle.cp_audit.specs.Faults.{lacks}
use Rattle.cp_audit.specs.Parts.{part_view}
use Rattle.cp_audit.specs.Walks.{AreBelow}
use Rattle.cp_audit.proofs.fault.first_lacking.Given as goal

-- no earlier block lacks a segment, and the rows passed over are below the one to come
abbrev pub invariant-loop-i : goal.invariant-loop-i
invariant-loop-i l =
    ((k : ℕ) → k < l.i → lacks l.frames.before l.frames.after (map part_view l.parts) (get_or (blocks_in l.frames.after) k 0) ≡ false)
    × (l.place ≤ length l.frames.before)
    × (l.i < length (blocks_in l.frames.after) → AreBelow l.frames.before (get_or (blocks_in l.frames.after) l.i 0) l.place)
