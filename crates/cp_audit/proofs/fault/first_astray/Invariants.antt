use Rattle.std.proofs.Common.{ℕ, ◌<◌}
use Rattle.std.specs.Prelude.{map}
use Rattle.cp_audit.specs.Parts.{part_view, frame_in}
use Rattle.cp_audit.proofs.FaultLemmas.{Reaching}
use Rattle.cp_audit.proofs.fault.first_astray.Given as goal

abbrev pub invariant-loop-part : goal.invariant-loop-part
invariant-loop-part l = (k : ℕ) → k < l.part-index → Reaching (frame_in l.frames) (map part_view l.parts) k
