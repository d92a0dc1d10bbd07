use Rattle.cp_audit.specs.Walks.{AreBelow}
use Rattle.cp_audit.proofs.walk.place_from.Given as goal

abbrev pub invariant-loop-place : goal.invariant-loop-place
invariant-loop-place l = AreBelow l.table l.block l.place
