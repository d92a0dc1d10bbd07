use Rattle.std.proofs.Common.{◌≡◌, ◌+◌, ◌*◌, ◌++◌, take}
use Rattle.lms_ots.specs.Lanes.{joined_to}
use Rattle.lms_ots.proofs.lanes.put_joined.Given as goal

abbrev pub invariant-values : goal.invariant-values
invariant-values l = take (36 + 32 * l.i) l.out ≡ take 36 l.initial.out ++ joined_to l.values l.i
