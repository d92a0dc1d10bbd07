use Rattle.std.proofs.Common.{◌++◌}
use Rattle.sha2.specs.Hashers.{Holds256}
use Rattle.lms_ots.specs.Ots.{tagged}
use Rattle.lms_ots.specs.Lanes.{joined_to}
use Rattle.lms_ots.proofs.lanes.key_hash.Given as goal

abbrev pub invariant-ends : goal.invariant-ends
invariant-ends l = Holds256 l.hasher (tagged l.id l.q 0x8080 ++ joined_to l.ends l.i)
