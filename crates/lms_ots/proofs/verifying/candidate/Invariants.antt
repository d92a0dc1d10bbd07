use Rattle.std.proofs.Common.{◌++◌}
use Rattle.sha2.specs.Hashers.{Holds256}
use Rattle.lms_ots.specs.Parameters.{width_of}
use Rattle.lms_ots.specs.Ots.{d_pblc, candidate_ends, tagged}
use Rattle.lms_ots.proofs.verifying.candidate.Given as goal

abbrev pub invariant-chains : goal.invariant-chains
invariant-chains l = Holds256 l.hasher (tagged l.id l.q d_pblc ++ candidate_ends l.id l.q (width_of l.t) l.s l.sig l.i)
