use Rattle.std.proofs.Common.{◌++◌}
use Rattle.sha2.specs.Hashers.{Holds256}
use Rattle.lms_ots.specs.Parameters.{width_of}
use Rattle.lms_ots.specs.Ots.{d_pblc, tagged}
use Rattle.lms_ots.specs.Signing.{public_ends}
use Rattle.lms_ots.proofs.signing.ots_public.Given as goal

abbrev pub invariant-chains : goal.invariant-chains
invariant-chains l = Holds256 l.hasher (tagged l.id l.q d_pblc ++ public_ends l.id l.q (width_of l.t) l.secret l.i)
