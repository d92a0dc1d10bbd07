use Rattle.std.proofs.Common.{◌≡◌, ◌+◌, ◌*◌, ◌++◌, take}
use Rattle.lms_ots.specs.Parameters.{width_of}
use Rattle.lms_ots.specs.Ots.{d_pblc, tagged}
use Rattle.lms_ots.specs.Signing.{public_ends}
use Rattle.lms_ots.proofs.lanes.keys.put_texts.Given as goal

abbrev pub invariant-chains : goal.invariant-chains
invariant-chains l = record {
  first : take (22 + 32 * l.i) l.first ≡ tagged l.id l.q d_pblc ++ public_ends l.id l.q (width_of l.t) l.secret l.i;
  second : take (22 + 32 * l.i) l.second ≡ tagged l.id (l.q + 1) d_pblc ++ public_ends l.id (l.q + 1) (width_of l.t) l.secret l.i;
  third : take (22 + 32 * l.i) l.third ≡ tagged l.id (l.q + 2) d_pblc ++ public_ends l.id (l.q + 2) (width_of l.t) l.secret l.i;
  fourth : take (22 + 32 * l.i) l.fourth ≡ tagged l.id (l.q + 3) d_pblc ++ public_ends l.id (l.q + 3) (width_of l.t) l.secret l.i;
}
