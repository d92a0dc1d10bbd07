use Rattle.std.proofs.Common.{◌≡◌, ◌+◌, ◌*◌, ◌++◌, take}
use Rattle.lms_ots.specs.Parameters.{width_of}
use Rattle.lms_ots.specs.Signing.{signed_head, signed_chains}
use Rattle.lms_ots.proofs.signing.ots_sign.Given as goal

abbrev pub invariant-parts : goal.invariant-parts
invariant-parts l = take (36 + 32 * l.i) l.out ≡ signed_head l.t l.id l.q l.secret ++ signed_chains l.id l.q (width_of l.t) l.s l.secret l.i
