use Rattle.std.proofs.Common.{◌≡◌, ℕ, ◌<◌, length, slice_index}
use Rattle.lms_ots.specs.Parameters.{width_of}
use Rattle.lms_ots.specs.Ots.{coef}
use Rattle.lms_ots.proofs.lanes.digits_of.Given as goal

abbrev pub invariant-digits : goal.invariant-digits
invariant-digits l = record {
  long : length l.digits ≡ 265;
  each : (k : ℕ) → k < l.i → slice_index l.digits k ≡ coef l.s k (width_of l.t);
}
