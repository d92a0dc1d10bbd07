use Rattle.std.proofs.Common.{◌≡◌, ◌≤◌, ◌*◌, ◌-◌, ◌^◌}
use Rattle.lms_ots.specs.Ots.{cksm_sum}
use Rattle.lms_ots.proofs.digits.cksm.Given as goal

abbrev pub invariant-loop-i : goal.invariant-loop-i
invariant-loop-i l = record { value : l.sum ≡ cksm_sum l.s l.w l.i; small : l.sum ≤ l.i * (2 ^ l.w - 1) }
