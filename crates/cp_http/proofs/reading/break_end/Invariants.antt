use Rattle.std.proofs.Common.{length, ◌-◌, ◌≤◌}
use Rattle.cp_http.specs.Heads.{NoBreakBelow}
use Rattle.cp_http.proofs.reading.break_end.Given as goal

abbrev pub invariant-loop-i : goal.invariant-loop-i
invariant-loop-i l = record {
  within : l.i ≤ length l.bytes;
  none : NoBreakBelow l.bytes l.i;
}

abbrev pub decreases-loop-i : goal.decreases-loop-i
decreases-loop-i l = length l.bytes - l.i
