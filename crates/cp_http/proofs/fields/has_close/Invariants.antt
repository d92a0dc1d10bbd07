use Rattle.std.proofs.Common.{◌≡◌, ◌≤◌, [], drop}
use Rattle.std.specs.List.{slice_range}
use Rattle.cp_http.specs.Fields.{close_from}
use Rattle.cp_http.proofs.fields.has_close.Given as goal

abbrev pub invariant-loop-i : goal.invariant-loop-i
invariant-loop-i l = record {
  ordered : l.start ≤ l.i;
  same : close_from (slice_range l.value l.start l.i) (drop l.i l.value) ≡ close_from [] l.value;
}
