use Rattle.std.proofs.Common.{◌≡◌, ◌≤◌, ◌-◌, length, take}
use Rattle.std.specs.Io.KnownBytes.{Appends}
use Rattle.cp_outside.proofs.sinks.put_all.Given as goal

abbrev pub invariant-loop-at : goal.invariant-loop-at
invariant-loop-at g l = record {
  within : l.at ≤ length l.bytes;
  written : Appends (g.S.Endpoint.held l.initial.sink) (g.S.Endpoint.held l.sink) (take l.at l.bytes);
  never_falls : g.S.Endpoint.write_faults l.initial.sink ≤ g.S.Endpoint.write_faults l.sink;
  left : g.S.Endpoint.left l.sink ≡ g.S.Endpoint.left l.initial.sink;
  read_faults : g.S.Endpoint.read_faults l.sink ≡ g.S.Endpoint.read_faults l.initial.sink;
}

abbrev pub decreases-loop-at : goal.decreases-loop-at
decreases-loop-at g l = length l.bytes - l.at
