use Rattle.std.proofs.Common.{◌≡◌, ◌≤◌, ◌-◌, length}
use Rattle.cp_session.specs.Traffic.{Grows}
use Rattle.cp_session.proofs.awaiting.await_bytes.Given as goal

abbrev pub invariant-loop-inbox : goal.invariant-loop-inbox
invariant-loop-inbox g l = record {
  grows : Grows l.initial.inbox l.inbox (g.C.Endpoint.left l.initial.conn) (g.C.Endpoint.left l.conn);
  never_falls : g.C.Endpoint.read_faults l.initial.conn ≤ g.C.Endpoint.read_faults l.conn;
  held : g.C.Endpoint.held l.conn ≡ g.C.Endpoint.held l.initial.conn;
  write_faults : g.C.Endpoint.write_faults l.conn ≡ g.C.Endpoint.write_faults l.initial.conn;
}

abbrev pub decreases-loop-inbox : goal.decreases-loop-inbox
decreases-loop-inbox g l = 147456 - length l.inbox
