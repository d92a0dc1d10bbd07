use Rattle.std.proofs.Common.{◌≡◌, ◌≤◌, ◌-◌, length}
use Rattle.cp_http.specs.Heads.{NoBreakBelow, window}
use Rattle.cp_session.specs.Traffic.{Grows}
use Rattle.cp_session.proofs.awaiting.await_head.Given as goal

abbrev pub invariant-loop-end : goal.invariant-loop-end
invariant-loop-end g l = record {
  within : l.from ≤ length (window l.inbox);
  below : NoBreakBelow (window l.inbox) l.from;
  grows : Grows l.initial.inbox l.inbox (g.C.Endpoint.left l.initial.conn) (g.C.Endpoint.left l.conn);
  never_falls : g.C.Endpoint.read_faults l.initial.conn ≤ g.C.Endpoint.read_faults l.conn;
  held : g.C.Endpoint.held l.conn ≡ g.C.Endpoint.held l.initial.conn;
  write_faults : g.C.Endpoint.write_faults l.conn ≡ g.C.Endpoint.write_faults l.initial.conn;
}

abbrev pub decreases-loop-end : goal.decreases-loop-end
decreases-loop-end g l = 147456 - length l.inbox
