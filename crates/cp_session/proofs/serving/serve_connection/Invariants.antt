use Rattle.std.proofs.Common.{◌<◌, ◌≤◌, ◌-◌, ◌*◌}
use Rattle.cp_session.proofs.TalkLemmas.{Talk}
use Rattle.cp_session.proofs.serving.serve_connection.Given as goal

abbrev pub invariant-loop-front : goal.invariant-loop-front
invariant-loop-front g l = record {
  some : 0 < l.left;
  most : l.left ≤ 10000;
  bound : l.taken ≤ (10000 - l.left) * 147456;
  talk : Talk g.K.Desk.replies l.initial.desk l.desk (g.C.Endpoint.left l.initial.conn) (g.C.Endpoint.left l.conn) (g.C.Endpoint.held l.initial.conn) (g.C.Endpoint.held l.conn) l.left l.taken l.inbox;
  reads : g.C.Endpoint.read_faults l.initial.conn ≤ g.C.Endpoint.read_faults l.conn;
  writes : g.C.Endpoint.write_faults l.initial.conn ≤ g.C.Endpoint.write_faults l.conn;
}

abbrev pub decreases-loop-front : goal.decreases-loop-front
decreases-loop-front g l = l.left
