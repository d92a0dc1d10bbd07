use Rattle.std.proofs.Common.{◌≡◌, length, map, codes}
use Rattle.std.specs.List.{list_any}
use Rattle.httparse.specs.Borrowed.{header_parts}
use Rattle.cp_http.specs.Fields.{values_of, has_close}
use Rattle.cp_http.proofs.fields.closes.Given as goal

abbrev pub invariant-loop-rest : goal.invariant-loop-rest
invariant-loop-rest l = list_any has_close (values_of (codes "connection") (map header_parts l.fields)) ≡ list_any has_close (values_of (codes "connection") (map header_parts l.rest))

abbrev pub decreases-loop-rest : goal.decreases-loop-rest
decreases-loop-rest l = length l.rest
