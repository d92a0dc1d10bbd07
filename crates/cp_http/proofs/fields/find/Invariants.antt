use Rattle.std.proofs.Common.{◌≡◌, length, map}
use Rattle.httparse.specs.Borrowed.{header_parts}
use Rattle.cp_http.specs.Fields.{values_of}
use Rattle.cp_http.proofs.fields.find.Given as goal

abbrev pub invariant-loop-rest : goal.invariant-loop-rest
invariant-loop-rest l = values_of l.name (map header_parts l.fields) ≡ values_of l.name (map header_parts l.rest)

abbrev pub decreases-loop-rest : goal.decreases-loop-rest
decreases-loop-rest l = length l.rest
