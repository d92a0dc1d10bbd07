use Rattle.std.proofs.Common.{◌≡◌, None}
use Rattle.cp_gate.specs.Models.{IsSeatOf}
use Rattle.layer_bench.proofs.gate.gates.take_turns.Given as goal

abbrev pub invariant-turns : goal.invariant-turns
invariant-turns g l = record { seat : IsSeatOf l.gate l.seat; free : l.seat.entered ≡ None }
