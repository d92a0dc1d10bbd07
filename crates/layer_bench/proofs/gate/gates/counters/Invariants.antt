use Rattle.std.proofs.Common.{◌≡◌, length}
use Rattle.layer_bench.proofs.gate.gates.counters.Given as goal

abbrev pub invariant-loop : goal.invariant-loop
invariant-loop l = length l.all.items ≡ l.counter
