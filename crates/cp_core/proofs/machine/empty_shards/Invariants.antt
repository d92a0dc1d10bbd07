use Rattle.std.proofs.Common.{◌≡◌, []}
use Rattle.std.specs.Prelude.{replicate}
use Rattle.cp_core.proofs.machine.empty_shards.Given as goal

abbrev pub invariant-loop : goal.invariant-loop
invariant-loop l = l.shards.items ≡ replicate l.counter []
