use Rattle.std.proofs.Common.{◌≡◌, ℕ, replicate}
use Rattle.cp_pages.proofs.pool.blank_pages.Given as goal

abbrev pub invariant-loop : goal.invariant-loop
invariant-loop l = l.blank.items ≡ replicate l.counter (replicate {A = ℕ} 1024 0)
