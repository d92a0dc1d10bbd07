use Rattle.std.proofs.Common.{◌≡◌, ◌*◌, ◌≤◌, length, take, sum_by}
use Rattle.cp_audit.proofs.counts.entries.Given as goal

-- the sum so far, of numbers of four bytes
abbrev pub invariant-loop-part : goal.invariant-loop-part
invariant-loop-part l = record {
  so_far : l.sum ≡ sum_by (λ p. length p.segment) (take l.part-index l.parts);
  low : l.sum ≤ l.part-index * 4294967295;
}
