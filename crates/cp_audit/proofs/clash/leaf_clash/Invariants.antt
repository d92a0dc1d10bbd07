use Rattle.std.proofs.Common.{List}
use Rattle.std.specs.Ordering.{nat_cmp}
use Rattle.cp_statements.specs.Envelope.{Envelope}
use Rattle.cp_audit.specs.Firsts.{KeepsFirsts, kept_in, leaf_key, same_by}
use Rattle.cp_audit.proofs.PassLemmas.{Passes}
use Rattle.cp_audit.proofs.clash.leaf_clash.Given as goal

abbrev pub invariant-loop-x : goal.invariant-loop-x
invariant-loop-x l = (earlier : List Envelope) → KeepsFirsts (same_by nat_cmp) leaf_key earlier (kept_in nat_cmp l.fn.firsts) → Passes (same_by nat_cmp) leaf_key earlier l.xs l.x-index (kept_in nat_cmp l.firsts)
