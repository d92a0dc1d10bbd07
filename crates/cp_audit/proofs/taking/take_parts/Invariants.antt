use Rattle.std.proofs.Common.{◌≡◌, ◌-◌, None}
use Rattle.std.specs.Prelude.{map}
use Rattle.std.specs.List.{AllByRecursion}
use Rattle.cp_chain.specs.Log.{log_parts_at}
use Rattle.cp_audit.specs.Parts.{part_view, IsFramed}
use Rattle.cp_audit.proofs.TakingLemmas.{behind}
use Rattle.cp_audit.proofs.taking.take_parts.Given as goal

-- those so far, and the others where they are read, are all
abbrev pub invariant-loop : goal.invariant-loop
invariant-loop l = record {
  so_far : log_parts_at l.count None l.fn.cut.rest ≡ behind (map part_view l.parts.items) (log_parts_at (l.count - l.counter) l.last l.cut.rest);
  framed : AllByRecursion (IsFramed l.frames) l.parts.items;
}
