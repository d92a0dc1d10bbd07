use Rattle.std.proofs.Common.{◌≡◌, ◌-◌, drop}
use Rattle.cp_core.specs.Calls.{pages_free, pages_taken}
use Rattle.cp_core.specs.Life.{rows_in}
use Rattle.cp_core.proofs.pages.pages_free.Given as goal

abbrev pub invariant-loop-i : goal.invariant-loop-i
invariant-loop-i l = l.free - pages_taken (rows_in (drop l.i l.items)) ≡ pages_free l.initial.free l.items
