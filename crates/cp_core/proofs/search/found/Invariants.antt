use Rattle.std.proofs.Common.{◌≡◌, drop}
use Rattle.cp_core.proofs.SearchLemmas.{found_in}
use Rattle.cp_core.proofs.search.found.Given as goal

abbrev pub invariant-loop-i : goal.invariant-loop-i
invariant-loop-i l = found_in l.request l.epoch (drop l.i l.items) ≡ found_in l.request l.epoch l.items
