use Rattle.std.proofs.Common.{◌≡◌}
use Rattle.cp_pages.specs.Chain.{page_after}
use Rattle.cp_pages.proofs.chain.page_after.Given as goal

abbrev pub invariant-loop : goal.invariant-loop
invariant-loop l = l.at ≡ page_after l.next l.counter l.page
