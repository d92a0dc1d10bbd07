use Rattle.cp_pages.proofs.Chains.{IsReadTo}
use Rattle.cp_pages.proofs.chain.read.Given as goal

abbrev pub invariant-loop-i : goal.invariant-loop-i
invariant-loop-i l = IsReadTo l.pages l.next l.first l.out l.i l.page
