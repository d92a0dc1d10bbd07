use Rattle.cp_pages.proofs.Chains.{IsWrittenTo}
use Rattle.cp_pages.proofs.chain.write.Given as goal

abbrev pub invariant-loop-i : goal.invariant-loop-i
invariant-loop-i l = IsWrittenTo l.initial.pages l.pages l.next l.first l.content l.i l.page
