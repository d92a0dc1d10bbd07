use Rattle.std.proofs.Common.{sym, ap, ◌∙◌}
use Rattle.std.proofs.lemmas.List.{drop_all}
use Rattle.cp_core.proofs.SearchLemmas.{found_in, found_here, found_nowhere}
use Rattle.cp_core.proofs.search.found.Goals as goal

pub returns-then-is_call : goal.returns-then-is_call
returns-then-is_call c = found_here c.args.request.now c.args.epoch c.loop-i.i c.args.items.now c.index-items-i.result c.index-items-i.is c.loop-i-test.true c.requires c.loop-i.invariant (sym c.is_call.ensures ∙ c.if-is_call.true)

pub returns : goal.returns
returns c = found_nowhere c.args.request.now c.args.epoch c.args.items.now c.requires (sym (ap (found_in c.args.request.now c.args.epoch) (drop_all c.loop-i.i c.args.items.now c.loop-i-test.false)) ∙ c.loop-i.invariant)
