use Rattle.std.proofs.Common.{sym, ◌∙◌}
use Rattle.cp_statements.specs.View.{envelope_view}
use Rattle.cp_judge.proofs.Signed.{signed_long}
use Rattle.cp_judge.proofs.envelopes.try_k2.Goals as goal

pub same_leaf-requires-clause-x : goal.same_leaf-requires-clause-x
same_leaf-requires-clause-x c =
    signed_long c.args.store.now.key (envelope_view c.args.two.now.x) (sym c.signed.ensures ∙ c.in_ok-check.ensures.holds)

pub same_leaf-requires-clause-y : goal.same_leaf-requires-clause-y
same_leaf-requires-clause-y c =
    signed_long c.args.store.now.key (envelope_view c.args.two.now.y) (sym c.signed-2.ensures ∙ c.in_ok-check-2.ensures.holds)
