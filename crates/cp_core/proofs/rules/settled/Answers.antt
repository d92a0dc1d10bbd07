use Rattle.std.proofs.Common.{sym, ◌∙◌}
use Rattle.cp_core.proofs.RuleLemmas.{settled_at, settled_first, settled_written}
use Rattle.cp_core.proofs.rules.settled.Goals as goal

pub returns-in-Some : goal.returns-in-Some
returns-in-Some c =
    settled_written c.args.store.now c.args.pages c.args.first.now c.args.items.now c.args.contents.now c.args.request.now c.in-Some.refusal
    (sym c.epoch.ensures ∙ c.if-epoch-current.false ∙ c.epoch_now-current.ensures) (sym c.unwritten.ensures ∙ c.in-Some.is)

pub returns-in_default-found : goal.returns-in_default-found
returns-in_default-found c =
    c.first_refused.ensures
    ∙ sym (settled_first c.args.store.now c.args.pages c.args.first.now c.args.items.now c.args.contents.now c.args.request.now
    (sym c.epoch.ensures ∙ c.if-epoch-current.false ∙ c.epoch_now-current.ensures) (sym c.unwritten.ensures ∙ c.in_default.is) c.in_default-found.ensures)

pub returns-in_ok-again-in-Row : goal.returns-in_ok-again-in-Row
returns-in_ok-again-in-Row c =
    settled_at c.args.store.now c.args.pages c.args.first.now c.args.items.now c.args.contents.now c.args.request.now c.in-Some-found.at c.index-items-at.result c.in-Row.pass c.in-Row.leaf c.in-Row.pages c.in-Row.entry c.as_slice.result.now c.in_ok-again-in-Row.field-0
    (sym c.epoch.ensures ∙ c.if-epoch-current.false ∙ c.epoch_now-current.ensures) (sym c.unwritten.ensures ∙ c.in_default.is) c.in-Some-found.ensures c.index-items-at.is c.in-Row.is c.as_slice.ensures c.in_ok-again-in-Row.ensures
