use Rattle.std.proofs.Common.{sym, ◌∙◌, refl}
use Rattle.cp_core.specs.View.{state_view, store_view}
use Rattle.cp_core.proofs.StepLemmas.{call_made, call_over, call_settled}
use Rattle.cp_core.proofs.machine.Machine.call.Goals as goal

pub returns-in-Some-clause-stepped : goal.returns-in-Some-clause-stepped
returns-in-Some-clause-stepped c = call_settled (store_view c.args.self.now) (state_view c.args.self.now) c.args.pass c.args.request c.in-Some.answer (sym c.in_ok-answer.ensures ∙ c.in-Some.is)

pub returns-then-self-clause-stepped : goal.returns-then-self-clause-stepped
returns-then-self-clause-stepped c = call_over (store_view c.args.self.now) (state_view c.args.self.now) c.args.pass c.args.request (sym c.in_ok-answer.ensures ∙ c.in_default.is) c.if-self.true

pub returns-clause-stepped : goal.returns-clause-stepped
returns-clause-stepped c =
    call_made (store_view c.args.self.now) (state_view c.args.self.now) c.args.pass c.args.request c.in_ok-booked.field-0.booked c.in_ok-booked.field-0.row _ c.block.result c.into_content.result (state_view c.append.new.self)
    (sym c.in_ok-answer.ensures ∙ c.in_default.is) c.if-self.false c.in_ok-booked.ensures.booked c.in_ok-booked.ensures.row c.block.ensures refl c.into_content.ensures
    c.in_ok-append.ensures.life c.in_ok-append.ensures.contents c.in_ok-append.ensures.phase c.in_ok-append.ensures.published c.in_ok-append.ensures.kept c.in_ok-append.ensures.drawn
