use Rattle.std.proofs.Common.{sym, subst, ◌∙◌}
use Rattle.cp_core.specs.Store.{StoreFits}
use Rattle.cp_core.specs.View.{Standing}
use Rattle.cp_store.specs.Running.{IsOpen, HasFewLeaves}
use Rattle.cp_store.proofs.Closings.{IsDone, close_refused, close_done, done_open, done_closed}
use Rattle.cp_store.proofs.plain.Plain.close.Goals as goal

pub invariant_of-result : goal.invariant_of-result
invariant_of-result c =
    let same = close_refused c.args.self c.self.inside.core c.step.new.self c.in_ok-refusal.field-0 c.epoch-epoch.result c.args.next c.in-CloseRefused.refusal (sym c.self.view_is) c.epoch-epoch.ensures.running c.in_ok-refusal.ensures.stepped c.in_ok-refusal.ensures.store c.in-CloseRefused.is in
    subst IsOpen (c.self.view_is ∙ sym same.0) c.self.invariant

pub returns-in-CloseRefused : goal.returns-in-CloseRefused
returns-in-CloseRefused c = close_refused c.args.self c.self.inside.core c.step.new.self c.in_ok-refusal.field-0 c.epoch-epoch.result c.args.next c.in-CloseRefused.refusal (sym c.self.view_is) c.epoch-epoch.ensures.running c.in_ok-refusal.ensures.stepped c.in_ok-refusal.ensures.store c.in-CloseRefused.is

pub sealed-requires : goal.sealed-requires
sealed-requires c =
    let done : IsDone c.args.self c.step-3.new.self c.epoch-epoch.result c.args.next = close_done c.args.self c.self.inside.core c.step.new.self c.freeze_all.new.core c.step-2.new.self c.step-3.new.self c.in_ok-refusal.field-0 c.in_ok-step.field-0 c.in_ok-step-2.field-0 c.epoch-epoch.result c.args.next (subst (λ (x : Standing). StoreFits x.store) c.self.view_is c.self.invariant.fits) c.epoch-epoch.ensures.keeps c.requires (sym c.self.view_is) c.epoch-epoch.ensures.running
    c.in_ok-refusal.ensures.stepped c.in_ok-refusal.ensures.store c.in_default.not-CloseRefused c.in_ok-freeze_all.ensures.store c.in_ok-freeze_all.ensures.frozen c.in_ok-step.ensures.stepped c.in_ok-step.ensures.store c.in_ok-step-2.ensures.stepped c.in_ok-step-2.ensures.store in
    record { closed = done.whole.now; some = c.epoch-epoch.ensures.some; few = subst HasFewLeaves (sym done.store) (subst (λ (x : Standing). HasFewLeaves x.store) c.self.view_is c.self.invariant.few) }

pub invariant_of-result-2 : goal.invariant_of-result-2
invariant_of-result-2 c =
    let done : IsDone c.args.self c.step-3.new.self c.epoch-epoch.result c.args.next = close_done c.args.self c.self.inside.core c.step.new.self c.freeze_all.new.core c.step-2.new.self c.step-3.new.self c.in_ok-refusal.field-0 c.in_ok-step.field-0 c.in_ok-step-2.field-0 c.epoch-epoch.result c.args.next (subst (λ (x : Standing). StoreFits x.store) c.self.view_is c.self.invariant.fits) c.epoch-epoch.ensures.keeps c.requires (sym c.self.view_is) c.epoch-epoch.ensures.running
    c.in_ok-refusal.ensures.stepped c.in_ok-refusal.ensures.store c.in_default.not-CloseRefused c.in_ok-freeze_all.ensures.store c.in_ok-freeze_all.ensures.frozen c.in_ok-step.ensures.stepped c.in_ok-step.ensures.store c.in_ok-step-2.ensures.stepped c.in_ok-step-2.ensures.store in
    done_open c.args.self c.step-3.new.self c.epoch-epoch.result c.args.next done (subst (λ (x : Standing). StoreFits x.store) c.self.view_is c.self.invariant.fits) (subst (λ (x : Standing). HasFewLeaves x.store) c.self.view_is c.self.invariant.few)

pub returns : goal.returns
returns c =
    let done : IsDone c.args.self c.step-3.new.self c.epoch-epoch.result c.args.next = close_done c.args.self c.self.inside.core c.step.new.self c.freeze_all.new.core c.step-2.new.self c.step-3.new.self c.in_ok-refusal.field-0 c.in_ok-step.field-0 c.in_ok-step-2.field-0 c.epoch-epoch.result c.args.next (subst (λ (x : Standing). StoreFits x.store) c.self.view_is c.self.invariant.fits) c.epoch-epoch.ensures.keeps c.requires (sym c.self.view_is) c.epoch-epoch.ensures.running
    c.in_ok-refusal.ensures.stepped c.in_ok-refusal.ensures.store c.in_default.not-CloseRefused c.in_ok-freeze_all.ensures.store c.in_ok-freeze_all.ensures.frozen c.in_ok-step.ensures.stepped c.in_ok-step.ensures.store c.in_ok-step-2.ensures.stepped c.in_ok-step-2.ensures.store in
    done_closed c.args.self c.step-3.new.self c.epoch-epoch.result c.args.next c.in_ok-sealed.sealed done c.epoch-epoch.ensures.running c.in_ok-sealed.ensures.seal c.in_ok-sealed.ensures.log
