use Rattle.std.proofs.Common.{◌≡◌, None, Some, refl, sym, ap, subst, ◌∙◌}
use Rattle.cp_tips.specs.Tip.{Tip}
use Rattle.cp_core.specs.Booking.{Booking}
use Rattle.cp_core.specs.Calls.{epoch_now, content_at}
use Rattle.cp_core.specs.declared.request.Request.TheVariants as ask
use Rattle.cp_core.specs.declared.answer.Answer.TheVariants.{Booked, CallRefused}
use Rattle.cp_core.specs.declared.call_refusal.CallRefusal.TheVariants as refusal
use Rattle.cp_shard.specs.Model.{ShardModel}
use Rattle.cp_shard.specs.Steps.{HasBooking}
use Rattle.cp_shard.proofs.StepLaws.{early_epoch, early_in, used_get, over_get, again_get, tip_version}
use Rattle.cp_shard.proofs.shard.Shard.early_get.Goals as goal

pub returns-then-request-self : goal.returns-then-request-self
returns-then-request-self c =
    let v = c.args.self.now in let r = c.args.request.now in
    let now : c.self.inside.epoch ≡ epoch_now v.items = c.self.invariant.0.epoch_is ∙ ap (λ (v : ShardModel). epoch_now v.items) c.self.view_is in
    early_epoch v.store v.items v.contents (ask.Get r) (λ e. c.if-request-self.true (e ∙ sym now)) ∙ ap (λ n. Some (CallRefused (refusal.WrongEpoch n))) (sym now)

pub returns-then-not-is_get : goal.returns-then-not-is_get
returns-then-not-is_get c =
    let v = c.args.self.now in let r = c.args.request.now in let h = c.in-Some.ensures in
    let now : c.self.inside.epoch ≡ epoch_now v.items = c.self.invariant.0.epoch_is ∙ ap (λ (v : ShardModel). epoch_now v.items) c.self.view_is in
    early_in v.store v.items v.contents (ask.Get r) (Some h.row) (c.if-request-self.false ∙ now) h.found
    ∙ used_get v.store v.items v.contents (record { block = r.block; client = r.client; nonce = r.nonce }) c.in-Some.call h r c.if-not-is_get.ensures

pub returns-then-call-latest : goal.returns-then-call-latest
returns-then-call-latest c =
    let v = c.args.self.now in let r = c.args.request.now in let h = c.in-Some.ensures in
    let now : c.self.inside.epoch ≡ epoch_now v.items = c.self.invariant.0.epoch_is ∙ ap (λ (v : ShardModel). epoch_now v.items) c.self.view_is in
    early_in v.store v.items v.contents (ask.Get r) (Some h.row) (c.if-request-self.false ∙ now) h.found
    ∙ over_get v.store v.items v.contents (record { block = r.block; client = r.client; nonce = r.nonce }) c.in-Some.call h r c.tip-latest.result.version c.if-not-is_get.ensures
    (ap (λ (t : Tip). t.version) c.tip-latest.ensures ∙ tip_version v.items r.block) c.if-call-latest.true

pub returns-in_default : goal.returns-in_default
returns-in_default c =
    let v = c.args.self.now in let r = c.args.request.now in let h = c.in-Some.ensures in
    let now : c.self.inside.epoch ≡ epoch_now v.items = c.self.invariant.0.epoch_is ∙ ap (λ (v : ShardModel). epoch_now v.items) c.self.view_is in
    subst HasBooking
    (sym (early_in v.store v.items v.contents (ask.Get r) (Some h.row) (c.if-request-self.false ∙ now) h.found
    ∙ again_get v.store v.items v.contents (record { block = r.block; client = r.client; nonce = r.nonce }) c.in-Some.call h r c.tip-latest.result.version (content_at v.contents r.block) c.if-not-is_get.ensures
    (ap (λ (t : Tip). t.version) c.tip-latest.ensures ∙ tip_version v.items r.block) c.if-call-latest.false refl))
    tt

pub returns-in-Ok : goal.returns-in-Ok
returns-in-Ok c =
    let v = c.args.self.now in let r = c.args.request.now in let h = c.in-Some.ensures in
    let now : c.self.inside.epoch ≡ epoch_now v.items = c.self.invariant.0.epoch_is ∙ ap (λ (v : ShardModel). epoch_now v.items) c.self.view_is in
    early_in v.store v.items v.contents (ask.Get r) (Some h.row) (c.if-request-self.false ∙ now) h.found
    ∙ again_get v.store v.items v.contents (record { block = r.block; client = r.client; nonce = r.nonce }) c.in-Some.call h r c.tip-latest.result.version c.in-Ok.content c.if-not-is_get.ensures
    (ap (λ (t : Tip). t.version) c.tip-latest.ensures ∙ tip_version v.items r.block) c.if-call-latest.false c.in-Ok.ensures
    ∙ ap (λ t. Some (Booked (record { leaf = c.in-Some.call.leaf; text = t; content = c.in-Ok.content }))) (sym c.text-text.ensures)
    ∙ ap (λ (b : Booking). Some (Booked b)) (sym c.new.ensures)

pub returns-in-None : goal.returns-in-None
returns-in-None c =
    let v = c.args.self.now in let r = c.args.request.now in
    let now : c.self.inside.epoch ≡ epoch_now v.items = c.self.invariant.0.epoch_is ∙ ap (λ (v : ShardModel). epoch_now v.items) c.self.view_is in
    early_in v.store v.items v.contents (ask.Get r) None (c.if-request-self.false ∙ now) c.in-None.ensures
