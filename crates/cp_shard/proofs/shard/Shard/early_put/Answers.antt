use Rattle.std.proofs.Common.{◌≡◌, None, Some, [], sym, ap, ◌∙◌}
use Rattle.cp_tips.specs.Tip.{Tip}
use Rattle.cp_core.specs.Booking.{Booking}
use Rattle.cp_core.specs.Calls.{epoch_now}
use Rattle.cp_core.specs.declared.request.Request.TheVariants as ask
use Rattle.cp_core.specs.declared.answer.Answer.TheVariants.{Booked, CallRefused}
use Rattle.cp_core.specs.declared.call_refusal.CallRefusal.TheVariants as refusal
use Rattle.cp_shard.specs.Model.{ShardModel}
use Rattle.cp_shard.proofs.StepLaws.{early_epoch, early_in, used_put, again_put, stale_put, next_put, tip_version}
use Rattle.cp_shard.proofs.shard.Shard.early_put.Goals as goal

pub returns-then-request-self : goal.returns-then-request-self
returns-then-request-self c =
    let v = c.args.self.now in let r = c.args.request.now in
    let now : c.self.inside.epoch ≡ epoch_now v.items = c.self.invariant.0.epoch_is ∙ ap (λ (v : ShardModel). epoch_now v.items) c.self.view_is in
    early_epoch v.store v.items v.contents (ask.Put r [] []) (λ e. c.if-request-self.true (e ∙ sym now)) ∙ ap (λ n. Some (CallRefused (refusal.WrongEpoch n))) (sym now)

pub returns-then-not-is_put : goal.returns-then-not-is_put
returns-then-not-is_put c =
    let v = c.args.self.now in let r = c.args.request.now in let h = c.in-Some.ensures in
    let now : c.self.inside.epoch ≡ epoch_now v.items = c.self.invariant.0.epoch_is ∙ ap (λ (v : ShardModel). epoch_now v.items) c.self.view_is in
    early_in v.store v.items v.contents (ask.Put r [] []) (Some h.row) (c.if-request-self.false ∙ now) h.found
    ∙ used_put v.store v.items v.contents (record { block = r.block; client = r.client; nonce = r.nonce }) c.in-Some.call h r [] [] c.if-not-is_put.ensures

pub returns-then-not-is_next : goal.returns-then-not-is_next
returns-then-not-is_next c =
    let v = c.args.self.now in let r = c.args.request.now in
    let now : c.self.inside.epoch ≡ epoch_now v.items = c.self.invariant.0.epoch_is ∙ ap (λ (v : ShardModel). epoch_now v.items) c.self.view_is in
    early_in v.store v.items v.contents (ask.Put r [] []) None (c.if-request-self.false ∙ now) c.in-None.ensures
    ∙ stale_put v.store v.items v.contents r [] [] c.tip-tip.result.version (ap (λ (t : Tip). t.version) c.tip-tip.ensures ∙ tip_version v.items r.block) c.if-not-is_next.ensures

pub returns-else-not-is_put : goal.returns-else-not-is_put
returns-else-not-is_put c =
    let v = c.args.self.now in let r = c.args.request.now in let h = c.in-Some.ensures in
    let now : c.self.inside.epoch ≡ epoch_now v.items = c.self.invariant.0.epoch_is ∙ ap (λ (v : ShardModel). epoch_now v.items) c.self.view_is in
    early_in v.store v.items v.contents (ask.Put r [] []) (Some h.row) (c.if-request-self.false ∙ now) h.found
    ∙ again_put v.store v.items v.contents (record { block = r.block; client = r.client; nonce = r.nonce }) c.in-Some.call h r [] [] c.if-not-is_put.ensures
    ∙ ap (λ t. Some (Booked (record { leaf = c.in-Some.call.leaf; text = t; content = [] }))) (sym c.text-text.ensures)
    ∙ ap (λ x. Some (Booked (record { leaf = c.in-Some.call.leaf; text = c.text-text.result; content = x }))) (sym (c.from_vec-none.ensures ∙ c.new.ensures.items))
    ∙ ap (λ (b : Booking). Some (Booked b)) (sym c.new-in-Some.ensures)

pub returns-else-not-is_next : goal.returns-else-not-is_next
returns-else-not-is_next c =
    let v = c.args.self.now in let r = c.args.request.now in
    let now : c.self.inside.epoch ≡ epoch_now v.items = c.self.invariant.0.epoch_is ∙ ap (λ (v : ShardModel). epoch_now v.items) c.self.view_is in
    early_in v.store v.items v.contents (ask.Put r [] []) None (c.if-request-self.false ∙ now) c.in-None.ensures
    ∙ next_put v.store v.items v.contents r [] [] c.tip-tip.result.version (ap (λ (t : Tip). t.version) c.tip-tip.ensures ∙ tip_version v.items r.block) c.if-not-is_next.ensures
