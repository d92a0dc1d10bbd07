use Rattle.std.proofs.Common.{◌≡◌, ℕ, None, Some, refl, subst, sym, ap, ◌∙◌}
use Rattle.cp_core.specs.Calls.{epoch_now, writers_key}
use Rattle.cp_core.specs.Store.{list_at}
use Rattle.cp_core.specs.declared.call_refusal.CallRefusal.TheVariants as refusal
use Rattle.cp_families.specs.Families.{key_of}
use Rattle.cp_statements.specs.View.{put_request_view}
use Rattle.cp_store.specs.Served.{RefusesPut}
use Rattle.cp_store.proofs.Verified.{no_writer, not_signed, other_epoch, written}
use Rattle.cp_store.proofs.answering.verified.Goals as goal

pub returns-then-request-current-clause-refused : goal.returns-then-request-current-clause-refused
returns-then-request-current-clause-refused c =
    subst (λ (n : ℕ). RefusesPut c.args.shard.now c.args.request.now c.args.signature.now (refusal.WrongEpoch n)) (sym c.current-current.ensures)
    (other_epoch c.args.shard.now c.args.request.now c.args.signature.now (λ same. c.if-request-current.true (same ∙ sym c.current-current.ensures)))

pub returns-in_default-clause-refused : goal.returns-in_default-clause-refused
returns-in_default-clause-refused c =
    let none : writers_key c.args.shard.now.first c.args.shard.now.items (put_request_view c.args.request.now) ≡ None =
    ap (λ (f : ℕ). key_of (list_at c.args.shard.now.first c.args.shard.now.items (epoch_now c.args.shard.now.items)) f c.args.request.now.client) (sym c.family_of-family.ensures) ∙ sym c.key_of.ensures ∙ c.in_default.is in
    subst (λ (f : ℕ). RefusesPut c.args.shard.now c.args.request.now c.args.signature.now (refusal.NotAWriter f c.args.request.now.client)) (sym c.family_of-family.ensures)
    (no_writer c.args.shard.now c.args.request.now c.args.signature.now (c.if-request-current.false ∙ c.current-current.ensures) none)

pub returns-in-Ok-clause-written : goal.returns-in-Ok-clause-written
returns-in-Ok-clause-written c =
    let has : writers_key c.args.shard.now.first c.args.shard.now.items (put_request_view c.args.request.now) ≡ Some c.in-Some.key =
    ap (λ (f : ℕ). key_of (list_at c.args.shard.now.first c.args.shard.now.items (epoch_now c.args.shard.now.items)) f c.args.request.now.client) (sym c.family_of-family.ensures) ∙ sym c.key_of.ensures ∙ c.in-Some.is in
    written c.args.shard.now c.args.store.now c.in-Some.key c.args.request.now c.args.signature.now (record { text = c.args.text.now; signature = c.args.signature.now }) c.in-Ok.put c.verify_put.result c.requires.fits c.requires.names c.requires.text refl
    c.verify_put.ensures.answer c.in-Ok.is (c.if-request-current.false ∙ c.current-current.ensures) has

pub returns-in-Err-clause-refused : goal.returns-in-Err-clause-refused
returns-in-Err-clause-refused c =
    let has : writers_key c.args.shard.now.first c.args.shard.now.items (put_request_view c.args.request.now) ≡ Some c.in-Some.key =
    ap (λ (f : ℕ). key_of (list_at c.args.shard.now.first c.args.shard.now.items (epoch_now c.args.shard.now.items)) f c.args.request.now.client) (sym c.family_of-family.ensures) ∙ sym c.key_of.ensures ∙ c.in-Some.is in
    not_signed c.args.shard.now c.args.store.now c.in-Some.key c.args.request.now c.args.signature.now (record { text = c.args.text.now; signature = c.args.signature.now }) c.in-Err.field-0 c.verify_put.result c.requires.fits c.requires.names c.requires.text refl
    c.verify_put.ensures.answer c.in-Err.is (c.if-request-current.false ∙ c.current-current.ensures) has
