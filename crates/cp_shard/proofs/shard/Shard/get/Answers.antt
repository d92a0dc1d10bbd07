use Rattle.std.proofs.Common.{◌≡◌, ◌++◌, Ok, refl, sym, ap, subst, ◌∙◌, arith}
use Rattle.std.proofs.lemmas.List.{append-nil}
use Rattle.cp_statements.specs.Attestation.{Attestation}
use Rattle.cp_statements.specs.View.{attestation_view}
use Rattle.cp_tips.specs.Tip.{Tip}
use Rattle.cp_tips.specs.View.{tip_view}
use Rattle.cp_core.specs.Booking.{Booking}
use Rattle.cp_core.specs.Calls.{Effect, answer_in, added, attested, head_of}
use Rattle.cp_core.specs.declared.request.Request.TheVariants as ask
use Rattle.cp_core.specs.declared.answer.Answer.TheVariants as spoken
use Rattle.cp_shard.specs.Model.{ShardModel}
use Rattle.cp_shard.specs.Steps.{AddsBelow, AddsNewLeaf, drawn, said, step_of}
use Rattle.cp_shard.proofs.StepLaws.{get_may}
use Rattle.cp_shard.proofs.Whole.{refuses_said, refuses_late, settled_step, new_step, next_is, get_entry, get_content, signed_at, tip_head, epoch_some}
use Rattle.cp_shard.proofs.shard.Shard.get.Goals as goal

pub returns-in-Err-clause-refused : goal.returns-in-Err-clause-refused
returns-in-Err-clause-refused g c = refuses_said c.args.self.now c.args.pass (ask.Get c.args.request.now) (get_may c.args.self.now.first c.args.self.now.items c.args.request.now) c.args.limit _ c.in-Err.refusal c.in-Err.ensures

pub returns-in-Ok-Some-clause-answer : goal.returns-in-Ok-Some-clause-answer
returns-in-Ok-Some-clause-answer g c = ap answer_in (settled_step c.args.self.now c.args.pass (ask.Get c.args.request.now) (get_may c.args.self.now.first c.args.self.now.items c.args.request.now) (spoken.Booked c.in-Ok-Some.booked) (Ok c.in-Ok-Some.booked.leaf) (c.in-Ok-Some.ensures ∙ ap (λ o. said (Ok o)) c.in-Ok-Some.field-0-is))

pub returns-in-Ok-Some-clause-items : goal.returns-in-Ok-Some-clause-items
returns-in-Ok-Some-clause-items g c =
    let v = c.args.self.now in
    let step = settled_step v c.args.pass (ask.Get c.args.request.now) (get_may c.args.self.now.first c.args.self.now.items c.args.request.now) (spoken.Booked c.in-Ok-Some.booked) (Ok c.in-Ok-Some.booked.leaf) (c.in-Ok-Some.ensures ∙ ap (λ o. said (Ok o)) c.in-Ok-Some.field-0-is) in
    ap (λ xs. record v { items = xs }) (sym (append-nil v.items)) ∙ ap (λ (o : Effect). record v { items = v.items ++ added o }) (sym step)

pub returns-in-Ok-Some-clause-below : goal.returns-in-Ok-Some-clause-below
returns-in-Ok-Some-clause-below g c =
    let step = settled_step c.args.self.now c.args.pass (ask.Get c.args.request.now) (get_may c.args.self.now.first c.args.self.now.items c.args.request.now) (spoken.Booked c.in-Ok-Some.booked) (Ok c.in-Ok-Some.booked.leaf) (c.in-Ok-Some.ensures ∙ ap (λ o. said (Ok o)) c.in-Ok-Some.field-0-is) in
    subst (λ (o : Effect). AddsBelow o c.args.limit) (sym step) tt

pub returns-in-Ok-Some-clause-once : goal.returns-in-Ok-Some-clause-once
returns-in-Ok-Some-clause-once g c =
    let given = g.L.LeafSource.given c.args.leaves.now in
    let step = settled_step c.args.self.now c.args.pass (ask.Get c.args.request.now) (get_may c.args.self.now.first c.args.self.now.items c.args.request.now) (spoken.Booked c.in-Ok-Some.booked) (Ok c.in-Ok-Some.booked.leaf) (c.in-Ok-Some.ensures ∙ ap (λ o. said (Ok o)) c.in-Ok-Some.field-0-is) in
    subst (λ (o : Effect). AddsNewLeaf o given) (sym step) tt

pub returns-in-Ok-Some-clause-given : goal.returns-in-Ok-Some-clause-given
returns-in-Ok-Some-clause-given g c =
    let step = settled_step c.args.self.now c.args.pass (ask.Get c.args.request.now) (get_may c.args.self.now.first c.args.self.now.items c.args.request.now) (spoken.Booked c.in-Ok-Some.booked) (Ok c.in-Ok-Some.booked.leaf) (c.in-Ok-Some.ensures ∙ ap (λ o. said (Ok o)) c.in-Ok-Some.field-0-is) in
    sym (append-nil _) ∙ ap (λ (o : Effect). g.L.LeafSource.given c.args.leaves.now ++ drawn o c.in-Ok-Some.booked.leaf) (sym step)

pub attest-attestation-requires-clause-epoch : goal.attest-attestation-requires-clause-epoch
attest-attestation-requires-clause-epoch g c = epoch_some c.args.self.now.store c.args.self.now.items c.args.self.now.contents (ask.Get c.args.request.now) (c.in-Ok-None.ensures ∙ ap (λ o. said (Ok o)) c.in-Ok-None.field-0-is)

pub append_get-requires-clause-next : goal.append_get-requires-clause-next
append_get-requires-clause-next g c =
    let v = c.args.self.now in let r = c.args.request.now in
    let entry = get_entry v.items r (tip_view c.tip-tip.result) c.tip-tip.ensures in
    let store : c.self.inside.store ≡ v.store = ap (λ (v : ShardModel). v.store) c.self.view_is in
    let head : c.tip-tip.result.head ≡ head_of v.items r.block = ap (λ (t : Tip). t.head) c.tip-tip.ensures ∙ tip_head v.items r.block in
    next_is v.store v.index v.items v.contents (ask.Get r) _ (attestation_view c.attest-attestation.result) c.in-Ok.text (c.in-Ok-None.ensures ∙ ap (λ o. said (Ok o)) c.in-Ok-None.field-0-is) c.requires.shard entry c.attest-attestation.ensures.fits
    (signed_at (attestation_view c.attest-attestation.result) c.self.inside.store v.store c.tip-tip.result.head (head_of v.items r.block) _ c.attest-attestation.ensures.attested store head) c.in-Ok.ensures

pub append_get-requires-clause-get : goal.append_get-requires-clause-get
append_get-requires-clause-get g c = rw c.attest-attestation.ensures.kind refl

pub returns-in-Err-append_get-clause-refused : goal.returns-in-Err-append_get-clause-refused
returns-in-Err-append_get-clause-refused g c =
    refuses_late c.args.self.now c.args.pass (ask.Get c.args.request.now) (get_may c.args.self.now.first c.args.self.now.items c.args.request.now) c.args.limit _ 0 0 c.in-Err-append_get.refusal (c.in-Ok-None.ensures ∙ ap (λ o. said (Ok o)) c.in-Ok-None.field-0-is) refl (λ h. absurd (omega (arith, h))) (λ h. omega arith) c.in-Err-append_get.ensures.late

pub returns-in-Ok-append_get-clause-answer : goal.returns-in-Ok-append_get-clause-answer
returns-in-Ok-append_get-clause-answer g c =
    let v = c.args.self.now in let r = c.args.request.now in let leaf = c.in-Ok-append_get.leaf in
    let a : Attestation = attestation_view c.attest-attestation.result in
    let store : c.self.inside.store ≡ v.store = ap (λ (v : ShardModel). v.store) c.self.view_is in
    let head : c.tip-tip.result.head ≡ head_of v.items r.block = ap (λ (t : Tip). t.head) c.tip-tip.ensures ∙ tip_head v.items r.block in
    let step = new_step v c.args.pass (ask.Get r) (get_may v.first v.items r) leaf _ a c.in-Ok.text c.in-Ok-content.content (c.in-Ok-None.ensures ∙ ap (λ o. said (Ok o)) c.in-Ok-None.field-0-is) (omega arith)
    (get_entry v.items r (tip_view c.tip-tip.result) c.tip-tip.ensures) (signed_at (attestation_view c.attest-attestation.result) c.self.inside.store v.store c.tip-tip.result.head (head_of v.items r.block) _ c.attest-attestation.ensures.attested store head) c.in-Ok.ensures
    (get_content v.items v.contents r c.in-Ok-content.content c.in-Ok-content.ensures) in
    ap (λ (b : Booking). answer_in (step_of v c.args.pass (ask.Get r) (Ok b.leaf))) c.new.ensures ∙ ap answer_in step
    ∙ ap (λ t. spoken.Booked (record { leaf = leaf; text = t; content = c.in-Ok-content.content })) (sym c.text-in-Ok-append_get.ensures) ∙ ap spoken.Booked (sym c.new.ensures)

pub returns-in-Ok-append_get-clause-items : goal.returns-in-Ok-append_get-clause-items
returns-in-Ok-append_get-clause-items g c =
    let v = c.args.self.now in let r = c.args.request.now in let leaf = c.in-Ok-append_get.leaf in
    let a : Attestation = attestation_view c.attest-attestation.result in
    let store : c.self.inside.store ≡ v.store = ap (λ (v : ShardModel). v.store) c.self.view_is in
    let head : c.tip-tip.result.head ≡ head_of v.items r.block = ap (λ (t : Tip). t.head) c.tip-tip.ensures ∙ tip_head v.items r.block in
    let step = new_step v c.args.pass (ask.Get r) (get_may v.first v.items r) leaf _ a c.in-Ok.text c.in-Ok-content.content (c.in-Ok-None.ensures ∙ ap (λ o. said (Ok o)) c.in-Ok-None.field-0-is) (omega arith)
    (get_entry v.items r (tip_view c.tip-tip.result) c.tip-tip.ensures) (signed_at (attestation_view c.attest-attestation.result) c.self.inside.store v.store c.tip-tip.result.head (head_of v.items r.block) _ c.attest-attestation.ensures.attested store head) c.in-Ok.ensures
    (get_content v.items v.contents r c.in-Ok-content.content c.in-Ok-content.ensures) in
    c.in-Ok-append_get.ensures.appended ∙ ap (λ (o : Effect). record v { items = v.items ++ added o }) (sym step)
    ∙ ap (λ (b : Booking). record v { items = v.items ++ added (step_of v c.args.pass (ask.Get r) (Ok b.leaf)) }) (sym c.new.ensures)

pub returns-in-Ok-append_get-clause-below : goal.returns-in-Ok-append_get-clause-below
returns-in-Ok-append_get-clause-below g c =
    let v = c.args.self.now in let r = c.args.request.now in let leaf = c.in-Ok-append_get.leaf in
    let a : Attestation = attestation_view c.attest-attestation.result in
    let store : c.self.inside.store ≡ v.store = ap (λ (v : ShardModel). v.store) c.self.view_is in
    let head : c.tip-tip.result.head ≡ head_of v.items r.block = ap (λ (t : Tip). t.head) c.tip-tip.ensures ∙ tip_head v.items r.block in
    let step = new_step v c.args.pass (ask.Get r) (get_may v.first v.items r) leaf _ a c.in-Ok.text c.in-Ok-content.content (c.in-Ok-None.ensures ∙ ap (λ o. said (Ok o)) c.in-Ok-None.field-0-is) (omega arith)
    (get_entry v.items r (tip_view c.tip-tip.result) c.tip-tip.ensures) (signed_at (attestation_view c.attest-attestation.result) c.self.inside.store v.store c.tip-tip.result.head (head_of v.items r.block) _ c.attest-attestation.ensures.attested store head) c.in-Ok.ensures
    (get_content v.items v.contents r c.in-Ok-content.content c.in-Ok-content.ensures) in
    subst (λ (b : Booking). AddsBelow (step_of v c.args.pass (ask.Get r) (Ok b.leaf)) c.args.limit) (sym c.new.ensures)
    (subst (λ (o : Effect). AddsBelow o c.args.limit) (sym step) c.in-Ok-append_get.ensures.below)

pub returns-in-Ok-append_get-clause-once : goal.returns-in-Ok-append_get-clause-once
returns-in-Ok-append_get-clause-once g c =
    let given = g.L.LeafSource.given c.args.leaves.now in
    let v = c.args.self.now in let r = c.args.request.now in let leaf = c.in-Ok-append_get.leaf in
    let a : Attestation = attestation_view c.attest-attestation.result in
    let store : c.self.inside.store ≡ v.store = ap (λ (v : ShardModel). v.store) c.self.view_is in
    let head : c.tip-tip.result.head ≡ head_of v.items r.block = ap (λ (t : Tip). t.head) c.tip-tip.ensures ∙ tip_head v.items r.block in
    let step = new_step v c.args.pass (ask.Get r) (get_may v.first v.items r) leaf _ a c.in-Ok.text c.in-Ok-content.content (c.in-Ok-None.ensures ∙ ap (λ o. said (Ok o)) c.in-Ok-None.field-0-is) (omega arith)
    (get_entry v.items r (tip_view c.tip-tip.result) c.tip-tip.ensures) (signed_at (attestation_view c.attest-attestation.result) c.self.inside.store v.store c.tip-tip.result.head (head_of v.items r.block) _ c.attest-attestation.ensures.attested store head) c.in-Ok.ensures
    (get_content v.items v.contents r c.in-Ok-content.content c.in-Ok-content.ensures) in
    subst (λ (b : Booking). AddsNewLeaf (step_of v c.args.pass (ask.Get r) (Ok b.leaf)) given) (sym c.new.ensures)
    (subst (λ (o : Effect). AddsNewLeaf o given) (sym step) c.in-Ok-append_get.ensures.once)

pub returns-in-Ok-append_get-clause-given : goal.returns-in-Ok-append_get-clause-given
returns-in-Ok-append_get-clause-given g c =
    let v = c.args.self.now in let r = c.args.request.now in let leaf = c.in-Ok-append_get.leaf in
    let a : Attestation = attestation_view c.attest-attestation.result in
    let store : c.self.inside.store ≡ v.store = ap (λ (v : ShardModel). v.store) c.self.view_is in
    let head : c.tip-tip.result.head ≡ head_of v.items r.block = ap (λ (t : Tip). t.head) c.tip-tip.ensures ∙ tip_head v.items r.block in
    let step = new_step v c.args.pass (ask.Get r) (get_may v.first v.items r) leaf _ a c.in-Ok.text c.in-Ok-content.content (c.in-Ok-None.ensures ∙ ap (λ o. said (Ok o)) c.in-Ok-None.field-0-is) (omega arith)
    (get_entry v.items r (tip_view c.tip-tip.result) c.tip-tip.ensures) (signed_at (attestation_view c.attest-attestation.result) c.self.inside.store v.store c.tip-tip.result.head (head_of v.items r.block) _ c.attest-attestation.ensures.attested store head) c.in-Ok.ensures
    (get_content v.items v.contents r c.in-Ok-content.content c.in-Ok-content.ensures) in
    c.in-Ok-append_get.ensures.given ∙ ap (λ (o : Effect). g.L.LeafSource.given c.args.leaves.now ++ drawn o leaf) (sym step)
    ∙ ap (λ (b : Booking). g.L.LeafSource.given c.args.leaves.now ++ drawn (step_of v c.args.pass (ask.Get r) (Ok b.leaf)) b.leaf) (sym c.new.ensures)
