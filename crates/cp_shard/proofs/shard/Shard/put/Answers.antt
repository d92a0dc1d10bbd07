use Rattle.std.proofs.Common.{◌≡◌, ◌+◌, ◌≤◌, cond, eqb, length, [], ◌∷◌, ◌++◌, Some, None, Ok, refl, sym, ap, subst, ◌∙◌, arith}
use Rattle.std.proofs.lemmas.List.{append-nil}
use Rattle.cp_statements.specs.PutRequest as put_spec
use Rattle.cp_statements.specs.View.{attestation_view}
use Rattle.cp_tips.specs.Tip.{Tip}
use Rattle.cp_tips.specs.View.{tip_view}
use Rattle.cp_core.specs.Booking.{Booking}
use Rattle.cp_core.specs.Life.{row_item, shard_of}
use Rattle.cp_core.specs.Requests.{pages_of}
use Rattle.cp_core.specs.Calls.{Effect, answer_in, added, attested, content_at, head_of, pages_free}
use Rattle.cp_core.specs.declared.request.Request.{Request}
use Rattle.cp_core.specs.declared.request.Request.TheVariants as ask
use Rattle.cp_core.specs.declared.answer.Answer.TheVariants as spoken
use Rattle.cp_pages.specs.Pages.{pages_for}
use Rattle.cp_shard.specs.Model.{ShardModel}
use Rattle.cp_shard.specs.Steps.{AddsBelow, AddsNewLeaf, contents_after, drawn, early, OnMemory, put_of, Refuses, said, step_of}
use Rattle.cp_shard.proofs.PutPages.{pages_is}
use Rattle.cp_shard.proofs.StepLaws.{put_may}
use Rattle.cp_shard.proofs.Whole.{early_any, put_is, put_version, epoch_some, signature_few, refuses_early, refuses_late, memory_early, settled_step, new_step, next_is, put_entry, no_content, signed_at, tip_head, put_memory, put_reads}
use Rattle.cp_shard.proofs.shard.Shard.put.Goals as goal

pub returns-in-Err-clause-refused : goal.returns-in-Err-clause-refused
returns-in-Err-clause-refused g c =
    let v = c.args.self.now in let q = c.request-request.result.now in let p = c.args.put.now in let bytes = c.args.content.now in
    let asked : Request = ask.Put q p.signature bytes in
    let is : asked ≡ put_of p bytes = put_is p q bytes c.request-request.ensures.request in
    let may = put_may v p q bytes c.request-request.ensures.request c.request-request.ensures.signed c.requires.written in
    let found : early v.store v.items v.contents asked ≡ Some (spoken.CallRefused c.in-Err.refusal) = early_any v.store v.items v.contents q p.signature bytes ∙ c.in-Err.ensures in
    subst (λ r. Refuses (step_of v c.args.pass r) c.args.limit (g.L.LeafSource.found c.args.leaves.now) c.in-Err.refusal) is (refuses_early v c.args.pass asked may c.args.limit _ c.in-Err.refusal found)

pub returns-in-Err-clause-memory : goal.returns-in-Err-clause-memory
returns-in-Err-clause-memory g c =
    let v = c.args.self.now in let q = c.request-request.result.now in let p = c.args.put.now in let bytes = c.args.content.now in
    let asked : Request = ask.Put q p.signature bytes in
    let is : asked ≡ put_of p bytes = put_is p q bytes c.request-request.ensures.request in
    let found : early v.store v.items v.contents asked ≡ Some (spoken.CallRefused c.in-Err.refusal) = early_any v.store v.items v.contents q p.signature bytes ∙ c.in-Err.ensures in
    subst (λ r. OnMemory (early v.store v.items v.contents r ≡ None) c.in-Err.refusal) is (memory_early v.store v.items v.contents asked (early v.store v.items v.contents asked ≡ None) c.in-Err.refusal found)

pub returns-in-Ok-Some-clause-answer : goal.returns-in-Ok-Some-clause-answer
returns-in-Ok-Some-clause-answer g c =
    let v = c.args.self.now in let q = c.request-request.result.now in let p = c.args.put.now in let bytes = c.args.content.now in
    let asked : Request = ask.Put q p.signature bytes in
    let is : asked ≡ put_of p bytes = put_is p q bytes c.request-request.ensures.request in
    let may = put_may v p q bytes c.request-request.ensures.request c.request-request.ensures.signed c.requires.written in
    let found : early v.store v.items v.contents asked ≡ Some (spoken.Booked c.in-Ok-Some.booked) = early_any v.store v.items v.contents q p.signature bytes ∙ (c.in-Ok-Some.ensures ∙ ap (λ o. said (Ok o)) c.in-Ok-Some.field-0-is) in
    subst (λ r. answer_in (step_of v c.args.pass r (Ok c.in-Ok-Some.booked.leaf)) ≡ spoken.Booked c.in-Ok-Some.booked) is (ap answer_in (settled_step v c.args.pass asked may (spoken.Booked c.in-Ok-Some.booked) (Ok c.in-Ok-Some.booked.leaf) found))

pub returns-in-Ok-Some-clause-items : goal.returns-in-Ok-Some-clause-items
returns-in-Ok-Some-clause-items g c =
    let v = c.args.self.now in let q = c.request-request.result.now in let p = c.args.put.now in let bytes = c.args.content.now in
    let asked : Request = ask.Put q p.signature bytes in
    let is : asked ≡ put_of p bytes = put_is p q bytes c.request-request.ensures.request in
    let may = put_may v p q bytes c.request-request.ensures.request c.request-request.ensures.signed c.requires.written in
    let found : early v.store v.items v.contents asked ≡ Some (spoken.Booked c.in-Ok-Some.booked) = early_any v.store v.items v.contents q p.signature bytes ∙ (c.in-Ok-Some.ensures ∙ ap (λ o. said (Ok o)) c.in-Ok-Some.field-0-is) in
    let step = settled_step v c.args.pass asked may (spoken.Booked c.in-Ok-Some.booked) (Ok c.in-Ok-Some.booked.leaf) found in
    subst (λ r. v.items ≡ v.items ++ added (step_of v c.args.pass r (Ok c.in-Ok-Some.booked.leaf))) is (sym (append-nil v.items) ∙ ap (λ (o : Effect). v.items ++ added o) (sym step))

pub returns-in-Ok-Some-clause-contents : goal.returns-in-Ok-Some-clause-contents
returns-in-Ok-Some-clause-contents g c =
    let v = c.args.self.now in let q = c.request-request.result.now in let p = c.args.put.now in let bytes = c.args.content.now in
    let asked : Request = ask.Put q p.signature bytes in
    let is : asked ≡ put_of p bytes = put_is p q bytes c.request-request.ensures.request in
    let may = put_may v p q bytes c.request-request.ensures.request c.request-request.ensures.signed c.requires.written in
    let found : early v.store v.items v.contents asked ≡ Some (spoken.Booked c.in-Ok-Some.booked) = early_any v.store v.items v.contents q p.signature bytes ∙ (c.in-Ok-Some.ensures ∙ ap (λ o. said (Ok o)) c.in-Ok-Some.field-0-is) in
    let step = settled_step v c.args.pass asked may (spoken.Booked c.in-Ok-Some.booked) (Ok c.in-Ok-Some.booked.leaf) found in
    λ block. subst (λ r. content_at v.contents block ≡ content_at (contents_after (step_of v c.args.pass r (Ok c.in-Ok-Some.booked.leaf)) r v.contents) block) is (ap (λ (o : Effect). content_at (contents_after o asked v.contents) block) (sym step))

pub returns-in-Ok-Some-clause-below : goal.returns-in-Ok-Some-clause-below
returns-in-Ok-Some-clause-below g c =
    let v = c.args.self.now in let q = c.request-request.result.now in let p = c.args.put.now in let bytes = c.args.content.now in
    let asked : Request = ask.Put q p.signature bytes in
    let is : asked ≡ put_of p bytes = put_is p q bytes c.request-request.ensures.request in
    let may = put_may v p q bytes c.request-request.ensures.request c.request-request.ensures.signed c.requires.written in
    let found : early v.store v.items v.contents asked ≡ Some (spoken.Booked c.in-Ok-Some.booked) = early_any v.store v.items v.contents q p.signature bytes ∙ (c.in-Ok-Some.ensures ∙ ap (λ o. said (Ok o)) c.in-Ok-Some.field-0-is) in
    let step = settled_step v c.args.pass asked may (spoken.Booked c.in-Ok-Some.booked) (Ok c.in-Ok-Some.booked.leaf) found in
    subst (λ r. AddsBelow (step_of v c.args.pass r (Ok c.in-Ok-Some.booked.leaf)) c.args.limit) is (subst (λ (o : Effect). AddsBelow o c.args.limit) (sym step) tt)

pub returns-in-Ok-Some-clause-once : goal.returns-in-Ok-Some-clause-once
returns-in-Ok-Some-clause-once g c =
    let given = g.L.LeafSource.given c.args.leaves.now in
    let v = c.args.self.now in let q = c.request-request.result.now in let p = c.args.put.now in let bytes = c.args.content.now in
    let asked : Request = ask.Put q p.signature bytes in
    let is : asked ≡ put_of p bytes = put_is p q bytes c.request-request.ensures.request in
    let may = put_may v p q bytes c.request-request.ensures.request c.request-request.ensures.signed c.requires.written in
    let found : early v.store v.items v.contents asked ≡ Some (spoken.Booked c.in-Ok-Some.booked) = early_any v.store v.items v.contents q p.signature bytes ∙ (c.in-Ok-Some.ensures ∙ ap (λ o. said (Ok o)) c.in-Ok-Some.field-0-is) in
    let step = settled_step v c.args.pass asked may (spoken.Booked c.in-Ok-Some.booked) (Ok c.in-Ok-Some.booked.leaf) found in
    subst (λ r. AddsNewLeaf (step_of v c.args.pass r (Ok c.in-Ok-Some.booked.leaf)) given) is (subst (λ (o : Effect). AddsNewLeaf o given) (sym step) tt)

pub returns-in-Ok-Some-clause-given : goal.returns-in-Ok-Some-clause-given
returns-in-Ok-Some-clause-given g c =
    let v = c.args.self.now in let q = c.request-request.result.now in let p = c.args.put.now in let bytes = c.args.content.now in
    let asked : Request = ask.Put q p.signature bytes in
    let is : asked ≡ put_of p bytes = put_is p q bytes c.request-request.ensures.request in
    let may = put_may v p q bytes c.request-request.ensures.request c.request-request.ensures.signed c.requires.written in
    let found : early v.store v.items v.contents asked ≡ Some (spoken.Booked c.in-Ok-Some.booked) = early_any v.store v.items v.contents q p.signature bytes ∙ (c.in-Ok-Some.ensures ∙ ap (λ o. said (Ok o)) c.in-Ok-Some.field-0-is) in
    let step = settled_step v c.args.pass asked may (spoken.Booked c.in-Ok-Some.booked) (Ok c.in-Ok-Some.booked.leaf) found in
    let given = g.L.LeafSource.given c.args.leaves.now in
    subst (λ r. given ≡ given ++ drawn (step_of v c.args.pass r (Ok c.in-Ok-Some.booked.leaf)) c.in-Ok-Some.booked.leaf) is (sym (append-nil given) ∙ ap (λ (o : Effect). given ++ drawn o c.in-Ok-Some.booked.leaf) (sym step))

pub returns-in_default-clause-memory : goal.returns-in_default-clause-memory
returns-in_default-clause-memory g c =
    let v = c.args.self.now in let q = c.request-request.result.now in let p = c.args.put.now in let bytes = c.args.content.now in
    let asked : Request = ask.Put q p.signature bytes in
    let is : asked ≡ put_of p bytes = put_is p q bytes c.request-request.ensures.request in
    let found : early v.store v.items v.contents asked ≡ None = early_any v.store v.items v.contents q p.signature bytes ∙ (c.in-Ok-None.ensures ∙ ap (λ o. said (Ok o)) c.in-Ok-None.field-0-is) in
    subst (λ r. early v.store v.items v.contents r ≡ None) is found

pub attest-attestation-requires-clause-epoch : goal.attest-attestation-requires-clause-epoch
attest-attestation-requires-clause-epoch g c =
    let v = c.args.self.now in let q = c.request-request.result.now in let p = c.args.put.now in let bytes = c.args.content.now in
    let asked : Request = ask.Put q p.signature bytes in
    let is : asked ≡ put_of p bytes = put_is p q bytes c.request-request.ensures.request in
    let found : early v.store v.items v.contents asked ≡ None = early_any v.store v.items v.contents q p.signature bytes ∙ (c.in-Ok-None.ensures ∙ ap (λ o. said (Ok o)) c.in-Ok-None.field-0-is) in
    epoch_some v.store v.items v.contents asked found

pub attest-attestation-requires-clause-signature : goal.attest-attestation-requires-clause-signature
attest-attestation-requires-clause-signature g c =
    rw c.signature.ensures.signature (signature_few c.args.put.now.key _ c.args.put.now.signature c.signature.ensures.signed)

pub append_put-requires-clause-next : goal.append_put-requires-clause-next
append_put-requires-clause-next g c =
    let v = c.args.self.now in let q = c.request-request.result.now in let p = c.args.put.now in let bytes = c.args.content.now in
    let asked : Request = ask.Put q p.signature bytes in
    let is : asked ≡ put_of p bytes = put_is p q bytes c.request-request.ensures.request in
    let found : early v.store v.items v.contents asked ≡ None = early_any v.store v.items v.contents q p.signature bytes ∙ (c.in-Ok-None.ensures ∙ ap (λ o. said (Ok o)) c.in-Ok-None.field-0-is) in
    let store : c.self.inside.store ≡ v.store = ap (λ (v : ShardModel). v.store) c.self.view_is in
    let head : c.tip-tip.result.head ≡ head_of v.items q.block = ap (λ (t : Tip). t.head) c.tip-tip.ensures ∙ tip_head v.items q.block in
    let entry =
    ap (λ s. record { kind = 1; epoch = q.epoch; block = q.block; position = c.tip-tip.result.count; client = q.client; nonce = q.nonce; version = q.version; content = q.content; signature = s }) c.signature.ensures.signature
    ∙ put_entry v.items q p.signature bytes (tip_view c.tip-tip.result) c.tip-tip.ensures in
    let signed = signed_at (attestation_view c.attest-attestation.result) c.self.inside.store v.store c.tip-tip.result.head (head_of v.items q.block) _ c.attest-attestation.ensures.attested store head in
    let shard : shard_of q.block ≡ v.index = ap (λ (r : put_spec.PutRequest). shard_of r.block) c.request-request.ensures.request ∙ c.requires.shard in
    next_is v.store v.index v.items v.contents asked _ (attestation_view c.attest-attestation.result) c.in-Ok.text found shard entry c.attest-attestation.ensures.fits signed c.in-Ok.ensures

pub append_put-requires-clause-put : goal.append_put-requires-clause-put
append_put-requires-clause-put g c =
    rw c.attest-attestation.ensures.kind refl

pub append_put-requires-clause-version : goal.append_put-requires-clause-version
append_put-requires-clause-version g c =
    let v = c.args.self.now in let q = c.request-request.result.now in let p = c.args.put.now in let bytes = c.args.content.now in
    let asked : Request = ask.Put q p.signature bytes in
    let is : asked ≡ put_of p bytes = put_is p q bytes c.request-request.ensures.request in
    let found : early v.store v.items v.contents asked ≡ None = early_any v.store v.items v.contents q p.signature bytes ∙ (c.in-Ok-None.ensures ∙ ap (λ o. said (Ok o)) c.in-Ok-None.field-0-is) in
    omega (arith, c.attest-attestation.ensures.version, put_version v.store v.items v.contents q p.signature bytes found)

pub append_put-requires-clause-hash : goal.append_put-requires-clause-hash
append_put-requires-clause-hash g c =
    c.requires.hash ∙ ap (λ (r : put_spec.PutRequest). r.content) (sym c.request-request.ensures.request) ∙ sym c.attest-attestation.ensures.content

pub returns-in-Err-append_put-clause-refused : goal.returns-in-Err-append_put-clause-refused
returns-in-Err-append_put-clause-refused g c =
    let v = c.args.self.now in let q = c.request-request.result.now in let p = c.args.put.now in let bytes = c.args.content.now in
    let asked : Request = ask.Put q p.signature bytes in
    let is : asked ≡ put_of p bytes = put_is p q bytes c.request-request.ensures.request in
    let may = put_may v p q bytes c.request-request.ensures.request c.request-request.ensures.signed c.requires.written in
    let found : early v.store v.items v.contents asked ≡ None = early_any v.store v.items v.contents q p.signature bytes ∙ (c.in-Ok-None.ensures ∙ ap (λ o. said (Ok o)) c.in-Ok-None.field-0-is) in
    let pages : pages_for (length bytes) ≡ pages_of asked = pages_is (length bytes) in
    subst (λ r. Refuses (step_of v c.args.pass r) c.args.limit (g.L.LeafSource.found c.append_put.new.leaves) c.in-Err-append_put.refusal) is
    (refuses_late v c.args.pass asked may c.args.limit _ (pages_free v.pages v.items) (pages_for (length bytes)) c.in-Err-append_put.refusal found pages (λ h. refl) (λ h. h) c.in-Err-append_put.ensures.late)

pub returns-in-Err-append_put-clause-memory : goal.returns-in-Err-append_put-clause-memory
returns-in-Err-append_put-clause-memory g c =
    let v = c.args.self.now in let q = c.request-request.result.now in let p = c.args.put.now in let bytes = c.args.content.now in
    let asked : Request = ask.Put q p.signature bytes in
    let is : asked ≡ put_of p bytes = put_is p q bytes c.request-request.ensures.request in
    let found : early v.store v.items v.contents asked ≡ None = early_any v.store v.items v.contents q p.signature bytes ∙ (c.in-Ok-None.ensures ∙ ap (λ o. said (Ok o)) c.in-Ok-None.field-0-is) in
    subst (λ r. OnMemory (early v.store v.items v.contents r ≡ None) c.in-Err-append_put.refusal) is (put_memory (early v.store v.items v.contents asked ≡ None) found c.in-Err-append_put.refusal)

pub returns-in-Ok-append_put-clause-answer : goal.returns-in-Ok-append_put-clause-answer
returns-in-Ok-append_put-clause-answer g c =
    let v = c.args.self.now in let q = c.request-request.result.now in let p = c.args.put.now in let bytes = c.args.content.now in
    let asked : Request = ask.Put q p.signature bytes in
    let is : asked ≡ put_of p bytes = put_is p q bytes c.request-request.ensures.request in
    let may = put_may v p q bytes c.request-request.ensures.request c.request-request.ensures.signed c.requires.written in
    let found : early v.store v.items v.contents asked ≡ None = early_any v.store v.items v.contents q p.signature bytes ∙ (c.in-Ok-None.ensures ∙ ap (λ o. said (Ok o)) c.in-Ok-None.field-0-is) in
    let store : c.self.inside.store ≡ v.store = ap (λ (v : ShardModel). v.store) c.self.view_is in
    let head : c.tip-tip.result.head ≡ head_of v.items q.block = ap (λ (t : Tip). t.head) c.tip-tip.ensures ∙ tip_head v.items q.block in
    let entry =
    ap (λ s. record { kind = 1; epoch = q.epoch; block = q.block; position = c.tip-tip.result.count; client = q.client; nonce = q.nonce; version = q.version; content = q.content; signature = s }) c.signature.ensures.signature
    ∙ put_entry v.items q p.signature bytes (tip_view c.tip-tip.result) c.tip-tip.ensures in
    let signed = signed_at (attestation_view c.attest-attestation.result) c.self.inside.store v.store c.tip-tip.result.head (head_of v.items q.block) _ c.attest-attestation.ensures.attested store head in
    let leaf = c.in-Ok-append_put.leaf in
    let room : pages_of asked ≤ pages_free v.pages v.items = omega (arith, c.in-Ok-append_put.ensures.fits, pages_is (length bytes)) in
    let step = new_step v c.args.pass asked may leaf _ (attestation_view c.attest-attestation.result) c.in-Ok.text [] found room entry signed c.in-Ok.ensures (no_content v.items v.contents q p.signature bytes [] refl) in
    let none : c.from_vec-none.result ≡ [] = c.from_vec-none.ensures ∙ c.new.ensures.items in
    subst (λ r. answer_in (step_of v c.args.pass r (Ok c.new-in-Ok-append_put.result.leaf)) ≡ spoken.Booked c.new-in-Ok-append_put.result) is
    (ap (λ (b : Booking). answer_in (step_of v c.args.pass asked (Ok b.leaf))) c.new-in-Ok-append_put.ensures ∙ ap answer_in step
    ∙ ap (λ t. spoken.Booked (record { leaf = leaf; text = t; content = [] })) (sym c.text-signed.ensures) ∙ ap (λ x. spoken.Booked (record { leaf = leaf; text = c.text-signed.result; content = x })) (sym none) ∙ ap spoken.Booked (sym c.new-in-Ok-append_put.ensures))

pub returns-in-Ok-append_put-clause-items : goal.returns-in-Ok-append_put-clause-items
returns-in-Ok-append_put-clause-items g c =
    let v = c.args.self.now in let q = c.request-request.result.now in let p = c.args.put.now in let bytes = c.args.content.now in
    let asked : Request = ask.Put q p.signature bytes in
    let is : asked ≡ put_of p bytes = put_is p q bytes c.request-request.ensures.request in
    let may = put_may v p q bytes c.request-request.ensures.request c.request-request.ensures.signed c.requires.written in
    let found : early v.store v.items v.contents asked ≡ None = early_any v.store v.items v.contents q p.signature bytes ∙ (c.in-Ok-None.ensures ∙ ap (λ o. said (Ok o)) c.in-Ok-None.field-0-is) in
    let store : c.self.inside.store ≡ v.store = ap (λ (v : ShardModel). v.store) c.self.view_is in
    let head : c.tip-tip.result.head ≡ head_of v.items q.block = ap (λ (t : Tip). t.head) c.tip-tip.ensures ∙ tip_head v.items q.block in
    let entry =
    ap (λ s. record { kind = 1; epoch = q.epoch; block = q.block; position = c.tip-tip.result.count; client = q.client; nonce = q.nonce; version = q.version; content = q.content; signature = s }) c.signature.ensures.signature
    ∙ put_entry v.items q p.signature bytes (tip_view c.tip-tip.result) c.tip-tip.ensures in
    let signed = signed_at (attestation_view c.attest-attestation.result) c.self.inside.store v.store c.tip-tip.result.head (head_of v.items q.block) _ c.attest-attestation.ensures.attested store head in
    let leaf = c.in-Ok-append_put.leaf in
    let room : pages_of asked ≤ pages_free v.pages v.items = omega (arith, c.in-Ok-append_put.ensures.fits, pages_is (length bytes)) in
    let step = new_step v c.args.pass asked may leaf _ (attestation_view c.attest-attestation.result) c.in-Ok.text [] found room entry signed c.in-Ok.ensures (no_content v.items v.contents q p.signature bytes [] refl) in
    subst (λ r. c.append_put.new.self.items ≡ v.items ++ added (step_of v c.args.pass r (Ok c.new-in-Ok-append_put.result.leaf))) is
    (c.in-Ok-append_put.ensures.items ∙ ap (λ n. v.items ++ row_item (record { pass = c.args.pass; leaf = leaf; pages = n; entry = c.in-Ok.text }) ∷ []) (pages_is (length bytes))
    ∙ ap (λ (o : Effect). v.items ++ added o) (sym step) ∙ ap (λ (b : Booking). v.items ++ added (step_of v c.args.pass asked (Ok b.leaf))) (sym c.new-in-Ok-append_put.ensures))

pub returns-in-Ok-append_put-clause-contents : goal.returns-in-Ok-append_put-clause-contents
returns-in-Ok-append_put-clause-contents g c =
    let v = c.args.self.now in let q = c.request-request.result.now in let p = c.args.put.now in let bytes = c.args.content.now in
    let asked : Request = ask.Put q p.signature bytes in
    let is : asked ≡ put_of p bytes = put_is p q bytes c.request-request.ensures.request in
    let may = put_may v p q bytes c.request-request.ensures.request c.request-request.ensures.signed c.requires.written in
    let found : early v.store v.items v.contents asked ≡ None = early_any v.store v.items v.contents q p.signature bytes ∙ (c.in-Ok-None.ensures ∙ ap (λ o. said (Ok o)) c.in-Ok-None.field-0-is) in
    let store : c.self.inside.store ≡ v.store = ap (λ (v : ShardModel). v.store) c.self.view_is in
    let head : c.tip-tip.result.head ≡ head_of v.items q.block = ap (λ (t : Tip). t.head) c.tip-tip.ensures ∙ tip_head v.items q.block in
    let entry =
    ap (λ s. record { kind = 1; epoch = q.epoch; block = q.block; position = c.tip-tip.result.count; client = q.client; nonce = q.nonce; version = q.version; content = q.content; signature = s }) c.signature.ensures.signature
    ∙ put_entry v.items q p.signature bytes (tip_view c.tip-tip.result) c.tip-tip.ensures in
    let signed = signed_at (attestation_view c.attest-attestation.result) c.self.inside.store v.store c.tip-tip.result.head (head_of v.items q.block) _ c.attest-attestation.ensures.attested store head in
    let leaf = c.in-Ok-append_put.leaf in
    let room : pages_of asked ≤ pages_free v.pages v.items = omega (arith, c.in-Ok-append_put.ensures.fits, pages_is (length bytes)) in
    let step = new_step v c.args.pass asked may leaf _ (attestation_view c.attest-attestation.result) c.in-Ok.text [] found room entry signed c.in-Ok.ensures (no_content v.items v.contents q p.signature bytes [] refl) in
    let blocks : c.attest-attestation.result.block ≡ q.block = c.attest-attestation.ensures.block in
    λ b. subst (λ r. content_at c.append_put.new.self.contents b ≡ content_at (contents_after (step_of v c.args.pass r (Ok c.new-in-Ok-append_put.result.leaf)) r v.contents) b) is
    (c.in-Ok-append_put.ensures.contents b ∙ ap (λ k. cond (eqb k b) bytes (content_at v.contents b)) blocks ∙ put_reads v.contents q p.signature bytes b
    ∙ ap (λ (o : Effect). content_at (contents_after o asked v.contents) b) (sym step) ∙ ap (λ (x : Booking). content_at (contents_after (step_of v c.args.pass asked (Ok x.leaf)) asked v.contents) b) (sym c.new-in-Ok-append_put.ensures))

pub returns-in-Ok-append_put-clause-below : goal.returns-in-Ok-append_put-clause-below
returns-in-Ok-append_put-clause-below g c =
    let v = c.args.self.now in let q = c.request-request.result.now in let p = c.args.put.now in let bytes = c.args.content.now in
    let asked : Request = ask.Put q p.signature bytes in
    let is : asked ≡ put_of p bytes = put_is p q bytes c.request-request.ensures.request in
    let may = put_may v p q bytes c.request-request.ensures.request c.request-request.ensures.signed c.requires.written in
    let found : early v.store v.items v.contents asked ≡ None = early_any v.store v.items v.contents q p.signature bytes ∙ (c.in-Ok-None.ensures ∙ ap (λ o. said (Ok o)) c.in-Ok-None.field-0-is) in
    let store : c.self.inside.store ≡ v.store = ap (λ (v : ShardModel). v.store) c.self.view_is in
    let head : c.tip-tip.result.head ≡ head_of v.items q.block = ap (λ (t : Tip). t.head) c.tip-tip.ensures ∙ tip_head v.items q.block in
    let entry =
    ap (λ s. record { kind = 1; epoch = q.epoch; block = q.block; position = c.tip-tip.result.count; client = q.client; nonce = q.nonce; version = q.version; content = q.content; signature = s }) c.signature.ensures.signature
    ∙ put_entry v.items q p.signature bytes (tip_view c.tip-tip.result) c.tip-tip.ensures in
    let signed = signed_at (attestation_view c.attest-attestation.result) c.self.inside.store v.store c.tip-tip.result.head (head_of v.items q.block) _ c.attest-attestation.ensures.attested store head in
    let leaf = c.in-Ok-append_put.leaf in
    let room : pages_of asked ≤ pages_free v.pages v.items = omega (arith, c.in-Ok-append_put.ensures.fits, pages_is (length bytes)) in
    let step = new_step v c.args.pass asked may leaf _ (attestation_view c.attest-attestation.result) c.in-Ok.text [] found room entry signed c.in-Ok.ensures (no_content v.items v.contents q p.signature bytes [] refl) in
    subst (λ r. AddsBelow (step_of v c.args.pass r (Ok c.new-in-Ok-append_put.result.leaf)) c.args.limit) is
    (subst (λ (b : Booking). AddsBelow (step_of v c.args.pass asked (Ok b.leaf)) c.args.limit) (sym c.new-in-Ok-append_put.ensures)
    (subst (λ (o : Effect). AddsBelow o c.args.limit) (sym step) c.in-Ok-append_put.ensures.below))

pub returns-in-Ok-append_put-clause-once : goal.returns-in-Ok-append_put-clause-once
returns-in-Ok-append_put-clause-once g c =
    let given = g.L.LeafSource.given c.args.leaves.now in
    let v = c.args.self.now in let q = c.request-request.result.now in let p = c.args.put.now in let bytes = c.args.content.now in
    let asked : Request = ask.Put q p.signature bytes in
    let is : asked ≡ put_of p bytes = put_is p q bytes c.request-request.ensures.request in
    let may = put_may v p q bytes c.request-request.ensures.request c.request-request.ensures.signed c.requires.written in
    let found : early v.store v.items v.contents asked ≡ None = early_any v.store v.items v.contents q p.signature bytes ∙ (c.in-Ok-None.ensures ∙ ap (λ o. said (Ok o)) c.in-Ok-None.field-0-is) in
    let store : c.self.inside.store ≡ v.store = ap (λ (v : ShardModel). v.store) c.self.view_is in
    let head : c.tip-tip.result.head ≡ head_of v.items q.block = ap (λ (t : Tip). t.head) c.tip-tip.ensures ∙ tip_head v.items q.block in
    let entry =
    ap (λ s. record { kind = 1; epoch = q.epoch; block = q.block; position = c.tip-tip.result.count; client = q.client; nonce = q.nonce; version = q.version; content = q.content; signature = s }) c.signature.ensures.signature
    ∙ put_entry v.items q p.signature bytes (tip_view c.tip-tip.result) c.tip-tip.ensures in
    let signed = signed_at (attestation_view c.attest-attestation.result) c.self.inside.store v.store c.tip-tip.result.head (head_of v.items q.block) _ c.attest-attestation.ensures.attested store head in
    let leaf = c.in-Ok-append_put.leaf in
    let room : pages_of asked ≤ pages_free v.pages v.items = omega (arith, c.in-Ok-append_put.ensures.fits, pages_is (length bytes)) in
    let step = new_step v c.args.pass asked may leaf _ (attestation_view c.attest-attestation.result) c.in-Ok.text [] found room entry signed c.in-Ok.ensures (no_content v.items v.contents q p.signature bytes [] refl) in
    subst (λ r. AddsNewLeaf (step_of v c.args.pass r (Ok c.new-in-Ok-append_put.result.leaf)) given) is
    (subst (λ (b : Booking). AddsNewLeaf (step_of v c.args.pass asked (Ok b.leaf)) given) (sym c.new-in-Ok-append_put.ensures)
    (subst (λ (o : Effect). AddsNewLeaf o given) (sym step) c.in-Ok-append_put.ensures.once))

pub returns-in-Ok-append_put-clause-given : goal.returns-in-Ok-append_put-clause-given
returns-in-Ok-append_put-clause-given g c =
    let v = c.args.self.now in let q = c.request-request.result.now in let p = c.args.put.now in let bytes = c.args.content.now in
    let asked : Request = ask.Put q p.signature bytes in
    let is : asked ≡ put_of p bytes = put_is p q bytes c.request-request.ensures.request in
    let may = put_may v p q bytes c.request-request.ensures.request c.request-request.ensures.signed c.requires.written in
    let found : early v.store v.items v.contents asked ≡ None = early_any v.store v.items v.contents q p.signature bytes ∙ (c.in-Ok-None.ensures ∙ ap (λ o. said (Ok o)) c.in-Ok-None.field-0-is) in
    let store : c.self.inside.store ≡ v.store = ap (λ (v : ShardModel). v.store) c.self.view_is in
    let head : c.tip-tip.result.head ≡ head_of v.items q.block = ap (λ (t : Tip). t.head) c.tip-tip.ensures ∙ tip_head v.items q.block in
    let entry =
    ap (λ s. record { kind = 1; epoch = q.epoch; block = q.block; position = c.tip-tip.result.count; client = q.client; nonce = q.nonce; version = q.version; content = q.content; signature = s }) c.signature.ensures.signature
    ∙ put_entry v.items q p.signature bytes (tip_view c.tip-tip.result) c.tip-tip.ensures in
    let signed = signed_at (attestation_view c.attest-attestation.result) c.self.inside.store v.store c.tip-tip.result.head (head_of v.items q.block) _ c.attest-attestation.ensures.attested store head in
    let leaf = c.in-Ok-append_put.leaf in
    let room : pages_of asked ≤ pages_free v.pages v.items = omega (arith, c.in-Ok-append_put.ensures.fits, pages_is (length bytes)) in
    let step = new_step v c.args.pass asked may leaf _ (attestation_view c.attest-attestation.result) c.in-Ok.text [] found room entry signed c.in-Ok.ensures (no_content v.items v.contents q p.signature bytes [] refl) in
    let given = g.L.LeafSource.given c.args.leaves.now in
    subst (λ r. g.L.LeafSource.given c.append_put.new.leaves ≡ given ++ drawn (step_of v c.args.pass r (Ok c.new-in-Ok-append_put.result.leaf)) c.new-in-Ok-append_put.result.leaf) is
    (c.in-Ok-append_put.ensures.given ∙ ap (λ (o : Effect). given ++ drawn o leaf) (sym step) ∙ ap (λ (b : Booking). given ++ drawn (step_of v c.args.pass asked (Ok b.leaf)) b.leaf) (sym c.new-in-Ok-append_put.ensures))
