-- What a new call is answered, put together.
use Rattle.std.proofs.Common.{◌≡◌, ℕ, List, ap, ◌∙◌}
use Rattle.cp_core.proofs.ContentLemmas.{new_block}
use Rattle.cp_core.proofs.RunningLemmas.{head_now}
use Rattle.cp_core.specs.Booking.{Booking}
use Rattle.cp_core.specs.Calls.{attested, booked, content_for, head_of, new_entry}
use Rattle.cp_core.specs.Requests.{block_of}
use Rattle.cp_core.specs.Running.{tip_of}
use Rattle.cp_core.specs.declared.content.Content.{Content}
use Rattle.cp_core.specs.declared.item.Item.{Item}
use Rattle.cp_core.specs.declared.request.Request.{Request}
use Rattle.cp_statements.specs.Attestation.{attestation_text}
use Rattle.cp_statements.specs.Entry.{Entry}
use Rattle.cp_tips.specs.Tip.{Tip}

pub booked_is : (store : List ℕ) (items : List Item) (contents : List Content) (request : Request) (leaf : ℕ) (e : Entry) (b : ℕ) (t : Tip) (signed content : List ℕ) → e ≡ new_entry items request → b ≡ block_of request → t ≡ tip_of items b → signed ≡ attestation_text (attested store t.head e) → content ≡ content_for contents e.kind e.block
    → (let x : Booking = record { leaf = leaf; text = signed; content = content } in x) ≡ booked store items contents request leaf
unfolding booked
booked_is store items contents request leaf e b t signed content entry block tip text served =
    let heads : t.head ≡ head_of items (block_of request) = ap (λ (u : Tip). u.head) tip ∙ head_now items b ∙ ap (head_of items) block in
    let texts : signed ≡ attestation_text (attested store (head_of items (block_of request)) (new_entry items request)) = text ∙ ap (λ (h : List ℕ). attestation_text (attested store h e)) heads ∙ ap (λ (d : Entry). attestation_text (attested store (head_of items (block_of request)) d)) entry in
    let contents_are : content ≡ content_for contents (new_entry items request).kind (block_of request) = served ∙ ap (λ (d : Entry). content_for contents d.kind d.block) entry ∙ ap (content_for contents (new_entry items request).kind) (new_block items request) in
    ap (λ (x : List ℕ). record { leaf = leaf; text = x; content = content }) texts
    ∙ ap (λ (x : List ℕ). record { leaf = leaf; text = attestation_text (attested store (head_of items (block_of request)) (new_entry items request)); content = x }) contents_are
