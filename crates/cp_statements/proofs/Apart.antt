-- No bytes are a text of two forms: each form begins with its own tag.
use Rattle.std.proofs.Common.{◌≡◌, ℕ, List, ◌∷◌, take, Result, Ok, Err, refl, sym, ap, ◌∙◌}
use Rattle.std.specs.Prelude.{bytes_eq, if◌then◌else◌, IsOk}
use Rattle.cp_bytes.specs.Fields.{◌>>=◌, fields_at, ended}
use Rattle.cp_bytes.specs.Fields.Field.{Tag}
use Rattle.cp_bytes.proofs.FieldLemmas.{bind_ok, at_offset_ok}
use Rattle.cp_statements.specs.PutRequest as put_request
use Rattle.cp_statements.specs.GetRequest as get_request
use Rattle.cp_statements.specs.CloseOrder as close_order
use Rattle.cp_statements.specs.CloseOrder2 as close_order2
use Rattle.cp_statements.specs.Attestation as attestation
use Rattle.cp_statements.specs.Closing as closing
use Rattle.cp_statements.specs.Entry as entry
use Rattle.cp_statements.specs.Laws.{Form, IsText, FormsAreApart, KindsAreApart}
use Rattle.cp_statements.specs.Laws.Form.{PutRequest, GetRequest, CloseOrder, CloseOrder2, Entry, Attestation, Closing}
use Rattle.cp_statements.proofs.Tagged.{tag_stands, tagged_begins}

tag_of : Form → List ℕ
tag_of PutRequest = put_request.put_request_tag
tag_of GetRequest = get_request.get_request_tag
tag_of CloseOrder = close_order.close_order_tag
tag_of CloseOrder2 = close_order2.close_order2_tag
tag_of Entry = entry.entry_tag
tag_of Attestation = attestation.attestation_tag
tag_of Closing = closing.closing_tag

ok_value : {A : Type 0} (r : Result A ℕ) → IsOk r → (x : A) × (r ≡ Ok x)
ok_value (Ok x) h = (x, refl)
ok_value (Err e) h = absurd cc

begins : (f : Form) (bytes : List ℕ) → IsText f bytes → take 4 bytes ≡ tag_of f
unfolding put_request.put_request_of get_request.get_request_of close_order.close_order_of close_order2.close_order2_of attestation.attestation_of closing.closing_of entry.entry_of entry.entry_at tag_of
begins PutRequest bytes h = let r = ok_value (put_request.put_request_of bytes) h in tagged_begins put_request.put_request_tag put_request.put_request_fields put_request.put_request_from bytes r.0 r.1
begins GetRequest bytes h = let r = ok_value (get_request.get_request_of bytes) h in tagged_begins get_request.get_request_tag get_request.get_request_fields get_request.get_request_from bytes r.0 r.1
begins CloseOrder bytes h = let r = ok_value (close_order.close_order_of bytes) h in tagged_begins close_order.close_order_tag close_order.close_order_fields close_order.close_order_from bytes r.0 r.1
begins CloseOrder2 bytes h = let r = ok_value (close_order2.close_order2_of bytes) h in tagged_begins close_order2.close_order2_tag close_order2.close_order2_fields close_order2.close_order2_from bytes r.0 r.1
begins Attestation bytes h = let r = ok_value (attestation.attestation_of bytes) h in tagged_begins attestation.attestation_tag attestation.attestation_fields attestation.attestation_from bytes r.0 r.1
begins Closing bytes h = let r = ok_value (closing.closing_of bytes) h in tagged_begins closing.closing_tag closing.closing_fields closing.closing_from bytes r.0 r.1
begins Entry bytes h =
    let r = ok_value (entry.entry_of bytes) h in
    let b = bind_ok (entry.entry_at bytes) ended r.0 (at_offset_ok bytes (entry.entry_at bytes >>= ended) r.0 r.1) in
    let c = bind_ok (fields_at (Tag entry.entry_tag ∷ entry.entry_fields) bytes) _ b.0 b.1 in
    tag_stands entry.entry_tag entry.entry_fields bytes c.0 c.1

-- the form whose tag it is
form_with : List ℕ → Form
form_with tag =
    if bytes_eq tag put_request.put_request_tag then PutRequest
    else (if bytes_eq tag get_request.get_request_tag then GetRequest
    else (if bytes_eq tag close_order.close_order_tag then CloseOrder
    else (if bytes_eq tag close_order2.close_order2_tag then CloseOrder2
    else (if bytes_eq tag entry.entry_tag then Entry
    else (if bytes_eq tag attestation.attestation_tag then Attestation else Closing)))))

form_is : (f : Form) → form_with (tag_of f) ≡ f
unfolding form_with tag_of
form_is PutRequest = refl
form_is GetRequest = refl
form_is CloseOrder = refl
form_is CloseOrder2 = refl
form_is Entry = refl
form_is Attestation = refl
form_is Closing = refl

pub forms_apart : FormsAreApart
forms_apart f g bytes p q = sym (form_is f) ∙ ap form_with (sym (begins f bytes p) ∙ begins g bytes q) ∙ form_is g

pub kinds_apart : KindsAreApart
kinds_apart bytes a c p q =
    let same : Attestation ≡ Closing = forms_apart Attestation Closing bytes (rw p refl) (rw q refl) in
    absurd cc
