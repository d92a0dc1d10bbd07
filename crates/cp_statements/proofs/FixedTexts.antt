-- The laws of the texts of a fixed length: what was spelled is read, and what is read was spelled so.
use Rattle.std.proofs.Common.{◌≡◌, ℕ, List, Ok, subst}
use Rattle.cp_bytes.specs.Fields.{IsBytes}
use Rattle.cp_statements.specs.PutRequest.{PutRequest, PutRequestFits, put_request_tag, put_request_fields, put_request_values, put_request_from, put_request_text, put_request_of}
use Rattle.cp_statements.specs.GetRequest.{GetRequest, GetRequestFits, get_request_tag, get_request_fields, get_request_values, get_request_from, get_request_text, get_request_of}
use Rattle.cp_statements.specs.CloseOrder.{CloseOrder, CloseOrderFits, close_order_tag, close_order_fields, close_order_values, close_order_from, close_order_text, close_order_of}
use Rattle.cp_statements.specs.CloseOrder2.{CloseOrder2, CloseOrder2Fits, close_order2_tag, close_order2_fields, close_order2_values, close_order2_from, close_order2_text, close_order2_of}
use Rattle.cp_statements.specs.Attestation.{Attestation, AttestationFits, attestation_tag, attestation_fields, attestation_values, attestation_from, attestation_text, attestation_of}
use Rattle.cp_statements.specs.Closing.{Closing, ClosingFits, closing_tag, closing_fields, closing_values, closing_from, closing_text, closing_of}
use Rattle.cp_statements.proofs.Tagged.{tagged_again, tagged_takes}

pub put_request_again : (x : PutRequest) → PutRequestFits x → put_request_of (put_request_text x) ≡ Ok x
unfolding put_request_of put_request_text
put_request_again x h = tagged_again put_request_tag put_request_fields put_request_from (put_request_values x) h

pub put_request_takes : (bytes : List ℕ) (x : PutRequest) → IsBytes bytes → put_request_of bytes ≡ Ok x → (bytes ≡ put_request_text x) × PutRequestFits x
unfolding put_request_of put_request_text
put_request_takes bytes x fits e =
    let t = tagged_takes put_request_tag put_request_fields put_request_from bytes x fits e in
    subst (λ (y : PutRequest). (bytes ≡ put_request_text y) × PutRequestFits y) t.1 (t.2, t.3)

pub get_request_again : (x : GetRequest) → GetRequestFits x → get_request_of (get_request_text x) ≡ Ok x
unfolding get_request_of get_request_text
get_request_again x h = tagged_again get_request_tag get_request_fields get_request_from (get_request_values x) h

pub get_request_takes : (bytes : List ℕ) (x : GetRequest) → IsBytes bytes → get_request_of bytes ≡ Ok x → (bytes ≡ get_request_text x) × GetRequestFits x
unfolding get_request_of get_request_text
get_request_takes bytes x fits e =
    let t = tagged_takes get_request_tag get_request_fields get_request_from bytes x fits e in
    subst (λ (y : GetRequest). (bytes ≡ get_request_text y) × GetRequestFits y) t.1 (t.2, t.3)

pub close_order_again : (x : CloseOrder) → CloseOrderFits x → close_order_of (close_order_text x) ≡ Ok x
unfolding close_order_of close_order_text
close_order_again x h = tagged_again close_order_tag close_order_fields close_order_from (close_order_values x) h

pub close_order_takes : (bytes : List ℕ) (x : CloseOrder) → IsBytes bytes → close_order_of bytes ≡ Ok x → (bytes ≡ close_order_text x) × CloseOrderFits x
unfolding close_order_of close_order_text
close_order_takes bytes x fits e =
    let t = tagged_takes close_order_tag close_order_fields close_order_from bytes x fits e in
    subst (λ (y : CloseOrder). (bytes ≡ close_order_text y) × CloseOrderFits y) t.1 (t.2, t.3)

pub close_order2_again : (x : CloseOrder2) → CloseOrder2Fits x → close_order2_of (close_order2_text x) ≡ Ok x
unfolding close_order2_of close_order2_text
close_order2_again x h = tagged_again close_order2_tag close_order2_fields close_order2_from (close_order2_values x) h

pub close_order2_takes : (bytes : List ℕ) (x : CloseOrder2) → IsBytes bytes → close_order2_of bytes ≡ Ok x → (bytes ≡ close_order2_text x) × CloseOrder2Fits x
unfolding close_order2_of close_order2_text
close_order2_takes bytes x fits e =
    let t = tagged_takes close_order2_tag close_order2_fields close_order2_from bytes x fits e in
    subst (λ (y : CloseOrder2). (bytes ≡ close_order2_text y) × CloseOrder2Fits y) t.1 (t.2, t.3)

pub attestation_again : (x : Attestation) → AttestationFits x → attestation_of (attestation_text x) ≡ Ok x
unfolding attestation_of attestation_text
attestation_again x h = tagged_again attestation_tag attestation_fields attestation_from (attestation_values x) h

pub attestation_takes : (bytes : List ℕ) (x : Attestation) → IsBytes bytes → attestation_of bytes ≡ Ok x → (bytes ≡ attestation_text x) × AttestationFits x
unfolding attestation_of attestation_text
attestation_takes bytes x fits e =
    let t = tagged_takes attestation_tag attestation_fields attestation_from bytes x fits e in
    subst (λ (y : Attestation). (bytes ≡ attestation_text y) × AttestationFits y) t.1 (t.2, t.3)

pub closing_again : (x : Closing) → ClosingFits x → closing_of (closing_text x) ≡ Ok x
unfolding closing_of closing_text
closing_again x h = tagged_again closing_tag closing_fields closing_from (closing_values x) h

pub closing_takes : (bytes : List ℕ) (x : Closing) → IsBytes bytes → closing_of bytes ≡ Ok x → (bytes ≡ closing_text x) × ClosingFits x
unfolding closing_of closing_text
closing_takes bytes x fits e =
    let t = tagged_takes closing_tag closing_fields closing_from bytes x fits e in
    subst (λ (y : Closing). (bytes ≡ closing_text y) × ClosingFits y) t.1 (t.2, t.3)
