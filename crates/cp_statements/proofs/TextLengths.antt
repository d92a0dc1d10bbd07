-- The lengths of texts.
use Rattle.std.proofs.Common.{◌≡◌, ℕ, ◌+◌, List, length, ap, ◌∙◌, arith, length-append}
use Rattle.std.specs.Int.{w32, to_be_bytes}
use Rattle.cp_bytes.specs.Fields.{part}
use Rattle.cp_statements.specs.PutRequest.{PutRequest, PutRequestFits, put_request_tag, put_request_fields, put_request_values, put_request_text}
use Rattle.cp_statements.specs.GetRequest.{GetRequest, GetRequestFits, get_request_tag, get_request_fields, get_request_values, get_request_text}
use Rattle.cp_statements.specs.CloseOrder.{CloseOrder, CloseOrderFits, close_order_tag, close_order_fields, close_order_values, close_order_text}
use Rattle.cp_statements.specs.CloseOrder2.{CloseOrder2, CloseOrder2Fits, close_order2_tag, close_order2_fields, close_order2_values, close_order2_text}
use Rattle.cp_statements.specs.Attestation.{Attestation, AttestationFits, attestation_tag, attestation_fields, attestation_values, attestation_text}
use Rattle.cp_statements.specs.Closing.{Closing, ClosingFits, closing_tag, closing_fields, closing_values, closing_text}
use Rattle.cp_statements.specs.Entry.{Entry, EntryFits, entry_tag, entry_fields, entry_values, entry_text, signature_text}
use Rattle.cp_statements.specs.Tagged.{tagged_text}
use Rattle.cp_statements.proofs.Tagged.{length-tagged}

pub length-put_request_text : (x : PutRequest) → PutRequestFits x → length (put_request_text x) ≡ 104
unfolding put_request_text
length-put_request_text x h = length-tagged put_request_tag put_request_fields (put_request_values x) h

pub length-get_request_text : (x : GetRequest) → GetRequestFits x → length (get_request_text x) ≡ 64
unfolding get_request_text
length-get_request_text x h = length-tagged get_request_tag get_request_fields (get_request_values x) h

pub length-close_order_text : (x : CloseOrder) → CloseOrderFits x → length (close_order_text x) ≡ 44
unfolding close_order_text
length-close_order_text x h = length-tagged close_order_tag close_order_fields (close_order_values x) h

pub length-close_order2_text : (x : CloseOrder2) → CloseOrder2Fits x → length (close_order2_text x) ≡ 76
unfolding close_order2_text
length-close_order2_text x h = length-tagged close_order2_tag close_order2_fields (close_order2_values x) h

pub length-attestation_text : (x : Attestation) → AttestationFits x → length (attestation_text x) ≡ 177
unfolding attestation_text
length-attestation_text x h = length-tagged attestation_tag attestation_fields (attestation_values x) h

pub length-closing_text : (x : Closing) → ClosingFits x → length (closing_text x) ≡ 156
unfolding closing_text
length-closing_text x h = length-tagged closing_tag closing_fields (closing_values x) h

length-part : (text : List ℕ) → length (part text) ≡ 4 + length text
length-part text = length-append (to_be_bytes w32 (length text)) text

pub length-put_text : (x : Entry) → EntryFits x → x.kind ≡ 1 → length (entry_text x) ≡ 85 + length x.signature
unfolding entry_text
length-put_text x h put =
    let signed : signature_text x.kind x.signature ≡ part x.signature = ap (λ (kind : ℕ). signature_text kind x.signature) put in
    let last : length (signature_text x.kind x.signature) ≡ 4 + length x.signature = ap length signed ∙ length-part x.signature in
    omega (arith, length-append (tagged_text entry_tag entry_fields (entry_values x)) (signature_text x.kind x.signature), length-tagged entry_tag entry_fields (entry_values x) h.fields, last)

pub length-get_text : (x : Entry) → EntryFits x → x.kind ≡ 2 → length (entry_text x) ≡ 81
unfolding entry_text
length-get_text x h get =
    let last : length (signature_text x.kind x.signature) ≡ 0 = ap (λ (kind : ℕ). length (signature_text kind x.signature)) get in
    omega (arith, length-append (tagged_text entry_tag entry_fields (entry_values x)) (signature_text x.kind x.signature), length-tagged entry_tag entry_fields (entry_values x) h.fields, last)
