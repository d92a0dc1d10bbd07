-- What is asked: what was spelled is read, and what is read was spelled so.
use Rattle.std.proofs.Common.{◌≡◌, ℕ, ◌^◌, ◌<◌, Bool, true, false, cond, eqb, ◌&&◌, List, ◌++◌, length, take, drop, Ok, refl, sym, ap, subst, ◌∙◌, append_assoc, arith}
use Rattle.std.specs.Prelude.{bytes_eq}
use Rattle.std.specs.Int.{w32, to_be_bytes}
use Rattle.std.proofs.lemmas.List.{take_at}
use Rattle.cp_bytes.specs.Fields.{IsBytes, spell, ◌>>=◌, part, at_offset}
use Rattle.cp_bytes.proofs.FieldLemmas.{IsBytes-take, IsBytes-drop, bind_ok, ok_is, at_offset_ok}
use Rattle.cp_statements.specs.Envelope.{Envelope, envelope_text, envelope_at}
use Rattle.cp_statements.specs.GetRequest.{GetRequest, GetRequestFits, get_request_tag, get_request_text, get_request_of}
use Rattle.cp_statements.specs.PutRequest.{PutRequest, PutRequestFits, put_request_text, put_request_of}
use Rattle.cp_statements.proofs.Entries.{envelope_at_again, envelope_at_takes}
use Rattle.cp_statements.proofs.FixedTexts.{get_request_again, get_request_takes, put_request_again, put_request_takes}
use Rattle.cp_statements.proofs.TextLengths.{length-get_request_text, length-put_request_text}
use Rattle.cp_client.specs.Asking.{PutBody, Asked, AskedFits, put_body_text, asked_text, put_body_of, is_get, asked_of}
use Rattle.cp_client.specs.Asking.Asked.{Get, Put}

-- ---- what was spelled

no_and : (b c : Bool) → c ≡ false → (b && c) ≡ false
no_and false c e = refl
no_and true c e = e

tag_of_get : (r : GetRequest) → bytes_eq (take 4 (get_request_text r)) get_request_tag ≡ true
unfolding get_request_text spell
tag_of_get r = refl

get_is_get : (r : GetRequest) → GetRequestFits r → is_get (get_request_text r) ≡ true
get_is_get r fits = rw (length-get_request_text r fits, tag_of_get r) refl

-- a put body begins with the length of a put request
put_is_no_get : (p : PutBody) → PutRequestFits p.request → is_get (put_body_text p) ≡ false
unfolding put_body_text
put_is_no_get p fits = no_and (eqb (length (put_body_text p)) 64) (bytes_eq (take 4 (put_body_text p)) get_request_tag) (ap (λ (n : ℕ). bytes_eq (take 4 ((to_be_bytes w32 n ++ put_request_text p.request) ++ (part p.signature ++ p.content))) get_request_tag) (length-put_request_text p.request fits))

envelope_of_put : PutBody → Envelope
envelope_of_put p = record { text = put_request_text p.request; signature = p.signature }

put_is_envelope : (p : PutBody) → put_body_text p ≡ envelope_text (envelope_of_put p) ++ p.content
unfolding put_body_text envelope_text envelope_of_put
put_is_envelope p = sym (append_assoc (part (put_request_text p.request)) (part p.signature) p.content)

put_again : (p : PutBody) → PutRequestFits p.request × (length p.signature < 2 ^ 32) → put_body_of (put_body_text p) ≡ Ok p
unfolding put_body_of envelope_of_put
put_again p fits =
    let short : length (put_request_text p.request) < 2 ^ 32 = omega (arith, length-put_request_text p.request fits.0) in
    let read : envelope_at (put_body_text p) ≡ Ok (envelope_of_put p, p.content) = ap envelope_at (put_is_envelope p) ∙ envelope_at_again (envelope_of_put p) p.content (short, fits.1) in
    rw read (rw (put_request_again p.request fits.0) refl)

pub asked_again : (x : Asked) → AskedFits x → asked_of (asked_text x) ≡ Ok x
unfolding asked_of
asked_again (Get r) fits = rw (get_is_get r fits) (rw (get_request_again r fits) refl)
asked_again (Put p) fits = rw (put_is_no_get p fits.0) (rw (put_again p fits) refl)

-- ---- what was read

-- the text of an envelope at the front
IsBytes-text : (bytes : List ℕ) (e : Envelope) (rest : List ℕ) → IsBytes bytes → bytes ≡ envelope_text e ++ rest → IsBytes e.text
unfolding envelope_text
IsBytes-text bytes e rest fits is =
    let split : bytes ≡ to_be_bytes w32 (length e.text) ++ (e.text ++ (part e.signature ++ rest)) = is ∙ append_assoc (part e.text) (part e.signature) rest ∙ append_assoc (to_be_bytes w32 (length e.text)) e.text (part e.signature ++ rest) in
    let text : take (length e.text) (drop 4 bytes) ≡ e.text = ap (λ (l : List ℕ). take (length e.text) (drop 4 l)) split ∙ take_at e.text (part e.signature ++ rest) (length e.text) refl in
    subst (λ (l : List ℕ). IsBytes l) text (IsBytes-take (length e.text) (drop 4 bytes) (IsBytes-drop 4 bytes fits))

spelled : (bytes : List ℕ) (e : Envelope) (content : List ℕ) (r : PutRequest) → bytes ≡ envelope_text e ++ content → e.text ≡ put_request_text r → bytes ≡ put_body_text (record { request = r; signature = e.signature; content = content })
unfolding envelope_text put_body_text
spelled bytes e content r is text = is ∙ append_assoc (part e.text) (part e.signature) content ∙ ap (λ (l : List ℕ). part l ++ (part e.signature ++ content)) text

put_takes : (bytes : List ℕ) (p : PutBody) → IsBytes bytes → put_body_of bytes ≡ Ok p → (bytes ≡ put_body_text p) × (PutRequestFits p.request × (length p.signature < 2 ^ 32))
unfolding put_body_of
put_takes bytes p fits e =
    let a = bind_ok (at_offset bytes (envelope_at bytes)) _ p e in
    let b = bind_ok (put_request_of a.0.0.text) _ p a.2 in
    let t = envelope_at_takes bytes a.0 fits (at_offset_ok bytes (envelope_at bytes) a.0 a.1) in
    let r = put_request_takes a.0.0.text b.0 (IsBytes-text bytes a.0.0 a.0.1 fits t.0.parts) b.1 in
    let made : PutBody = record { request = b.0; signature = a.0.0.signature; content = a.0.1 } in
    subst (λ (y : PutBody). (bytes ≡ put_body_text y) × (PutRequestFits y.request × (length y.signature < 2 ^ 32))) (ok_is made p b.2)
    (spelled bytes a.0.0 a.0.1 b.0 t.0.parts r.0, (r.1, t.1.1))

pub asked_takes : (bytes : List ℕ) (x : Asked) → IsBytes bytes → asked_of bytes ≡ Ok x → (bytes ≡ asked_text x) × AskedFits x
unfolding asked_of
asked_takes bytes x fits e = go (is_get bytes) e
  where
    go : (b : Bool) → cond b (get_request_of bytes >>= λ r. Ok (Get r)) (put_body_of bytes >>= λ p. Ok (Put p)) ≡ Ok x → (bytes ≡ asked_text x) × AskedFits x
    go true h =
        let a = bind_ok (get_request_of bytes) _ x h in
        subst (λ (y : Asked). (bytes ≡ asked_text y) × AskedFits y) (ok_is (Get a.0) x a.2) (get_request_takes bytes a.0 fits a.1)
    go false h =
        let a = bind_ok (put_body_of bytes) _ x h in
        subst (λ (y : Asked). (bytes ≡ asked_text y) × AskedFits y) (ok_is (Put a.0) x a.2) (put_takes bytes a.0 fits a.1)
