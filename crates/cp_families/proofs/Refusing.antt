-- The check of a put: which of its five answers it is, and what each tells.
use Rattle.std.proofs.Common.{◌≡◌, ℕ, Bool, true, false, List, Option, Some, None, Result, Ok, Err, refl, sym, ap, subst, ◌∙◌}
use Rattle.std.specs.Prelude.{◌≢◌, bytes_eq}
use Rattle.std.proofs.lemmas.Bool.{false_from_ne_true}
use Rattle.std.proofs.lemmas.Slice.Eq.{bytes_eq-Decides}
use Rattle.lms_tree.specs.Verifying.{verifies}
use Rattle.cp_statements.specs.PutRequest.{PutRequest, put_request_of, put_request_text}
use Rattle.cp_statements.specs.Envelope.{Envelope}
use Rattle.cp_families.specs.Families.{FamilyRow, key_of}
use Rattle.cp_families.specs.Writers.{family_of}
use Rattle.cp_families.specs.Checking.{SignedPut, check_put_of}
use Rattle.cp_families.specs.Refusals.{IsFor, IsWriters, MalformedExactly, WrongStoreExactly, NotAWriterExactly, BadSignatureExactly, LetInExactly}
use Rattle.cp_families.specs.declared.put_fault.PutFault.{PutFault}
use Rattle.cp_families.specs.declared.put_fault.PutFault.TheVariants.{Malformed, WrongStore, NotAWriter, BadSignature}

abbrev key_for : List FamilyRow → PutRequest → Option (List ℕ)
key_for families r = key_of families (family_of r.block) r.client

-- ---- what each cause answers

malformed : (families : List FamilyRow) (store : List ℕ) (x : Envelope) (at : ℕ) → put_request_of x.text ≡ Err at → check_put_of families store x ≡ Err (Malformed at)
unfolding check_put_of
malformed families store x at e = rw e refl

wrong_store : (families : List FamilyRow) (store : List ℕ) (x : Envelope) (r : PutRequest) → put_request_of x.text ≡ Ok r → bytes_eq r.store store ≡ false → check_put_of families store x ≡ Err WrongStore
unfolding check_put_of
wrong_store families store x r e f = rw e (rw f refl)

not_a_writer : (families : List FamilyRow) (store : List ℕ) (x : Envelope) (r : PutRequest) → put_request_of x.text ≡ Ok r → bytes_eq r.store store ≡ true → key_for families r ≡ None
    → check_put_of families store x ≡ Err (NotAWriter (family_of r.block) r.client)
unfolding check_put_of
not_a_writer families store x r e f g = rw e (rw f (rw g refl))

bad_signature : (families : List FamilyRow) (store : List ℕ) (x : Envelope) (r : PutRequest) (key : List ℕ) → put_request_of x.text ≡ Ok r → bytes_eq r.store store ≡ true → key_for families r ≡ Some key
    → verifies key (put_request_text r) x.signature ≡ false → check_put_of families store x ≡ Err BadSignature
unfolding check_put_of
bad_signature families store x r key e f g h = rw e (rw f (rw g (rw h refl)))

let_in : (families : List FamilyRow) (store : List ℕ) (x : Envelope) (r : PutRequest) (key : List ℕ) → put_request_of x.text ≡ Ok r → bytes_eq r.store store ≡ true → key_for families r ≡ Some key
    → verifies key (put_request_text r) x.signature ≡ true → check_put_of families store x ≡ Ok (record { request = r; signature = x.signature; key = key })
unfolding check_put_of
let_in families store x r key e f g h = rw e (rw f (rw g (rw h refl)))

-- ---- there are no other causes

data Cause (families : List FamilyRow) (store : List ℕ) (x : Envelope) : Type 0 where
  IsMalformed : (at : ℕ) → put_request_of x.text ≡ Err at → Cause families store x
  IsElsewhere : (r : PutRequest) → put_request_of x.text ≡ Ok r → bytes_eq r.store store ≡ false → Cause families store x
  IsNoWriter : (r : PutRequest) → put_request_of x.text ≡ Ok r → bytes_eq r.store store ≡ true → key_for families r ≡ None → Cause families store x
  IsUnsigned : (r : PutRequest) (key : List ℕ) → put_request_of x.text ≡ Ok r → bytes_eq r.store store ≡ true → key_for families r ≡ Some key → verifies key (put_request_text r) x.signature ≡ false → Cause families store x
  IsSound : (r : PutRequest) (key : List ℕ) → put_request_of x.text ≡ Ok r → bytes_eq r.store store ≡ true → key_for families r ≡ Some key → verifies key (put_request_text r) x.signature ≡ true → Cause families store x

cause : (families : List FamilyRow) (store : List ℕ) (x : Envelope) → Cause families store x
cause families store x = read (put_request_of x.text) refl
  where
    verified : (r : PutRequest) (key : List ℕ) (b : Bool) → verifies key (put_request_text r) x.signature ≡ b → put_request_of x.text ≡ Ok r → bytes_eq r.store store ≡ true → key_for families r ≡ Some key → Cause families store x
    verified r key true h e f g = IsSound r key e f g h
    verified r key false h e f g = IsUnsigned r key e f g h

    listed : (r : PutRequest) (o : Option (List ℕ)) → key_for families r ≡ o → put_request_of x.text ≡ Ok r → bytes_eq r.store store ≡ true → Cause families store x
    listed r None g e f = IsNoWriter r e f g
    listed r (Some key) g e f = verified r key (verifies key (put_request_text r) x.signature) refl e f g

    named : (r : PutRequest) (b : Bool) → bytes_eq r.store store ≡ b → put_request_of x.text ≡ Ok r → Cause families store x
    named r true f e = listed r (key_for families r) refl e f
    named r false f e = IsElsewhere r e f

    read : (p : Result PutRequest ℕ) → put_request_of x.text ≡ p → Cause families store x
    read (Ok r) e = named r (bytes_eq r.store store) refl e
    read (Err at) e = IsMalformed at e

-- what it answers
abbrev Answer : Type 0
Answer = Result SignedPut PutFault

abbrev answer_of : (families : List FamilyRow) (store : List ℕ) (x : Envelope) → Cause families store x → Answer
answer_of families store x (IsMalformed at e) = Err (Malformed at)
answer_of families store x (IsElsewhere r e f) = Err WrongStore
answer_of families store x (IsNoWriter r e f g) = Err (NotAWriter (family_of r.block) r.client)
answer_of families store x (IsUnsigned r key e f g h) = Err BadSignature
answer_of families store x (IsSound r key e f g h) = Ok (record { request = r; signature = x.signature; key = key })

answers : (families : List FamilyRow) (store : List ℕ) (x : Envelope) (c : Cause families store x) → check_put_of families store x ≡ answer_of families store x c
answers families store x (IsMalformed at e) = malformed families store x at e
answers families store x (IsElsewhere r e f) = wrong_store families store x r e f
answers families store x (IsNoWriter r e f g) = not_a_writer families store x r e f g
answers families store x (IsUnsigned r key e f g h) = bad_signature families store x r key e f g h
answers families store x (IsSound r key e f g h) = let_in families store x r key e f g h

-- ---- each answer exactly where its words say

same_store : (a b : List ℕ) → bytes_eq a b ≡ true → a ≡ b
same_store a b e = (bytes_eq-Decides a b).0 e

is_same : (a b : List ℕ) → a ≡ b → bytes_eq a b ≡ true
is_same a b e = (bytes_eq-Decides a b).1 e

pub malformed_exactly : MalformedExactly
malformed_exactly families store x at = (λ is. told (cause families store x) (sym (answers families store x (cause families store x)) ∙ is), malformed families store x at)
  where
    told : (c : Cause families store x) → answer_of families store x c ≡ Err (Malformed at) → put_request_of x.text ≡ Err at
    told (IsMalformed other e) is = cc (e, is)
    told (IsElsewhere r e f) is = absurd (cc is)
    told (IsNoWriter r e f g) is = absurd (cc is)
    told (IsUnsigned r key e f g h) is = absurd (cc is)
    told (IsSound r key e f g h) is = absurd (cc is)

pub wrong_store_exactly : WrongStoreExactly
wrong_store_exactly families store x = (λ is. told (cause families store x) (sym (answers families store x (cause families store x)) ∙ is), λ w. wrong_store families store x w.0 w.1 (false_from_ne_true _ (λ e. w.2 (same_store w.0.store store e))))
  where
    told : (c : Cause families store x) → answer_of families store x c ≡ Err WrongStore → (r : PutRequest) × (put_request_of x.text ≡ Ok r) × (r.store ≢ store)
    told (IsMalformed other e) is = absurd (cc is)
    told (IsElsewhere r e f) is = (r, e, λ same. absurd (cc (f, is_same r.store store same)))
    told (IsNoWriter r e f g) is = absurd (cc is)
    told (IsUnsigned r key e f g h) is = absurd (cc is)
    told (IsSound r key e f g h) is = absurd (cc is)

pub not_a_writer_exactly : NotAWriterExactly
not_a_writer_exactly families store x family client = (λ is. told (cause families store x) (sym (answers families store x (cause families store x)) ∙ is), back)
  where
    told : (c : Cause families store x) → answer_of families store x c ≡ Err (NotAWriter family client)
        → (r : PutRequest) × IsFor store x r × (family_of r.block ≡ family) × (r.client ≡ client) × (key_of families family client ≡ None)
    told (IsMalformed other e) is = absurd (cc is)
    told (IsElsewhere r e f) is = absurd (cc is)
    told (IsNoWriter r e f g) is =
        let same_family : family_of r.block ≡ family = cc is in
        let same_client : r.client ≡ client = cc is in
        (r, record { read = e; names = same_store r.store store f }, same_family, same_client, ap (λ (n : ℕ). key_of families n client) (sym same_family) ∙ ap (key_of families (family_of r.block)) (sym same_client) ∙ g)
    told (IsUnsigned r key e f g h) is = absurd (cc is)
    told (IsSound r key e f g h) is = absurd (cc is)

    back : ((r : PutRequest) × IsFor store x r × (family_of r.block ≡ family) × (r.client ≡ client) × (key_of families family client ≡ None)) → check_put_of families store x ≡ Err (NotAWriter family client)
    back (r, named, same_family, same_client, none) =
        let none_here : key_for families r ≡ None = ap (λ (n : ℕ). key_of families n r.client) same_family ∙ ap (key_of families family) same_client ∙ none in
        let found = not_a_writer families store x r named.read (is_same r.store store named.names) none_here in
        cc (found, same_family, same_client)

pub bad_signature_exactly : BadSignatureExactly
bad_signature_exactly families store x = (λ is. told (cause families store x) (sym (answers families store x (cause families store x)) ∙ is), λ w. bad_signature families store x w.0 w.1 w.2.request.read (is_same w.0.store store w.2.request.names) w.2.listed w.3)
  where
    told : (c : Cause families store x) → answer_of families store x c ≡ Err BadSignature
        → (r : PutRequest) × (key : List ℕ) × IsWriters families store x r key × (verifies key (put_request_text r) x.signature ≡ false)
    told (IsMalformed other e) is = absurd (cc is)
    told (IsElsewhere r e f) is = absurd (cc is)
    told (IsNoWriter r e f g) is = absurd (cc is)
    told (IsUnsigned r key e f g h) is = (r, key, record { request = record { read = e; names = same_store r.store store f }; listed = g }, h)
    told (IsSound r key e f g h) is = absurd (cc is)

pub let_in_exactly : LetInExactly
let_in_exactly families store x p = (λ is. told (cause families store x) (sym (answers families store x (cause families store x)) ∙ is), back)
  where
    told : (c : Cause families store x) → answer_of families store x c ≡ Ok p → IsWriters families store x p.request p.key × (x.signature ≡ p.signature) × (verifies p.key (put_request_text p.request) p.signature ≡ true)
    told (IsMalformed other e) is = absurd (cc is)
    told (IsElsewhere r e f) is = absurd (cc is)
    told (IsNoWriter r e f g) is = absurd (cc is)
    told (IsUnsigned r key e f g h) is = absurd (cc is)
    told (IsSound r key e f g h) is =
        let same : record { request = r; signature = x.signature; key = key } ≡ p = cc is in
        subst (λ (q : SignedPut). IsWriters families store x q.request q.key × (x.signature ≡ q.signature) × (verifies q.key (put_request_text q.request) q.signature ≡ true)) same
        (record { request = record { read = e; names = same_store r.store store f }; listed = g }, refl, h)

    back : (IsWriters families store x p.request p.key × (x.signature ≡ p.signature) × (verifies p.key (put_request_text p.request) p.signature ≡ true)) → check_put_of families store x ≡ Ok p
    back w =
        let signed : verifies p.key (put_request_text p.request) x.signature ≡ true = ap (verifies p.key (put_request_text p.request)) w.1 ∙ w.2 in
        let found = let_in families store x p.request p.key w.0.request.read (is_same p.request.store store w.0.request.names) w.0.listed signed in
        found ∙ ap (λ (s : List ℕ). Ok (record { request = p.request; signature = s; key = p.key })) w.1
