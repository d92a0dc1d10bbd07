-- The statements of the laws on the check of a put: each answer comes exactly where its own words say.
use Rattle.std.specs.Prelude.{ℕ, ◌≡◌, ◌≢◌, ◌↔◌, List, true, false, Some, None, Ok, Err}
use Rattle.lms_tree.specs.Verifying.{verifies}
use Rattle.cp_statements.specs.PutRequest.{PutRequest, put_request_of, put_request_text}
use Rattle.cp_statements.specs.Envelope.{Envelope}
use Rattle.cp_families.specs.Families.{FamilyRow, key_of}
use Rattle.cp_families.specs.Writers.{family_of}
use Rattle.cp_families.specs.Checking.{SignedPut, check_put_of}
use Rattle.cp_families.specs.declared.put_fault.PutFault.TheVariants.{Malformed, WrongStore, NotAWriter, BadSignature}

-- the envelope's text is a put request for the store
pub record IsFor (store : List ℕ) (x : Envelope) (r : PutRequest) : Type 0 where
  pub read : put_request_of x.text ≡ Ok r
  pub names : r.store ≡ store

-- and the list has this key for the block's family and the client
pub record IsWriters (families : List FamilyRow) (store : List ℕ) (x : Envelope) (r : PutRequest) (key : List ℕ) : Type 0 where
  pub request : IsFor store x r
  pub listed : key_of families (family_of r.block) r.client ≡ Some key

-- The text is no put request, from this byte on.
abbrev pub MalformedExactly : Type 0
MalformedExactly = (families : List FamilyRow) (store : List ℕ) (x : Envelope) (at : ℕ)
    → (check_put_of families store x ≡ Err (Malformed at)) ↔ (put_request_of x.text ≡ Err at)

-- The text is a put request for another store.
abbrev pub WrongStoreExactly : Type 0
WrongStoreExactly = (families : List FamilyRow) (store : List ℕ) (x : Envelope)
    → (check_put_of families store x ≡ Err WrongStore) ↔ ((r : PutRequest) × (put_request_of x.text ≡ Ok r) × (r.store ≢ store))

-- It is one for this store, and the list has no row for this family, the block's, and this client.
abbrev pub NotAWriterExactly : Type 0
NotAWriterExactly = (families : List FamilyRow) (store : List ℕ) (x : Envelope) (family client : ℕ)
    → (check_put_of families store x ≡ Err (NotAWriter family client))
    ↔ ((r : PutRequest) × IsFor store x r × (family_of r.block ≡ family) × (r.client ≡ client) × (key_of families family client ≡ None))

-- The list has a key, which doesn't verify the signature on the request.
abbrev pub BadSignatureExactly : Type 0
BadSignatureExactly = (families : List FamilyRow) (store : List ℕ) (x : Envelope)
    → (check_put_of families store x ≡ Err BadSignature)
    ↔ ((r : PutRequest) × (key : List ℕ) × IsWriters families store x r key × (verifies key (put_request_text r) x.signature ≡ false))

-- The list has a key, which verifies it: that request, signature and key are the answer.
abbrev pub LetInExactly : Type 0
LetInExactly = (families : List FamilyRow) (store : List ℕ) (x : Envelope) (p : SignedPut)
    → (check_put_of families store x ≡ Ok p)
    ↔ (IsWriters families store x p.request p.key × (x.signature ≡ p.signature) × (verifies p.key (put_request_text p.request) p.signature ≡ true))
