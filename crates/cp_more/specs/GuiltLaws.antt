-- What evidence against an honest store says of its signatures.
use Rattle.std.specs.Prelude.{ℕ, ◌≡◌, ◌≢◌, ◌↔◌, List, Some, length, Contains, IsOkAnd, IsTrue}
use Rattle.sha2.specs.Sha256.{sha256}
use Rattle.lms_tree.specs.Secret.{Secret, public_of}
use Rattle.lms_tree.specs.Verifying.{leaf_of}
use Rattle.lms_forge.specs.Pairs.{text_at}
use Rattle.lms_forge.specs.Witness.{IsWitness, witness_of}
use Rattle.cp_statements.specs.Envelope.{Envelope}
use Rattle.cp_core.specs.Store.{Store}
use Rattle.cp_core.specs.Honest.{Honest, Signed}
use Rattle.cp_core.specs.declared.chronicle.Chronicle.{Chronicle}
use Rattle.cp_evidence.specs.Conditions.{Convicts, signed_by}
use Rattle.cp_evidence.specs.Evidence.{evidence_of}
use Rattle.cp_evidence.specs.Presented.{envelopes}
use Rattle.cp_guilt.specs.Framing.{TextsCollisionFree}

-- the pairs are just those of a leaf and a text that were signed in this life
abbrev pub ListsSigned : Store → Chronicle → List (ℕ × List ℕ) → Type 0
ListsSigned s r pairs = (leaf : ℕ) (text : List ℕ) → text_at pairs leaf ≡ Some text ↔ Signed s r leaf text

-- The envelope verifies and was not signed in this life, and the witness that is computed of it is true: two
-- different texts with one digest, or a chain value that the key has not shown.
pub record IsForgedEnvelope (key : Secret) (pairs : List (ℕ × List ℕ)) (x : Envelope) : Type 0 where
  pub verifies : IsTrue (signed_by (public_of key) x)
  pub unsigned : text_at pairs (leaf_of x.signature) ≢ Some x.text
  pub witness : IsWitness key pairs x.text x.signature (witness_of key (text_at pairs (leaf_of x.signature)) x.text x.signature)

abbrev pub HasForged : Secret → List (ℕ × List ℕ) → List Envelope → Type 0
HasForged key pairs xs = (x : Envelope) × Contains xs x × IsForgedEnvelope key pairs x

-- Evidence that convicts the key of an honest store, where no two different texts that it presents or that
-- were hashed in the store's life have one digest, has an envelope that the store did not sign, with its
-- witness.
abbrev pub GuiltHasWitness : Type 0
GuiltHasWitness = (s : Store) (key : Secret) (r : Chronicle) (pairs : List (ℕ × List ℕ)) (bytes : List ℕ) → length key.id ≡ 16 → s.id ≡ sha256 (public_of key) → Honest s r → ListsSigned s r pairs
    → TextsCollisionFree r (public_of key) bytes → Convicts (public_of key) bytes → IsOkAnd (evidence_of bytes) (λ e. HasForged key pairs (envelopes e))
