-- What has to hold of evidence beside an honest life, so that it cannot convict (this project's own).
use Rattle.std.specs.Prelude.{ℕ, ◌⊎◌, List, Contains, IfOk, IsTrue}
use Rattle.std.specs.List.{AllByRecursion}
use Rattle.lms_tree.specs.Verifying.{leaf_of}
use Rattle.cp_bytes.specs.Hashes.{CollisionFree}
use Rattle.cp_statements.specs.Envelope.{Envelope}
use Rattle.cp_core.specs.Store.{Store}
use Rattle.cp_core.specs.Honest.{Signed, Hashed}
use Rattle.cp_core.specs.declared.chronicle.Chronicle.{Chronicle}
use Rattle.cp_evidence.specs.Evidence.{Evidence, evidence_of}
use Rattle.cp_evidence.specs.Conditions.{signed_by}
use Rattle.cp_evidence.specs.Presented.{envelopes, presented}

-- an envelope that verifies was signed in this life
abbrev pub WasSigned : Store → Chronicle → List ℕ → Envelope → Type 0
WasSigned s r key x = IsTrue (signed_by key x) → Signed s r (leaf_of x.signature) x.text

-- the holder of the key alone signed the evidence's envelopes
abbrev pub HolderSigned : Store → Chronicle → List ℕ → Evidence → Type 0
HolderSigned s r key e = AllByRecursion (WasSigned s r key) (envelopes e)

-- a text that the evidence presents, or that was hashed in this life
abbrev pub PresentedOrHashed : Chronicle → List ℕ → Evidence → List ℕ → Type 0
PresentedOrHashed r key e text = Contains (presented key e) text ⊎ Hashed r text

-- no two different ones of these have one digest
abbrev pub NoneCollide : Chronicle → List ℕ → Evidence → Type 0
NoneCollide r key e = CollisionFree (PresentedOrHashed r key e)

-- the same of the evidence that bytes spell, if they spell any
abbrev pub Holder : Store → Chronicle → List ℕ → List ℕ → Type 0
Holder s r key bytes = IfOk (evidence_of bytes) (HolderSigned s r key)

abbrev pub TextsCollisionFree : Chronicle → List ℕ → List ℕ → Type 0
TextsCollisionFree r key bytes = IfOk (evidence_of bytes) (NoneCollide r key)
