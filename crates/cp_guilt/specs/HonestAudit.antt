-- What the audit finds of an honest store (this project's own).
use Rattle.std.specs.Prelude.{ℕ, ◌≡◌, ◌⊎◌, List, ◌++◌, Ok, Contains}
use Rattle.std.specs.List.{AllByRecursion}
use Rattle.sha2.specs.Sha256.{sha256}
use Rattle.cp_bytes.specs.Hashes.{CollisionFree}
use Rattle.cp_statements.specs.Envelope.{Envelope}
use Rattle.cp_core.specs.Store.{Store}
use Rattle.cp_core.specs.Honest.{Honest, Hashed}
use Rattle.cp_core.specs.declared.chronicle.Chronicle.{Chronicle}
use Rattle.cp_evidence.specs.Material.{Material, GivenEpoch, given_of, closing_envelopes}
use Rattle.cp_evidence.specs.Sound.{Clean}
use Rattle.cp_evidence.specs.AuditLaws.{hashed_by}
use Rattle.cp_guilt.specs.Framing.{WasSigned}

-- the holder of the key alone signed the given closings and what was handed in
abbrev pub HolderSignedAll : Store → Chronicle → List ℕ → GivenEpoch → List Envelope → Type 0
HolderSignedAll s r key o hand_ins = AllByRecursion (WasSigned s r key) (closing_envelopes o ++ hand_ins)

-- a text that the audit hashes, or that was hashed in this life
abbrev pub AuditedOrHashed : Chronicle → GivenEpoch → List Envelope → List ℕ → Type 0
AuditedOrHashed r o hand_ins text = Contains (hashed_by o hand_ins) text ⊎ Hashed r text

-- Given material of an honest store is clean with what was handed in, where the holder of the key alone
-- signed, and no two different texts among those that the audit hashes and those of the life have one
-- digest.
abbrev pub HonestIsClean : Type 0
HonestIsClean = (s : Store) (r : Chronicle) (m : Material) (o : GivenEpoch) (hand_ins : List Envelope) → s.id ≡ sha256 m.key → given_of m ≡ Ok o → Honest s r
    → HolderSignedAll s r m.key o hand_ins → CollisionFree (AuditedOrHashed r o hand_ins) → Clean o hand_ins
