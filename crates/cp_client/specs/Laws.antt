-- The statements of the laws on what is asked and what is served.
use Rattle.std.specs.Prelude.{ℕ, ◌<◌, ◌≡◌, ◌≢◌, ◌⊎◌, List, Ok, Contains}
use Rattle.sha2.specs.Sha256.{sha256}
use Rattle.cp_statements.specs.Envelope.{Envelope}
use Rattle.cp_statements.specs.GetRequest.{GetRequest}
use Rattle.cp_evidence.specs.AuditLaws.{latest_there}
use Rattle.cp_evidence.specs.Audited.{audited}
use Rattle.cp_evidence.specs.HandIns.{hand_ins_of}
use Rattle.cp_evidence.specs.Material.{Material, GivenEpoch, given_of}
use Rattle.cp_evidence.specs.Verdict.Verdict.{Clean}
use Rattle.cp_client.specs.Accepting.{Accepted, accept_of}
use Rattle.cp_client.specs.Asking.Asked.{Get}
use Rattle.cp_statements.specs.Laws.{IsExact}
use Rattle.cp_client.specs.Asking.{AskedFits, asked_of, asked_text}

-- the reading and the text are one relation between bytes and what fits
abbrev pub AskedIsExact : Type 0
AskedIsExact = IsExact asked_of asked_text AskedFits

-- ---- what was served

-- two different contents with one digest
abbrev pub Collide : List ℕ → List ℕ → Type 0
Collide c d = (c ≢ d) × (sha256 c ≡ sha256 d)

-- The audit's verdict on the material and the hand-ins is that all is clean.
abbrev pub IsClean : Material → List ℕ → Type 0
IsClean m hand_ins = (entries : ℕ) × (handed : ℕ) × (aside : ℕ) × (audited m hand_ins ≡ Ok (Clean entries handed aside))

-- A client accepted a get's answer at a version above 0 under the material's key, in the material's
-- epoch; its envelope is one of the hand-ins, and the verdict is clean. Then any content that has the
-- digest of the latest put at the get's place in its block's segment of the log is the content that was
-- served, or the two are different and have one digest. What is given of the material is the epoch that
-- the verdict was made of.
abbrev pub ServedIsLatest : Type 0
ServedIsLatest = (m : Material) (o : GivenEpoch) (bytes : List ℕ) (hand_ins : List Envelope) (request : GetRequest) (reply content : List ℕ) (x : Accepted)
    → accept_of m.key (Get request) reply ≡ Ok x → request.epoch ≡ m.epoch → 0 < x.attestation.version
    → given_of m ≡ Ok o → hand_ins_of bytes ≡ Ok hand_ins → Contains hand_ins x.envelope → IsClean m bytes
    → sha256 content ≡ (latest_there o x.attestation).content → (content ≡ x.content) ⊎ Collide content x.content
