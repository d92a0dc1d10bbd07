-- The statements of the laws on the audit.
use Rattle.std.specs.Prelude.{ℕ, ◌+◌, ◌-◌, ◌*◌, ◌≤◌, ◌≡◌, ◌⊎◌, ◌↔◌, true, List, [], ◌∷◌, ◌++◌, length, take, flat_map, Option, Some, None, ◌==◌, if◌then◌else◌, Ok, Contains}
use Rattle.std.specs.Option.{option_map_or}
use Rattle.std.specs.List.{AllByRecursion}
use Rattle.cp_bytes.specs.Fields.{IsBytes}
use Rattle.cp_bytes.specs.Hashes.{chain_texts}
use Rattle.cp_statements.specs.Envelope.{Envelope}
use Rattle.cp_statements.specs.Attestation.{Attestation, attestation_of}
use Rattle.cp_tips.specs.Table.{row}
use Rattle.cp_chain.specs.Legal.{Put, put_at, latest}
use Rattle.cp_chain.specs.Log.{LogPart}
use Rattle.cp_chain.specs.Segment.{PartFits}
use Rattle.cp_evidence.specs.Evidence.{Evidence, EvidenceFits, evidence_text}
use Rattle.cp_evidence.specs.Evidence.Evidence.{K1, K2, K3, K4, K5, K6, K7, K8, K9, K10}
use Rattle.cp_evidence.specs.Conditions.{signed_by, attestation_by, tried, Convicts}
use Rattle.cp_evidence.specs.Presented.{envelopes, own_chain_text, presented}
use Rattle.cp_evidence.specs.HandIns.{hand_ins_of}
use Rattle.cp_evidence.specs.Material.{Material, GivenEpoch, given_of, store_id, old_rows, parts_or_none, segment_for, frame_for, closing_envelopes, verified, no_envelope, envelope_before}
use Rattle.cp_evidence.specs.Sound.{Clean}
use Rattle.cp_evidence.specs.Verdict.{guilt}

-- ---- clean, or guilty

-- No guilt is found exactly where the material is sound and each hand-in that verifies fits it.
abbrev pub CleanExactly : Type 0
CleanExactly = (m : Material) (o : GivenEpoch) (hand_ins : List Envelope) → given_of m ≡ Ok o → (guilt o hand_ins ≡ None) ↔ Clean o hand_ins

-- What is found convicts the store of the key.
abbrev pub GuiltConvicts : Type 0
GuiltConvicts = (m : Material) (o : GivenEpoch) (hand_ins : List Envelope) (e : Evidence) → given_of m ≡ Ok o → guilt o hand_ins ≡ Some e → tried m.key e ≡ Ok tt

-- Each envelope of it is a given closing or was handed in, or is the empty one that stands in epoch 1
-- for the closing before.
abbrev pub GuiltIsGiven : Type 0
GuiltIsGiven = (m : Material) (o : GivenEpoch) (hand_ins : List Envelope) (e : Evidence) → given_of m ≡ Ok o → guilt o hand_ins ≡ Some e
    → AllByRecursion (λ x. (x ≡ no_envelope) ⊎ Contains (closing_envelopes o ++ hand_ins) x) (envelopes e)

-- ---- what the audit hashes

-- the chain's texts of a segment of the log
abbrev pub chain_of : GivenEpoch → LogPart → List (List ℕ)
chain_of o p = chain_texts (row (old_rows o) p.block).head p.texts

abbrev pub get_chain_text : Option Attestation → List (List ℕ)
get_chain_text None = []
get_chain_text (Some a) = if a.kind == 2 then own_chain_text (Some a) else []

-- the chain's text of a get attestation's entry
abbrev pub get_chain : GivenEpoch → Envelope → List (List ℕ)
get_chain o x = get_chain_text (attestation_by (store_id o) x.text)

-- the families list, the two tables, the text of the closing before, the chain's texts of each segment
-- of the log, and that of each get attestation that verifies
abbrev pub hashed_by : GivenEpoch → List Envelope → List (List ℕ)
hashed_by o hand_ins = o.families_text ∷ o.table ∷ o.table_before ∷ (envelope_before o.before).text ∷ (flat_map (chain_of o) (parts_or_none o.log) ++ flat_map (get_chain o) (verified o hand_ins))

-- Each text that the found evidence's conditions hash is one that the audit hashes.
abbrev pub GuiltIsHashed : Type 0
GuiltIsHashed = (m : Material) (o : GivenEpoch) (hand_ins : List Envelope) (e : Evidence) → given_of m ≡ Ok o → guilt o hand_ins ≡ Some e → AllByRecursion (λ t. Contains (hashed_by o hand_ins) t) (presented m.key e)

-- ---- the evidence's bytes

-- The bytes of what is found convict, where it has a spelling.
abbrev pub WrittenConvicts : Type 0
WrittenConvicts = (m : Material) (o : GivenEpoch) (hand_ins : List Envelope) (e : Evidence) → given_of m ≡ Ok o → guilt o hand_ins ≡ Some e → EvidenceFits e → Convicts m.key (evidence_text e)

-- the parts of the material are bytes
pub record IsMaterial (m : Material) : Type 0 where
  pub before : IsBytes m.before
  pub closing : IsBytes m.closing
  pub table_before : IsBytes m.table_before
  pub table : IsBytes m.table
  pub log : IsBytes m.log

-- its tables and its families list have fewer than 2^32 bytes each
abbrev pub LongPartsFit : Evidence → Type 0
LongPartsFit (K1 e) = Unit {0}
LongPartsFit (K2 e) = Unit {0}
LongPartsFit (K3 e) = Unit {0}
LongPartsFit (K4 e) = PartFits e.table
LongPartsFit (K5 e) = Unit {0}
LongPartsFit (K6 e) = PartFits e.given.table × PartFits e.given.table_before
LongPartsFit (K7 e) = PartFits e.given.table × PartFits e.given.table_before × PartFits e.families
LongPartsFit (K8 e) = PartFits e.given.table × PartFits e.given.table_before
LongPartsFit (K9 x) = Unit {0}
LongPartsFit (K10 x) = Unit {0}

-- It has one where these parts fit.
abbrev pub GuiltFits : Type 0
GuiltFits = (m : Material) (o : GivenEpoch) (bytes : List ℕ) (hand_ins : List Envelope) (e : Evidence) → IsMaterial m → IsBytes bytes
    → given_of m ≡ Ok o → hand_ins_of bytes ≡ Ok hand_ins → guilt o hand_ins ≡ Some e → LongPartsFit e → EvidenceFits e

-- as many bytes as twice the closings and the hand-ins, both tables, the families list and the log have,
-- and some more for numbers
abbrev pub evidence_limit : Material → List ℕ → ℕ
evidence_limit m bytes = 64 + (2 * (length m.closing + (length m.before + length bytes)) + (length m.table + (length m.table_before + (length m.families + length m.log))))

-- It is no longer than that.
abbrev pub GuiltIsShort : Type 0
GuiltIsShort = (m : Material) (o : GivenEpoch) (bytes : List ℕ) (hand_ins : List Envelope) (e : Evidence) → IsMaterial m → IsBytes bytes
    → given_of m ≡ Ok o → hand_ins_of bytes ≡ Ok hand_ins → guilt o hand_ins ≡ Some e → length (evidence_text e) ≤ evidence_limit m bytes

-- ---- what gets return

-- the latest put at the attestation's place in its block's segment of the log
abbrev pub latest_there : GivenEpoch → Attestation → Put
latest_there o a = let side = (frame_for o a.block).side in latest (put_at side.before) (take (a.position - side.before.count) (option_map_or (λ texts. texts) (segment_for o a.block) []))

-- In a clean epoch each get attestation of the epoch that was handed in has the version and the hash of
-- the latest put before it, whatever digests do.
abbrev pub GetsAreLatest : Type 0
GetsAreLatest = (m : Material) (o : GivenEpoch) (hand_ins : List Envelope) (x : Envelope) (a : Attestation) → given_of m ≡ Ok o → guilt o hand_ins ≡ None
    → Contains hand_ins x → signed_by m.key x ≡ true → attestation_of x.text ≡ Ok a → a.kind ≡ 2 → a.epoch ≡ m.epoch → record { version = a.version; content = a.content } ≡ latest_there o a
