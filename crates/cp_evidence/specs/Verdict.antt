-- The verdict on given material and what was handed in (this project's own): the evidence of the first
-- guilt that is found, or that all is clean.
use Rattle.std.specs.Prelude.{ℕ, ◌-◌, Bool, false, not, ◌&&◌, List, [], ◌∷◌, ◌++◌, length, map, Option, Some, None, option_map, ◌==◌, if◌then◌else◌, bytes_eq, sum_by, count_by}
use Rattle.std.specs.Option.{option_map_or}
use Rattle.std.specs.List.{find}
use Rattle.lms_tree.specs.Verifying.{leaf_of}
use Rattle.cp_statements.specs.Envelope.{Envelope}
use Rattle.cp_statements.specs.Attestation.{Attestation}
use Rattle.cp_chain.specs.Log.{LogPart}
use Rattle.cp_chain.specs.Rules.{first_fault, first_of, or_else}
use Rattle.cp_chain.specs.Standing.{stands}
use Rattle.cp_evidence.specs.Evidence.{Given, Evidence}
use Rattle.cp_evidence.specs.Evidence.Evidence.{K1, K2, K3, K4, K5, K6, K7, K8, K9, K10}
use Rattle.cp_evidence.specs.Conditions.{signed_by, attestation_by, closing_by, head_fits, is_statement, is_outside, link_from}
use Rattle.cp_evidence.specs.Material.{SignedClosing, GivenEpoch, before_in, is_formed, is_formed_before, least_regressed, store_id, old_rows, new_rows, parts_or_none, segment_for, frame_for, closings, closing_envelopes, verified, envelope_before}

-- the tests, where there is a value
abbrev pub some_and : {A : Type 0} → Option A → (A → Bool) → Bool
some_and o p = option_map_or p o false

-- ---- what is wrong with one hand-in

-- a get attestation with a wrong head
abbrev pub has_wrong_head : List ℕ → Envelope → Bool
has_wrong_head store x = some_and (attestation_by store x.text) (λ a. (a.kind == 2) && not (head_fits a))

-- another closing of the given one's epoch
abbrev pub is_other_closing : List ℕ → Envelope → SignedClosing → Bool
is_other_closing store x given = some_and (closing_by store x.text) (λ c. (c.epoch == given.closing.epoch) && not (bytes_eq x.text given.envelope.text))

-- an attestation of the epoch that does not stand in its block's segment
abbrev pub is_lost : GivenEpoch → Envelope → Bool
is_lost o x = some_and (attestation_by (store_id o) x.text) (λ a. (a.epoch == o.epoch) && not (option_map_or (λ texts. stands (frame_for o a.block) texts a) (segment_for o a.block) false))

-- ---- what is wrong with two

-- one leaf with two texts
abbrev pub same_leaf : Envelope → Envelope → Bool
same_leaf x y = (leaf_of x.signature == leaf_of y.signature) && not (bytes_eq x.text y.text)

-- one position of a block with two texts
abbrev pub same_place : List ℕ → Envelope → Envelope → Bool
same_place store x y = some_and (attestation_by store x.text) (λ a. some_and (attestation_by store y.text) (λ b. (a.block == b.block) && ((a.position == b.position) && not (bytes_eq x.text y.text))))

abbrev pub with_later : Envelope → Option Envelope → Option (Envelope × Envelope)
with_later y found = option_map (λ x. (x, y)) found

-- The least later member that is wrong beside an earlier one, with the least such earlier one; the
-- first list is what is before the second.
abbrev pub clash : (Envelope → Envelope → Bool) → List Envelope → List Envelope → Option (Envelope × Envelope)
clash wrong earlier [] = None
clash wrong earlier (y ∷ ys) = or_else (with_later y (find (λ x. wrong x y) earlier)) (clash wrong (earlier ++ y ∷ []) ys)

-- ---- the evidence that is made of it

-- the closings of the epoch and of the one before, and their tables
abbrev pub framing : GivenEpoch → Given
framing o = record { closing = o.closing.envelope; before = envelope_before o.before; table = o.table; table_before = o.table_before }

abbrev pub evidence_if : Bool → Evidence → Option Evidence
evidence_if holds e = if holds then Some e else None

-- the first given closing that the hand-in is another one of
abbrev pub other_closing : GivenEpoch → Envelope → Option Evidence
other_closing o x = option_map (λ c. K3 (record { x = c.envelope; y = x })) (find (is_other_closing (store_id o) x) (closings o))

abbrev pub link_is_wrong : GivenEpoch → Bool
link_is_wrong o = not (bytes_eq o.closing.closing.link (link_from (envelope_before o.before) (before_in o.before)))

-- the first fault of a segment
abbrev pub fault_in : GivenEpoch → LogPart → Option Evidence
fault_in o p = option_map (λ fault. K7 (record { block = p.block; fault = fault; given = framing o; families = o.families_text; segment = p.texts })) (first_fault (frame_for o p.block) p.texts)

-- its block's segment; no text where the attestation is outside the counts
abbrev pub segment_beside : GivenEpoch → Option Attestation → List (List ℕ)
segment_beside o None = []
segment_beside o (Some a) = if is_outside (frame_for o a.block) a then [] else option_map_or (λ texts. texts) (segment_for o a.block) []

abbrev pub lost_evidence : GivenEpoch → Envelope → Evidence
lost_evidence o x = K8 (record { given = framing o; attestation = x; segment = segment_beside o (attestation_by (store_id o) x.text) })

-- ---- the kinds of guilt, in the order in which they are taken

-- what one hand-in shows: no statement, a wrong head, another closing
abbrev pub by_one : GivenEpoch → List Envelope → List (Option Evidence)
by_one o xs = option_map K10 (find (λ x. not (is_statement (store_id o) x.text)) xs)
    ∷ option_map K9 (find (has_wrong_head (store_id o)) xs)
    ∷ first_of (map (other_closing o) xs)
    ∷ []

-- what two texts show: one leaf, one position
abbrev pub by_two : GivenEpoch → List Envelope → List (Option Evidence)
by_two o xs = option_map (λ p. K2 (record { x = p.0; y = p.1 })) (clash same_leaf [] (closing_envelopes o ++ xs))
    ∷ option_map (λ p. K1 (record { x = p.0; y = p.1 })) (clash (same_place (store_id o)) [] xs)
    ∷ []

-- what the closings and the tables show: a wrong link, a table that is not well formed, a block that
-- went back
abbrev pub by_tables : GivenEpoch → List (Option Evidence)
by_tables o = evidence_if (link_is_wrong o) (K5 (record { x = o.closing.envelope; y = envelope_before o.before }))
    ∷ evidence_if (not (is_formed_before o.table_before (before_in o.before))) (K4 (record { closing = envelope_before o.before; table = o.table_before }))
    ∷ evidence_if (not (is_formed o.table o.closing.closing)) (K4 (record { closing = o.closing.envelope; table = o.table }))
    ∷ option_map (λ b. K6 (record { block = b; given = framing o })) (least_regressed (old_rows o) (new_rows o))
    ∷ []

-- what the log shows: an illegal segment, an attestation that is lost
abbrev pub by_log : GivenEpoch → List Envelope → List (Option Evidence)
by_log o xs = first_of (map (fault_in o) (parts_or_none o.log))
    ∷ option_map (lost_evidence o) (find (is_lost o) xs)
    ∷ []

abbrev pub guilt_by_kind : GivenEpoch → List Envelope → List (Option Evidence)
guilt_by_kind o xs = by_one o xs ++ (by_two o xs ++ (by_tables o ++ by_log o xs))

-- the first of it, if there is any
unfoldable pub guilt : GivenEpoch → List Envelope → Option Evidence
guilt o hand_ins = first_of (guilt_by_kind o (verified o hand_ins))

-- ---- the verdict

pub data Verdict : Type 0 where
  Clean : ℕ → ℕ → ℕ → Verdict  -- the log's texts, the attestations of the epoch, the other hand-ins
  Guilty : Evidence → Verdict

-- how many hand-ins verify as attestations of the epoch
abbrev pub handed : GivenEpoch → List Envelope → ℕ
handed o hand_ins = count_by (λ x. signed_by o.key x && some_and (attestation_by (store_id o) x.text) (λ a. a.epoch == o.epoch)) hand_ins

abbrev pub verdict_by : GivenEpoch → List Envelope → Option Evidence → Verdict
verdict_by o hand_ins (Some evidence) = Guilty evidence
verdict_by o hand_ins None = Clean (sum_by (λ p. length p.texts) (parts_or_none o.log)) (handed o hand_ins) (length hand_ins - handed o hand_ins)

abbrev pub verdict : GivenEpoch → List Envelope → Verdict
verdict o hand_ins = verdict_by o hand_ins (guilt o hand_ins)
