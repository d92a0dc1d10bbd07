-- What a kind of guilt is written as.
use Rattle.std.specs.Prelude.{ℕ, ◌≡◌, Bool, true, not, List, [], ◌++◌, map, Option, Some, None, option_map, Result, Ok, Err, IfOk}
use Rattle.std.specs.List.{find}
use Rattle.std.specs.Global.{Vec}
use Rattle.cp_evidence.specs.Evidence.{Evidence, evidence_text}
use Rattle.cp_evidence.specs.Evidence.Evidence.{K1, K2, K3, K4, K5, K6, K7, K9, K10}
use Rattle.cp_evidence.specs.Conditions.{is_statement}
use Rattle.cp_evidence.specs.Material.{GivenEpoch, before_in, closing_envelopes, envelope_before, is_formed, is_formed_before, least_regressed, new_rows, old_rows}
use Rattle.cp_evidence.specs.Verdict.{clash, evidence_if, fault_in, framing, has_wrong_head, is_lost, is_other_closing, link_is_wrong, lost_evidence, other_closing, same_leaf, same_place}
use Rattle.cp_evidence.specs.View.{signed_closing_view}
use Rattle.cp_evidence.specs.declared.before.SignedClosing.{SignedClosing}
use Rattle.cp_evidence.specs.declared.store.Store.{Store}
use Rattle.sha2.specs.Sha256.{sha256}
use Rattle.cp_evidence.specs.AuditLaws.{LongPartsFit}
use Rattle.cp_chain.specs.Log.{LogPart}
use Rattle.cp_chain.specs.Rules.{Found, first_of}
use Rattle.cp_statements.specs.Envelope.{Envelope}
use Rattle.cp_statements.specs.View.{envelope_view}
use Rattle.cp_statements.specs.declared.envelope.Envelope as code

-- The bytes of the evidence that is found, whose tables and families list have fewer than 2^32 bytes;
-- none where none is found. Want of memory says nothing.
abbrev pub Writes : {E : Type 0} → Option Evidence → Result (Option (Vec ℕ)) E → Type 0
Writes row (Ok None) = row ≡ None
Writes row (Ok (Some out)) = (e : Evidence) × (row ≡ Some e) × (out.items ≡ evidence_text e) × LongPartsFit e
Writes row (Err e) = Unit {0}

-- the first evidence of these kinds
abbrev pub WritesFirst : {E : Type 0} → List (Option Evidence) → Result (Option (Vec ℕ)) E → Type 0
WritesFirst kinds result = Writes (first_of kinds) result

-- the bytes of this evidence; want of memory says nothing
abbrev pub WritesEvidence : {E : Type 0} → Evidence → Result (Vec ℕ) E → Type 0
WritesEvidence e result = IfOk result (λ out. (out.items ≡ evidence_text e) × LongPartsFit e)

-- the evidence of a fault in a segment
abbrev pub broken_rule : GivenEpoch → LogPart → Found → Evidence
broken_rule o p fault = K7 (record { block = p.block; fault = fault; given = framing o; families = o.families_text; segment = p.texts })

-- ---- what one hand-in shows

-- the first text that is no statement of the store
abbrev pub no_statement_found : List ℕ → List Envelope → Option Evidence
no_statement_found store xs = option_map K10 (find (λ x. not (is_statement store x.text)) xs)

-- the first get attestation with a wrong head
abbrev pub wrong_head_found : List ℕ → List Envelope → Option Evidence
wrong_head_found store xs = option_map K9 (find (has_wrong_head store) xs)

-- the first other closing of the epoch or of the one before
abbrev pub another_closing_found : GivenEpoch → List Envelope → Option Evidence
another_closing_found o xs = first_of (map (other_closing o) xs)

-- the hand-in is another closing of the given one's epoch
abbrev pub is_another : Store → code.Envelope → SignedClosing → Bool
is_another store x given = is_other_closing (sha256 store.key) (envelope_view x) (signed_closing_view given)

-- a given closing, and the hand-in that is another one
abbrev pub beside_given : code.Envelope → Option code.Envelope → Option Evidence
beside_given x found = option_map (λ given. K3 (record { x = envelope_view given; y = envelope_view x })) found

-- ---- what two texts show

-- the first two texts of one leaf, among the given closings and these
abbrev pub leaf_clash_found : GivenEpoch → List Envelope → Option (Envelope × Envelope)
leaf_clash_found o xs = clash same_leaf [] (closing_envelopes o ++ xs)

abbrev pub one_leaf_found : GivenEpoch → List Envelope → Option Evidence
one_leaf_found o xs = option_map (λ p. K2 (record { x = p.0; y = p.1 })) (leaf_clash_found o xs)

-- the first two texts of one position of a block
abbrev pub place_clash_in : List ℕ → List Envelope → Option (Envelope × Envelope)
place_clash_in store xs = clash (same_place store) [] xs

abbrev pub one_place_found : List ℕ → List Envelope → Option Evidence
one_place_found store xs = option_map (λ p. K1 (record { x = p.0; y = p.1 })) (place_clash_in store xs)

-- ---- what the closings and the tables show

-- the table before is well formed for its closing
abbrev pub IsFormedBefore : GivenEpoch → Type 0
IsFormedBefore o = is_formed_before o.table_before (before_in o.before) ≡ true

-- so is the table
abbrev pub IsFormed : GivenEpoch → Type 0
IsFormed o = is_formed o.table o.closing.closing ≡ true

-- a link that is not to the closing before
abbrev pub wrong_link_found : GivenEpoch → Option Evidence
wrong_link_found o = evidence_if (link_is_wrong o) (K5 (record { x = o.closing.envelope; y = envelope_before o.before }))

-- a table before that is not well formed
abbrev pub bad_table_before_found : GivenEpoch → Option Evidence
bad_table_before_found o = evidence_if (not (is_formed_before o.table_before (before_in o.before))) (K4 (record { closing = envelope_before o.before; table = o.table_before }))

-- a table that is not well formed
abbrev pub bad_table_found : GivenEpoch → Option Evidence
bad_table_found o = evidence_if (not (is_formed o.table o.closing.closing)) (K4 (record { closing = o.closing.envelope; table = o.table }))

-- the least block that went back
abbrev pub regressed_found : GivenEpoch → Option Evidence
regressed_found o = option_map (λ b. K6 (record { block = b; given = framing o })) (least_regressed (old_rows o) (new_rows o))

-- ---- what the log shows

-- the least block with an illegal segment
abbrev pub illegal_found : GivenEpoch → List LogPart → Option Evidence
illegal_found o parts = first_of (map (fault_in o) parts)

-- the first attestation of the epoch that does not stand in its block's segment
abbrev pub lost_found : GivenEpoch → List Envelope → Option Evidence
lost_found o xs = option_map (lost_evidence o) (find (is_lost o) xs)
