-- The parts of a given log.
use Rattle.std.specs.Prelude.{ℕ, ◌≡◌, Bool, true, false, List, map, Some, None, Contains}
use Rattle.std.specs.Option.{option_map_or}
use Rattle.std.specs.List.{AllByRecursion}
use Rattle.cp_chain.specs.Log.{LogPart, parts_ascend}
use Rattle.cp_chain.specs.Standing.{stands}
use Rattle.cp_chain.specs.View.{fault_view, frame_view}
use Rattle.cp_chain.specs.declared.fault.Fault.{Fault}
use Rattle.cp_statements.specs.Attestation.{Attestation}
use Rattle.cp_evidence.specs.Conditions.{attestation_by}
use Rattle.cp_evidence.specs.Evidence.{Evidence}
use Rattle.cp_evidence.specs.Material.{GivenEpoch, before_in, is_formed, is_formed_before, least_regressed, old_rows, new_rows, part_of, parts_or_none, frame_for, segment_for, store_id}
use Rattle.cp_evidence.specs.Verdict.{segment_beside}
use Rattle.cp_audit.specs.declared.part.Part.{Part}
use Rattle.cp_audit.specs.Given.{given_view}
use Rattle.cp_audit.specs.Parts.{part_view}
use Rattle.cp_audit.specs.Rows.{broken_rule}
use Rattle.cp_audit.specs.declared.given.GivenEpoch as code

-- both tables are well formed for their closings, and no block went back
pub record TablesStand (o : GivenEpoch) : Type 0 where
  pub before : is_formed_before o.table_before (before_in o.before) ≡ true
  pub after : is_formed o.table o.closing.closing ≡ true
  pub kept : least_regressed (old_rows o) (new_rows o) ≡ None

-- so it is where the log was read
abbrev pub StandWhereRead : GivenEpoch → Type 0
StandWhereRead o = (parts : List LogPart) → o.log ≡ Some parts → TablesStand o

-- each stands in its block's frame
abbrev pub StandInFrames : GivenEpoch → List Part → Type 0
StandInFrames o parts = AllByRecursion (λ p. frame_view p.frame ≡ frame_for o p.frame.block) parts

-- they are those of the epoch's log, none where it is not read; they ascend by block, and each stands
-- in its block's frame; the tables stand where it is read
pub record AreLogParts (o : GivenEpoch) (parts : List Part) : Type 0 where
  pub are : map part_view parts ≡ parts_or_none o.log
  pub ascend : parts_ascend None (map part_view parts) ≡ true
  pub framed : StandInFrames o parts
  pub tables : StandWhereRead o

-- the evidence of a fault in a part
abbrev pub fault_evidence : code.GivenEpoch → Part → Fault → Evidence
fault_evidence o part fault = broken_rule (given_view o) (part_view part) (fault_view fault)

-- ---- one block's part

-- none is the block's
abbrev pub Lack : List Part → ℕ → Type 0
Lack parts block = part_of (map part_view parts) block ≡ None

-- this part has the block's segment
abbrev pub Have : List Part → ℕ → Part → Type 0
Have parts block part = part_of (map part_view parts) block ≡ Some part.segment

-- this part is one of them, and the block's
abbrev pub IsPartOf : List Part → ℕ → Part → Type 0
IsPartOf parts block part = Contains parts part × (part.frame.block ≡ block)

-- the attestation stands in its block's segment
abbrev pub stands_in_log : GivenEpoch → Attestation → Bool
stands_in_log o a = option_map_or (λ texts. stands (frame_for o a.block) texts a) (segment_for o a.block) false

-- the texts that stand beside an attestation of this text in evidence
abbrev pub texts_beside : GivenEpoch → List ℕ → List (List ℕ)
texts_beside o text = segment_beside o (attestation_by (store_id o) text)
