-- The ten kinds of evidence and their bytes (this project's own): "CPEV", the kind as one byte,
-- numbers of eight bytes, and parts to the end. A segment stands last, with no length before it.
use Rattle.std.specs.Prelude.{ℕ, ◌<◌, ◌^◌, List, ◌∷◌, ◌++◌, length, Result, Ok, Err, ◌==◌, if◌then◌else◌, codes}
use Rattle.std.specs.Int.{w64, to_be_bytes}
use Rattle.cp_bytes.specs.Fields.{◌>>=◌, field_at, or_left, part, part_at, ended, at_offset}
use Rattle.cp_bytes.specs.Fields.Field.{Tag, Byte, U64}
use Rattle.cp_statements.specs.Envelope.{Envelope, EnvelopeFits, envelope_text, envelope_at}
use Rattle.cp_chain.specs.Rules.{Rule, number_of, rule_of, Found}
use Rattle.cp_chain.specs.Segment.{PartFits, SegmentFits, segment_text, segment_at}

-- ---- the kinds

-- two signed texts
pub record Two : Type 0 where
  pub x : Envelope
  pub y : Envelope

-- a closing and a table
pub record ClosingTable : Type 0 where
  pub closing : Envelope
  pub table : List ℕ

-- what frames an epoch: its closing, the closing before (in epoch 1 both of its parts are empty), and
-- the tables that the two name
pub record Given : Type 0 where
  pub closing : Envelope
  pub before : Envelope
  pub table : List ℕ
  pub table_before : List ℕ

-- a block between two tables
pub record WentBack : Type 0 where
  pub block : ℕ
  pub given : Given

-- a rule that is broken at a place of a block's segment
pub record BrokenRule : Type 0 where
  pub block : ℕ
  pub fault : Found
  pub given : Given
  pub families : List ℕ
  pub segment : List (List ℕ)

-- an attestation beside its block's segment
pub record Lost : Type 0 where
  pub given : Given
  pub attestation : Envelope
  pub segment : List (List ℕ)

pub data Evidence : Type 0 where
  K1 : Two → Evidence  -- two texts at one position of a block
  K2 : Two → Evidence  -- two texts under one leaf
  K3 : Two → Evidence  -- two closings of one epoch
  K4 : ClosingTable → Evidence  -- a table that is not well formed
  K5 : Two → Evidence  -- a closing whose link is not to the closing before
  K6 : WentBack → Evidence  -- a block that went back
  K7 : BrokenRule → Evidence  -- an illegal segment
  K8 : Lost → Evidence  -- an attestation that does not stand
  K9 : Envelope → Evidence  -- a get attestation with a wrong head
  K10 : Envelope → Evidence  -- a signed text that is no statement

abbrev pub kind_of : Evidence → ℕ
kind_of (K1 e) = 1
kind_of (K2 e) = 2
kind_of (K3 e) = 3
kind_of (K4 e) = 4
kind_of (K5 e) = 5
kind_of (K6 e) = 6
kind_of (K7 e) = 7
kind_of (K8 e) = 8
kind_of (K9 e) = 9
kind_of (K10 e) = 10

-- ---- the bytes of a value

unfoldable pub two_text : Two → List ℕ
two_text e = envelope_text e.x ++ envelope_text e.y

unfoldable pub closing_table_text : ClosingTable → List ℕ
closing_table_text e = envelope_text e.closing ++ part e.table

unfoldable pub given_text : Given → List ℕ
given_text g = envelope_text g.closing ++ (envelope_text g.before ++ (part g.table ++ part g.table_before))

unfoldable pub went_back_text : WentBack → List ℕ
went_back_text e = to_be_bytes w64 e.block ++ given_text e.given

unfoldable pub broken_rule_text : BrokenRule → List ℕ
broken_rule_text e = to_be_bytes w64 e.block ++ (to_be_bytes w64 (number_of e.fault.rule) ++ (to_be_bytes w64 e.fault.place ++ (to_be_bytes w64 e.fault.other
    ++ (given_text e.given ++ (part e.families ++ segment_text e.segment)))))

unfoldable pub lost_text : Lost → List ℕ
lost_text e = given_text e.given ++ (envelope_text e.attestation ++ segment_text e.segment)

-- the numbers and parts
abbrev pub parts_text : Evidence → List ℕ
parts_text (K1 e) = two_text e
parts_text (K2 e) = two_text e
parts_text (K3 e) = two_text e
parts_text (K4 e) = closing_table_text e
parts_text (K5 e) = two_text e
parts_text (K6 e) = went_back_text e
parts_text (K7 e) = broken_rule_text e
parts_text (K8 e) = lost_text e
parts_text (K9 e) = envelope_text e
parts_text (K10 e) = envelope_text e

-- its bytes
unfoldable pub evidence_text : Evidence → List ℕ
evidence_text e = codes "CPEV" ++ (kind_of e ∷ parts_text e)

-- ---- which values have bytes: numbers are in range, parts have fewer than 2^32 bytes

abbrev pub TwoFit : Two → Type 0
TwoFit e = EnvelopeFits e.x × EnvelopeFits e.y

abbrev pub ClosingTableFits : ClosingTable → Type 0
ClosingTableFits e = EnvelopeFits e.closing × PartFits e.table

abbrev pub GivenFits : Given → Type 0
GivenFits g = EnvelopeFits g.closing × EnvelopeFits g.before × PartFits g.table × PartFits g.table_before

abbrev pub WentBackFits : WentBack → Type 0
WentBackFits e = (e.block < 2 ^ 64) × GivenFits e.given

abbrev pub BrokenRuleFits : BrokenRule → Type 0
BrokenRuleFits e = (e.block < 2 ^ 64) × (e.fault.place < 2 ^ 64) × (e.fault.other < 2 ^ 64) × GivenFits e.given × PartFits e.families × SegmentFits e.segment

abbrev pub LostFits : Lost → Type 0
LostFits e = GivenFits e.given × EnvelopeFits e.attestation × SegmentFits e.segment

abbrev pub EvidenceFits : Evidence → Type 0
EvidenceFits (K1 e) = TwoFit e
EvidenceFits (K2 e) = TwoFit e
EvidenceFits (K3 e) = TwoFit e
EvidenceFits (K4 e) = ClosingTableFits e
EvidenceFits (K5 e) = TwoFit e
EvidenceFits (K6 e) = WentBackFits e
EvidenceFits (K7 e) = BrokenRuleFits e
EvidenceFits (K8 e) = LostFits e
EvidenceFits (K9 e) = EnvelopeFits e
EvidenceFits (K10 e) = EnvelopeFits e

-- ---- reading from the front: the value and the bytes behind it, or how many bytes were left

unfoldable pub two_at : List ℕ → Result (Two × List ℕ) ℕ
two_at bytes = do
  x ← envelope_at bytes
  y ← envelope_at x.1
  Ok (record { x = x.0; y = y.0 }, y.1)

unfoldable pub closing_table_at : List ℕ → Result (ClosingTable × List ℕ) ℕ
closing_table_at bytes = do
  closing ← envelope_at bytes
  table ← part_at closing.1
  Ok (record { closing = closing.0; table = table.0 }, table.1)

unfoldable pub given_at : List ℕ → Result (Given × List ℕ) ℕ
given_at bytes = do
  closing ← envelope_at bytes
  before ← envelope_at closing.1
  table ← part_at before.1
  table_before ← part_at table.1
  Ok (record { closing = closing.0; before = before.0; table = table.0; table_before = table_before.0 }, table_before.1)

unfoldable pub went_back_at : List ℕ → Result (WentBack × List ℕ) ℕ
went_back_at bytes = do
  block ← field_at U64 bytes
  given ← given_at block.1
  Ok (record { block = block.0; given = given.0 }, given.1)

-- a number of 1 to 9; another one is refused at its first byte
unfoldable pub rule_at : List ℕ → Result (Rule × List ℕ) ℕ
rule_at bytes = do
  number ← field_at U64 bytes
  rule ← or_left bytes (rule_of number.0)
  Ok (rule, number.1)

unfoldable pub broken_rule_at : List ℕ → Result (BrokenRule × List ℕ) ℕ
broken_rule_at bytes = do
  block ← field_at U64 bytes
  rule ← rule_at block.1
  place ← field_at U64 rule.1
  other ← field_at U64 place.1
  given ← given_at other.1
  families ← part_at given.1
  segment ← segment_at families.1
  Ok (record { block = block.0; fault = record { rule = rule.0; place = place.0; other = other.0 }; given = given.0; families = families.0; segment = segment.0 }, segment.1)

unfoldable pub lost_at : List ℕ → Result (Lost × List ℕ) ℕ
lost_at bytes = do
  given ← given_at bytes
  attestation ← envelope_at given.1
  segment ← segment_at attestation.1
  Ok (record { given = given.0; attestation = attestation.0; segment = segment.0 }, segment.1)

-- evidence of a kind, made of what was read
abbrev pub made : {A : Type 0} → (A → Evidence) → Result (A × List ℕ) ℕ → Result (Evidence × List ℕ) ℕ
made kind (Ok x) = Ok (kind x.0, x.1)
made kind (Err left) = Err left

-- the parts of a kind; for another number than 1 to 10, how many bytes are left from its byte on
unfoldable pub parts_at : ℕ → List ℕ → ℕ → Result (Evidence × List ℕ) ℕ
parts_at kind bytes left = if kind == 1 then made K1 (two_at bytes) else if kind == 2 then made K2 (two_at bytes) else if kind == 3 then made K3 (two_at bytes)
    else if kind == 4 then made K4 (closing_table_at bytes) else if kind == 5 then made K5 (two_at bytes) else if kind == 6 then made K6 (went_back_at bytes)
    else if kind == 7 then made K7 (broken_rule_at bytes) else if kind == 8 then made K8 (lost_at bytes) else if kind == 9 then made K9 (envelope_at bytes)
    else if kind == 10 then made K10 (envelope_at bytes) else Err left

-- all of the bytes, or the offset of the first byte that does not fit
unfoldable pub evidence_of : List ℕ → Result Evidence ℕ
evidence_of bytes = at_offset bytes (do
  tag ← field_at (Tag (codes "CPEV")) bytes
  kind ← field_at Byte tag.1
  evidence ← parts_at kind.0 kind.1 (length tag.1)
  ended evidence)
