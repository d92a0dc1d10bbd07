-- The segments of a log, as they are read.
use Rattle.std.specs.Prelude.{ℕ, suc, ◌≡◌, Bool, true, List, map, Option, Some, None, option_map, Result, Ok, IfOk, IsErr, codes}
use Rattle.std.specs.Global.{Vec}
use Rattle.std.specs.List.{AllByRecursion}
use Rattle.cp_bytes.specs.Cursor.{Cursor}
use Rattle.cp_bytes.specs.Fields.{◌>>=◌, field_at}
use Rattle.cp_bytes.specs.Fields.Field.{Tag, Epoch, U32, U64}
use Rattle.cp_chain.specs.Frame.{Frame}
use Rattle.cp_chain.specs.Log.{LogPart, Log, comes_behind, log_parts_at, log_of}
use Rattle.cp_chain.specs.Segment.{segment_at}
use Rattle.cp_chain.specs.Standing.{stands}
use Rattle.cp_chain.specs.View.{frame_view}
use Rattle.cp_statements.specs.View.{attestation_view}
use Rattle.cp_statements.specs.declared.attestation.Attestation.{Attestation}
use Rattle.cp_audit.specs.Heads as heads
use Rattle.cp_evidence.specs.Material.{frame_between}
use Rattle.cp_audit.specs.declared.frames.Frames.{Frames}
use Rattle.cp_audit.specs.declared.part.Part.{Part}

abbrev pub part_view : Part → LogPart
part_view p = record { block = p.frame.block; texts = p.segment }

-- it stands in its block's frame
abbrev pub IsFramed : Frames → Part → Type 0
IsFramed f p = frame_view p.frame ≡ frame_between f.store f.families f.epoch f.before f.after p.frame.block

-- the segment of a block that the reading gives, and the bytes behind it; none where it fails
abbrev pub TakesPart : Frames → ℕ → Option Part → Result (List (List ℕ) × List ℕ) ℕ → List ℕ → Type 0
TakesPart f block None read rest = IsErr read
TakesPart f block (Some p) read rest = (read ≡ Ok (p.segment, rest)) × (p.frame.block ≡ block) × IsFramed f p

-- the parts that the reading gives, and the bytes behind them; none where it fails
abbrev pub TakesParts : Frames → Option (List Part) → Result (List LogPart × List ℕ) ℕ → List ℕ → Type 0
TakesParts f None read rest = IsErr read
TakesParts f (Some parts) read rest = (read ≡ Ok (map part_view parts, rest)) × AllByRecursion (IsFramed f) parts

-- the block at the front, which comes behind the last one; none where no parts can be read
abbrev pub TakesBlock : Option ℕ → Cursor → Cursor → Option ℕ → Type 0
TakesBlock last old new (Some block) = (field_at U64 old.rest ≡ Ok (block, new.rest)) × (comes_behind last block ≡ true)
TakesBlock last old new None = (n : ℕ) → IsErr (log_parts_at (suc n) last old.rest)

-- ---- the log

-- what stands before the parts: the log's epoch, their number, and the bytes behind
unfoldable pub header_at : List ℕ → Result (ℕ × ℕ × List ℕ) ℕ
header_at bytes = do
  tag ← field_at (Tag (codes "CPl1")) bytes
  epoch ← field_at Epoch tag.1
  count ← field_at U32 epoch.1
  Ok (epoch.0, count.0, count.1)

-- the number of parts of a log of the epoch; none where no such log begins
abbrev pub TakesCount : ℕ → Cursor → Cursor → Option ℕ → Type 0
TakesCount epoch old new (Some count) = header_at old.rest ≡ Ok (epoch, count, new.rest)
TakesCount epoch old new None = (h : ℕ × ℕ × List ℕ) → header_at old.rest ≡ Ok h → h.0 ≡ epoch → ⊥

-- the parts of a log of the epoch; none where the bytes spell no such log
abbrev pub ReadsLog : Frames → Option (List Part) → List ℕ → Type 0
ReadsLog f None bytes = (l : Log) → log_of bytes ≡ Ok l → l.epoch ≡ f.epoch → ⊥
ReadsLog f (Some parts) bytes = (log_of bytes ≡ Ok (record { epoch = f.epoch; parts = map part_view parts })) × AllByRecursion (IsFramed f) parts

-- where a block's segment stands
abbrev pub frame_in : Frames → ℕ → Frame
frame_in f block = frame_between f.store f.families f.epoch f.before f.after block

-- ---- what the readers answer; want of memory says nothing

-- the segment of the block at the front of what is left
abbrev pub ReadsPart : {E : Type 0} → Frames → ℕ → Cursor → Cursor → Result (Option Part) E → Type 0
ReadsPart f block old new result = IfOk result (λ part. TakesPart f block part (segment_at old.rest) new.rest)

-- so many parts at the front of what is left
abbrev pub ReadsParts : {E : Type 0} → Frames → ℕ → Cursor → Cursor → Result (Option (Vec Part)) E → Type 0
ReadsParts f count old new result = IfOk result (λ parts. TakesParts f (option_map (λ v. v.items) parts) (log_parts_at count None old.rest) new.rest)

-- the parts of the log that all of the bytes are
abbrev pub ReadsWholeLog : {E : Type 0} → Frames → List ℕ → Result (Option (Vec Part)) E → Type 0
ReadsWholeLog f bytes result = IfOk result (λ parts. ReadsLog f (option_map (λ v. v.items) parts) bytes)

-- ---- attestations of a part

-- it is of this segment
abbrev pub stands_in : Part → Attestation → Bool
stands_in p a = stands (frame_view p.frame) p.segment (attestation_view a)

-- it is of the text at the place
abbrev pub is_at_place : Part → Attestation → ℕ → Bool
is_at_place p a place = heads.stands_at p.frame.before.head p.segment (attestation_view a) place
