-- Logs: the segments of all blocks that gained a text in an epoch (this project's own). A log is the
-- tag "CPl1", the epoch, a number of four bytes, and so many times a block and its segment.
use Rattle.std.specs.Prelude.{ℕ, zero, suc, ◌<◌, ◌≤◌, ◌^◌, ◌≡◌, Bool, true, ◌&&◌, List, [], ◌∷◌, ◌++◌, length, Option, Some, None, Result, Ok, Err, if◌then◌else◌, codes, flat_map}
use Rattle.std.specs.Int.{w32, w64, to_be_bytes}
use Rattle.std.specs.List.{AllByRecursion}
use Rattle.cp_bytes.specs.Fields.{◌>>=◌, field_at, ended, at_offset}
use Rattle.cp_bytes.specs.Fields.Field.{Tag, U32, U64, Epoch}
pub use Rattle.cp_tips.specs.Rows.{comes_behind}
use Rattle.cp_chain.specs.Segment.{SegmentFits, segment_text, segment_at, first_or_none}

-- a block and its segment
pub record LogPart : Type 0 where
  pub block : ℕ
  pub texts : List (List ℕ)

pub record Log : Type 0 where
  pub epoch : ℕ
  pub parts : List LogPart

unfoldable pub log_part_text : LogPart → List ℕ
log_part_text p = to_be_bytes w64 p.block ++ segment_text p.texts

-- its bytes
unfoldable pub log_text : Log → List ℕ
log_text l = codes "CPl1" ++ (to_be_bytes w64 l.epoch ++ (to_be_bytes w32 (length l.parts) ++ flat_map log_part_text l.parts))

-- each segment's block is greater than the one before it
abbrev pub parts_ascend : Option ℕ → List LogPart → Bool
parts_ascend before [] = true
parts_ascend before (p ∷ ps) = comes_behind before p.block && parts_ascend (Some p.block) ps

abbrev pub LogPartFits : LogPart → Type 0
LogPartFits p = (p.block < 2 ^ 64) × SegmentFits p.texts

abbrev pub LogFits : Log → Type 0
LogFits l = ((1 ≤ l.epoch) × (l.epoch < 2 ^ 64)) × (length l.parts < 2 ^ 32) × (parts_ascend None l.parts ≡ true) × AllByRecursion LogPartFits l.parts

-- A block and its segment at the front, behind the block before. The order is judged as soon as the
-- block is there, and a block that breaks it is refused at its first byte.
unfoldable pub log_part_at : Option ℕ → List ℕ → Result (LogPart × List ℕ) ℕ
log_part_at before bytes = do
  block ← field_at U64 bytes
  texts ← (if comes_behind before block.0 then segment_at block.1 else Err (length bytes))
  Ok (record { block = block.0; texts = texts.0 }, texts.1)

-- so many of them
unfoldable pub log_parts_at : ℕ → Option ℕ → List ℕ → Result (List LogPart × List ℕ) ℕ
log_parts_at zero before bytes = Ok ([], bytes)
log_parts_at (suc n) before bytes = do
  first ← log_part_at before bytes
  others ← log_parts_at n (Some first.0.block) first.1
  Ok (first.0 ∷ others.0, others.1)

-- those at the front; none where the bytes do not spell them
unfoldable pub log_parts_in : ℕ → Option ℕ → List ℕ → List LogPart
log_parts_in n before bytes = first_or_none (log_parts_at n before bytes)

-- what all of the bytes spell, or the offset of the first byte that does not fit
unfoldable pub log_of : List ℕ → Result Log ℕ
log_of bytes = at_offset bytes (do
  tag ← field_at (Tag (codes "CPl1")) bytes
  epoch ← field_at Epoch tag.1
  count ← field_at U32 epoch.1
  parts ← log_parts_at count.0 None count.1
  done ← ended parts
  Ok (record { epoch = epoch.0; parts = done }))
