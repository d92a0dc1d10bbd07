-- Where a log fails its tables.
use Rattle.std.specs.Prelude.{ℕ, ◌<◌, ◌≡◌, Bool, true, false, not, ◌&&◌, List, Option, Some, None, is_none, nat_lt, if◌then◌else◌}
use Rattle.std.specs.Option.{option_map_or}
use Rattle.cp_tips.specs.Table.{TableRow}
use Rattle.cp_chain.specs.Frame.{Frame}
use Rattle.cp_chain.specs.Log.{LogPart}
use Rattle.cp_chain.specs.Standing.{reaches}
use Rattle.cp_evidence.specs.Material.{log_fault, part_of, rose}
use Rattle.cp_audit.specs.Parts.{frame_in}
use Rattle.cp_audit.specs.declared.frames.Frames.{Frames}

-- the least number that passes the test; none where none passes
abbrev pub IsLeast : (ℕ → Bool) → Option ℕ → Type 0
IsLeast p (Some b) = (p b ≡ true) × ((c : ℕ) → c < b → p c ≡ false)
IsLeast p None = (c : ℕ) → p c ≡ false

-- the block's count rose, and it has no segment
abbrev pub lacks : List TableRow → List TableRow → List LogPart → ℕ → Bool
lacks before after parts b = is_none (part_of parts b) && rose before after b

-- the block has a segment that does not reach
abbrev pub astray : (ℕ → Frame) → List LogPart → ℕ → Bool
astray frame parts b = option_map_or (λ texts. not (reaches (frame b) texts)) (part_of parts b) false

-- the lesser of two numbers, or the one that there is
abbrev pub least_two : Option ℕ → Option ℕ → Option ℕ
least_two None b = b
least_two (Some a) None = Some a
least_two (Some a) (Some b) = Some (if nat_lt a b then a else b)

-- the block at which these parts fail the frames' tables
abbrev pub log_fault_in : Frames → List LogPart → Option ℕ
log_fault_in f parts = log_fault (frame_in f) f.before f.after parts
