-- What is given, as it is read.
use Rattle.std.specs.Prelude.{ℕ, ◌≡◌, List, [], map, Option, Some, None, option_map, Result, Ok, Err, if◌then◌else◌}
use Rattle.std.specs.Global.{Vec}
use Rattle.std.specs.Result.{result_ok}
use Rattle.std.specs.List.{AllByRecursion}
use Rattle.cp_families.specs.Families.{FamilyRow}
use Rattle.cp_chain.specs.Frame.{Frame}
use Rattle.cp_chain.specs.Log.{LogPart, log_of}
use Rattle.cp_chain.specs.View.{frame_view}
use Rattle.cp_evidence.specs.Material as material
use Rattle.cp_evidence.specs.View.{before_view, signed_closing_view}
use Rattle.cp_evidence.specs.declared.before.Before.{Before}
use Rattle.cp_evidence.specs.declared.before.SignedClosing.{SignedClosing}
use Rattle.cp_evidence.specs.declared.store.Store.{Store}
use Rattle.cp_audit.specs.declared.frames.Frames.{Frames}
use Rattle.cp_audit.specs.declared.given.GivenEpoch.{GivenEpoch}
use Rattle.cp_audit.specs.declared.part.Part.{Part}
use Rattle.cp_audit.specs.declared.refusal.AuditRefusal.{AuditRefusal}
use Rattle.cp_audit.specs.declared.refusal.AuditRefusal.TheVariants.{NotGiven, Malformed, OutOfMemory}
use Rattle.cp_audit.specs.View.{material_view, what_view}
use Rattle.cp_audit.specs.declared.material.Material.{Material}
use Rattle.cp_audit.specs.Parts.{part_view, IsFramed, frame_in}

-- the refusal is what this gives; want of memory says nothing
abbrev pub Refuses : {A : Type 0} → Result A material.What → AuditRefusal → Type 0
Refuses r (NotGiven what) = r ≡ Err (what_view what)
Refuses r (Malformed at) = ⊥
Refuses r OutOfMemory = Unit {0}

-- what the log of the frames' epoch gives
abbrev pub log_by : Frames → List ℕ → Result (Option (List LogPart)) material.What
log_by f bytes = material.log_given f.epoch (frame_in f) f.before f.after (result_ok (log_of bytes))

-- The answer is what the log gives; no answer says anything of memory.
abbrev pub LogIsGiven : Frames → List ℕ → Result (Vec Part) AuditRefusal → Type 0
LogIsGiven f bytes (Ok parts) = (log_by f bytes ≡ Ok (Some (map part_view parts.items))) × AllByRecursion (IsFramed f) parts.items
LogIsGiven f bytes (Err refusal) = Refuses (log_by f bytes) refusal

-- ---- the log, where it is read

-- where the segments of an epoch stand
abbrev pub frame_by : Store → List FamilyRow → material.Material → ℕ → Frame
frame_by store families m = material.frame_between store.id families m.epoch (material.rows_in_table m.table_before) (material.rows_in_table m.table)

abbrev pub log_where : Store → List FamilyRow → material.Material → Option material.SignedClosing → material.SignedClosing → Result (Option (List LogPart)) material.What
log_where store families m before closing = if material.log_is_read m (material.before_in before) closing.closing
    then material.log_given m.epoch (frame_by store families m) (material.rows_in_table m.table_before) (material.rows_in_table m.table) (result_ok (log_of m.log)) else Ok None

-- its parts stand in their frames
abbrev pub AreFramed : (ℕ → Frame) → Option (Vec Part) → Type 0
AreFramed frame None = Unit {0}
AreFramed frame (Some parts) = AllByRecursion (λ p. frame_view p.frame ≡ frame p.frame.block) parts.items

abbrev pub seen : Option (Vec Part) → Option (List LogPart)
seen log = option_map (λ parts. map part_view parts.items) log

-- its parts; none where it is not read
abbrev pub parts_read : Option (Vec Part) → List Part
parts_read None = []
parts_read (Some parts) = parts.items

abbrev pub GivesLog : Store → List FamilyRow → material.Material → Option material.SignedClosing → material.SignedClosing → Result (Option (Vec Part)) AuditRefusal → Type 0
GivesLog store families m before closing (Ok log) = (log_where store families m before closing ≡ Ok (seen log)) × AreFramed (frame_by store families m) log
GivesLog store families m before closing (Err refusal) = Refuses (log_where store families m before closing) refusal

-- what stands before the log, as the code has it
abbrev pub GivesLogOf : Store → List FamilyRow → Material → Before → SignedClosing → Result (Option (Vec Part)) AuditRefusal → Type 0
GivesLogOf store families m before closing result = GivesLog store families (material_view m) (before_view before) (signed_closing_view closing) result

-- ---- what is given

abbrev pub given_view : GivenEpoch → material.GivenEpoch
given_view g = record { key = g.store.key; epoch = g.epoch; families_text = g.families_text.now; families = g.families; before = before_view g.before; closing = signed_closing_view g.closing; table_before = g.table_before.now; table = g.table.now; log = seen g.log }

abbrev pub Gives : material.Material → Result GivenEpoch AuditRefusal → Type 0
Gives m (Ok g) = (material.given_of m ≡ Ok (given_view g)) × AreFramed (material.frame_for (given_view g)) g.log
Gives m (Err refusal) = Refuses (material.given_of m) refusal
