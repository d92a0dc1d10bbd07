-- What was handed in, as it is read.
use Rattle.std.specs.Prelude.{ℕ, ◌≡◌, List, [], ◌∷◌, ◌++◌, length, map, filter, Result, Ok, Err, if◌then◌else◌, OnOk}
use Rattle.std.specs.Global.{Vec}
use Rattle.cp_statements.specs.View.{envelope_view}
use Rattle.cp_evidence.specs.Conditions.{signed_by}
use Rattle.cp_evidence.specs.HandIns.{hand_ins_of}
use Rattle.cp_audit.specs.declared.hand_ins.HandIns.{HandIns}
use Rattle.cp_audit.specs.declared.refusal.AuditRefusal.{AuditRefusal}
use Rattle.cp_audit.specs.declared.refusal.AuditRefusal.TheVariants.{NotGiven, Malformed, OutOfMemory}
use Rattle.cp_statements.specs.Envelope.{Envelope}
use Rattle.cp_statements.specs.declared.envelope.Envelope as code

-- their number, and those of them that verify
pub record AreHandedIn (key : List ℕ) (hand_ins : List Envelope) (x : HandIns) : Type 0 where
  pub count : x.count ≡ length hand_ins
  pub verified : map envelope_view x.verified.items ≡ filter (signed_by key) hand_ins

-- the hand-ins that the bytes are, or the offset of the first byte that does not fit; no answer says
-- anything of memory
abbrev pub Collects : List ℕ → List ℕ → Result HandIns AuditRefusal → Type 0
Collects key bytes (Ok x) = (hand_ins : List Envelope) × (hand_ins_of bytes ≡ Ok hand_ins) × AreHandedIn key hand_ins x
Collects key bytes (Err (Malformed at)) = hand_ins_of bytes ≡ Err at
Collects key bytes (Err OutOfMemory) = Unit {0}
Collects key bytes (Err (NotGiven what)) = ⊥

-- with one more, where it verifies
abbrev pub with_signed : List ℕ → code.Envelope → List code.Envelope → List code.Envelope
with_signed key x xs = if signed_by key (envelope_view x) then xs ++ x ∷ [] else xs

-- it is added where it verifies; want of memory says nothing
abbrev pub AddsSigned : {A E : Type 0} → List ℕ → code.Envelope → Vec code.Envelope → Vec code.Envelope → Result A E → Type 0
AddsSigned key x old new result = OnOk result (new.items ≡ with_signed key x old.items)
